-- The canonical texts of terms, atoms, offers and derivations, and which of these have one.
use Rattle.std.specs.Prelude.{ℕ, ◌+◌, List, [], ◌∷◌, ◌++◌, Option, None, Some, slice_get, IsSomeAnd, codes, decimal}
use Rattle.cep_term.specs.Tree.{Tree, Trees, AtomTree, variable, node, none, more, IsGroundAtom}
use Rattle.cep_rule.specs.declared.signature.Con.{Con}
use Rattle.cep_rule.specs.declared.signature.PredDecl.{PredDecl}
use Rattle.cep_rule.specs.declared.signature.Signature.{Signature}
use Rattle.cep_rule.specs.declared.rule.Rule.{Rule}
use Rattle.cep_rule.specs.declared.parts.Parts.{Parts}
use Rattle.cep_rule.specs.declared.offer.Offer.{Offer}
use Rattle.cep_rule.specs.Patterns.{ClauseTree}
use Rattle.cep_rule.specs.Typing.{IsTyped, IsValue}
use Rattle.cep_rule.specs.Derivations.{ProofTree, ProofTrees, by_clause, no_goal, goal_by}

-- the name of a constructor
abbrev pub con_name : Option Con → List ℕ
con_name (Some con) = con.name
con_name None = []

-- the name of a predicate
abbrev pub pred_name : Option PredDecl → List ℕ
pred_name (Some pred) = pred.name
pred_name None = []

-- the name of a rule
abbrev pub offer_name : Option Rule → List ℕ
offer_name (Some rule) = rule.name
offer_name None = []

-- the names of a rule's variables
abbrev pub rule_vars : Option Rule → List (List ℕ)
rule_vars (Some rule) = rule.vars
rule_vars None = []

-- the names of a clause's variables
abbrev pub clause_vars : Option ClauseTree → List (List ℕ)
clause_vars (Some clause) = clause.vars
clause_vars None = []

-- a text in parentheses, but bare where there are no arguments
abbrev pub enclosed : Trees → List ℕ → List ℕ
enclosed none text = text
enclosed (more t rest) text = codes "(" ++ (text ++ codes ")")

-- The text of a ground term, as it stands as an argument: its constructor's name, and where it has arguments, in parentheses, one space and the text of each after it. (A variable has no text.)
abbrev mutual
  pub term_text : Signature → Tree → List ℕ
  term_text signature (variable v) = []
  term_text signature (node c args) = enclosed args (con_name (slice_get signature.cons c) ++ args_text signature args)

  pub args_text : Signature → Trees → List ℕ
  args_text signature none = []
  args_text signature (more t rest) = codes " " ++ (term_text signature t ++ args_text signature rest)

-- The text of a ground atom: its predicate's name, and then one space and the text of each argument.
abbrev pub atom_text : Signature → AtomTree → List ℕ
atom_text signature a = pred_name (slice_get signature.preds a.pred) ++ args_text signature a.args

-- what a variable is given: one space, its name, `=`, and the text of its value
abbrev pub given_text : Signature → List ℕ → Tree → List ℕ
given_text signature name value = codes " " ++ (name ++ (codes "=" ++ term_text signature value))

-- what each variable is given, in order
abbrev pub all_given_text : Signature → List (List ℕ) → List Tree → List ℕ
all_given_text signature [] values = []
all_given_text signature (name ∷ names) [] = []
all_given_text signature (name ∷ names) (value ∷ values) = given_text signature name value ++ all_given_text signature names values

-- The text of an offer: its rule's name, and what each variable of the rule is given.
abbrev pub offer_text : Parts → Offer → List ℕ
offer_text program offer =
    offer_name (slice_get program.rules offer.rule)
    ++ all_given_text program.signature (rule_vars (slice_get program.rules offer.rule)) offer.values

-- how a derivation begins: a bracket, its clause's number counted from 1, and what each variable of the clause is given
abbrev pub begin_text : Parts → ℕ → List Tree → List ℕ
begin_text program number values =
    codes "["
    ++ (decimal (number + 1)
    ++ all_given_text program.signature (clause_vars (slice_get program.clauses number)) values)

-- how this derivation begins
abbrev pub begin_of : Parts → ProofTree → List ℕ
begin_of program (by_clause number values subs) = begin_text program number values

-- The text of a derivation: it begins so, and for each goal there follow one space and the text of its derivation, and then a bracket.
abbrev mutual
  pub proof_text : Parts → ProofTree → List ℕ
  proof_text program (by_clause number values subs) = begin_text program number values ++ (proofs_text program subs ++ codes "]")

  pub proofs_text : Parts → ProofTrees → List ℕ
  proofs_text program no_goal = []
  proofs_text program (goal_by proof proofs) = codes " " ++ (proof_text program proof ++ proofs_text program proofs)

-- A ground term, well typed: a value of some type.
pub record IsGroundTerm (signature : Signature) (t : Tree) : Type 0 where
  pub sort : ℕ
  pub value : IsValue signature.cons sort t

-- A ground atom, well typed.
pub record IsTypedGround (signature : Signature) (a : AtomTree) : Type 0 where
  pub is_ground : IsGroundAtom a
  pub typed : IsTyped signature [] a

-- Each node of a term or of arguments is a constructor that is declared.
abbrev mutual
  pub HasNames : List Con → Tree → Type 0
  HasNames cons (variable v) = ⊥
  HasNames cons (node c args) = IsSomeAnd (slice_get cons c) (λ con. Unit {0}) × HaveNames cons args

  pub HaveNames : List Con → Trees → Type 0
  HaveNames cons none = Unit {0}
  HaveNames cons (more t rest) = HasNames cons t × HaveNames cons rest
