-- Private.
-- Reading canonical texts from left to right, on lists alone: each reading gives what stands at the front of the bytes, and the bytes after it. Only functions inside this crate are described by it.
use Rattle.std.specs.Prelude.{◌≡◌, ℕ, zero, suc, ◌==◌, ◌-◌, if◌then◌else◌, List, [], ◌∷◌, ◌++◌, length, take, drop, map, codes, decimal, Option, Some, None, Result, Ok, Err, slice_get, nat_le, bytes_eq}
use Rattle.std.specs.List.{prefix_len}
use Rattle.cep_base.specs.declared.limits.TheConstants.{MOST_DEPTH, MOST_NODES}
use Rattle.cep_term.specs.Tree.{Tree, Trees, AtomTree, node, none, more, term_nodes, argument_nodes}
use Rattle.cep_rule.specs.declared.signature.Con.{Con}
use Rattle.cep_rule.specs.declared.signature.PredDecl.{PredDecl}
use Rattle.cep_rule.specs.declared.signature.Signature.{Signature}
use Rattle.cep_rule.specs.declared.rule.Rule.{Rule}
use Rattle.cep_rule.specs.declared.offer.Offer.{Offer}
use Rattle.cep_rule.specs.declared.parts.Stage.{Stage}
use Rattle.cep_rule.specs.declared.parts.Parts.{Parts}
use Rattle.cep_base.specs.Spelling.{is_name_byte}
use Rattle.cep_rule.specs.Patterns.{ClauseTree}
use Rattle.cep_rule.specs.Derivations.{ProofTree, ProofTrees, by_clause, no_goal, goal_by}
use Rattle.cep_text.specs.declared.stop.Stop.{Stop}
use Rattle.cep_text.specs.declared.stop.Stop.TheVariants as stops

infixl 10 ◌>>=◌
abbrev pub ◌>>=◌ : {A B : Type 0} → Option A → (A → Option B) → Option B
None >>= f = None
(Some x) >>= f = f x

-- What a function answered, seen by view, is what the reading gives, unless memory ran out.
abbrev pub Fails : {Y : Type 0} → Stop → Option Y → Type 0
Fails (stops.Memory error) read = Unit {0}
Fails stops.Unread read = read ≡ None

abbrev pub Gives : {X Y : Type 0} → (X → Y) → Result X Stop → Option Y → Type 0
Gives view (Ok x) read = read ≡ Some (view x)
Gives view (Err stop) read = Fails stop read

-- what is read at the front of bytes, and the bytes after it
abbrev pub Reader : Type 0 → Type 0
Reader X = List ℕ → Option (X × List ℕ)

-- the bytes after a word that stands at the front
unfoldable pub literal_at : List ℕ → List ℕ → Option (List ℕ)
literal_at [] bytes = Some bytes
literal_at (letter ∷ word) [] = None
literal_at (letter ∷ word) (byte ∷ bytes) = if letter == byte then literal_at word bytes else None

-- how many bytes of a name stand at the front
abbrev pub name_len : List ℕ → ℕ
name_len bytes = prefix_len is_name_byte bytes

-- the bytes of a name at the front, and those after
abbrev pub front_name : List ℕ → List ℕ
front_name bytes = take (name_len bytes) bytes

abbrev pub behind_name : List ℕ → List ℕ
behind_name bytes = drop (name_len bytes) bytes

-- the place of a name
unfoldable pub number_among : List (List ℕ) → List ℕ → Option ℕ
number_among [] name = None
number_among (other ∷ names) name = if bytes_eq other name then Some zero else (number_among names name >>= λ number. Some (suc number))

-- the names of constructors, of predicates, of stages, and of rules
abbrev pub con_names : List Con → List (List ℕ)
con_names cons = map (λ con. con.name) cons

abbrev pub pred_names : List PredDecl → List (List ℕ)
pred_names preds = map (λ pred. pred.name) preds

abbrev pub stage_names : List Stage → List (List ℕ)
stage_names stages = map (λ stage. stage.name) stages

abbrev pub rule_names : List Rule → List (List ℕ)
rule_names rules = map (λ rule. rule.name) rules

-- the constructor's number and the types of its arguments, if it is of the type
abbrev pub of_sort : ℕ → ℕ → Option Con → Option (ℕ × List ℕ)
of_sort sort number None = None
of_sort sort number (Some con) = if con.sort == sort then Some (number, con.args) else None

-- a constructor of the type, by its name
unfoldable pub con_at : List Con → ℕ → Reader (ℕ × List ℕ)
con_at cons sort bytes = do
  number ← number_among (con_names cons) (front_name bytes)
  con ← of_sort sort number (slice_get cons number)
  Some (con, behind_name bytes)

-- a constructor without arguments
unfoldable pub bare_at : List Con → ℕ → Reader Tree
bare_at cons sort bytes = do
  con ← con_at cons sort bytes
  if length con.0.1 == 0 then Some (node con.0.0 none, con.1) else None

-- an argument after its space
unfoldable pub argument_at : Reader Tree → Reader Tree
argument_at value bytes = do
  behind ← literal_at (codes " ") bytes
  value behind

-- arguments of these types
unfoldable pub arguments_at : (ℕ → Reader Tree) → List ℕ → Reader Trees
arguments_at value [] bytes = Some (none, bytes)
arguments_at value (sort ∷ sorts) bytes = do
  first ← argument_at (value sort) bytes
  others ← arguments_at value sorts first.1
  Some (more first.0 others.0, others.1)

-- some arguments, and the parenthesis that ends them
unfoldable pub inside_at : (ℕ → Reader Tree) → List ℕ → Reader Trees
inside_at value sorts bytes = do
  args ← (if length sorts == 0 then None else arguments_at value sorts bytes)
  behind ← literal_at (codes ")") args.1
  Some (args.0, behind)

-- a constructor with arguments, after its parenthesis
unfoldable pub enclosed_at : (ℕ → Reader Tree) → List Con → ℕ → Reader Tree
enclosed_at value cons sort bytes = do
  con ← con_at cons sort bytes
  args ← inside_at value con.0.1 con.1
  Some (node con.0.0 args.0, args.1)

-- a term after its parenthesis, or without one
abbrev pub value_by : (ℕ → Reader Tree) → List Con → ℕ → Option (List ℕ) → Reader Tree
value_by value cons sort None bytes = bare_at cons sort bytes
value_by value cons sort (Some inside) bytes = enclosed_at value cons sort inside

-- a term of the type, of at most so many levels
unfoldable pub value_at : List Con → ℕ → ℕ → Reader Tree
value_at cons zero sort bytes = None
value_at cons (suc depth) sort bytes = value_by (value_at cons depth) cons sort (literal_at (codes "(") bytes) bytes

-- a term of the type, within the sizes of one
unfoldable pub small_at : List Con → ℕ → Reader Tree
small_at cons sort bytes = do
  value ← value_at cons MOST_DEPTH sort bytes
  if nat_le (term_nodes value.0) MOST_NODES then Some value else None

-- what was read, where nothing stands after it
abbrev pub whole : {X : Type 0} → X × List ℕ → Option X
whole read = if length read.1 == 0 then Some read.0 else None

-- all of the bytes as a term of the type
unfoldable pub term_read : List Con → ℕ → List ℕ → Option Tree
term_read cons sort bytes = do
  value ← small_at cons sort bytes
  whole value

-- the predicate's number and the types of its arguments
abbrev pub pred_head : ℕ → Option PredDecl → Option (ℕ × List ℕ)
pred_head number None = None
pred_head number (Some pred) = Some (number, pred.args)

-- a predicate, by its name
unfoldable pub pred_at : List PredDecl → Reader (ℕ × List ℕ)
pred_at preds bytes = do
  number ← number_among (pred_names preds) (front_name bytes)
  pred ← pred_head number (slice_get preds number)
  Some (pred, behind_name bytes)

-- all of the bytes as an atom
unfoldable pub atom_read : Signature → List ℕ → Option AtomTree
atom_read signature bytes = do
  pred ← pred_at signature.preds bytes
  args ← arguments_at (value_at signature.cons (MOST_DEPTH - 1)) pred.0.1 pred.1
  all ← whole args
  if nat_le (argument_nodes all) (MOST_NODES - 1) then Some (record { pred = pred.0.0; args = all }) else None

-- what one variable is given
unfoldable pub given_at : Reader Tree → List ℕ → Reader Tree
given_at value name bytes = do
  space ← literal_at (codes " ") bytes
  named ← literal_at name space
  equals ← literal_at (codes "=") named
  value equals

-- what the variables of these names and types are given, after the values before
unfoldable pub givens_at : (ℕ → Reader Tree) → List (List ℕ) → List ℕ → List Tree → Reader (List Tree)
givens_at value [] kinds before bytes = Some (before, bytes)
givens_at value (name ∷ names) [] before bytes = None
givens_at value (name ∷ names) (kind ∷ kinds) before bytes = do
  first ← given_at (value kind) name bytes
  givens_at value names kinds (before ++ first.0 ∷ []) first.1

-- a rule, by its name
unfoldable pub rule_at : List Rule → Reader (ℕ × Rule)
rule_at rules bytes = do
  number ← number_among (rule_names rules) (front_name bytes)
  rule ← slice_get rules number
  Some ((number, rule), behind_name bytes)

-- all of the bytes as an offer, whose values are read so
unfoldable pub offer_read : Parts → (ℕ → Reader Tree) → List ℕ → Option Offer
offer_read program value bytes = do
  rule ← rule_at program.rules bytes
  values ← givens_at value rule.0.1.vars rule.0.1.kinds [] rule.1
  all ← whole values
  Some (record { rule = rule.0.0; values = all })

-- the place, counted from 0, of which the word is the number, counted from 1
unfoldable pub numbered_by : ℕ → List ℕ → Option ℕ
numbered_by zero word = None
numbered_by (suc place) word = if bytes_eq (decimal (suc place)) word then Some place else numbered_by place word

-- a clause, by its number
unfoldable pub clause_at : List ClauseTree → Reader (ℕ × ClauseTree)
clause_at clauses bytes = do
  number ← numbered_by (length clauses) (front_name bytes)
  clause ← slice_get clauses number
  Some ((number, clause), behind_name bytes)

-- how a derivation begins: its clause, the values, and how many goals follow
unfoldable pub begin_at : Parts → (ℕ → Reader Tree) → Reader (ℕ × List Tree × ℕ)
begin_at program value bytes = do
  bracket ← literal_at (codes "[") bytes
  clause ← clause_at program.clauses bracket
  values ← givens_at value clause.0.1.vars clause.0.1.kinds [] clause.1
  Some ((clause.0.0, values.0, length clause.0.1.goals), values.1)

-- derivations of so many goals
unfoldable pub proofs_at : Reader ProofTree → ℕ → Reader ProofTrees
proofs_at proof zero bytes = Some (no_goal, bytes)
proofs_at proof (suc goals) bytes = do
  space ← literal_at (codes " ") bytes
  first ← proof space
  others ← proofs_at proof goals first.1
  Some (goal_by first.0 others.0, others.1)

-- a derivation, whose goals' derivations are read so
unfoldable pub node_at : Parts → (ℕ → Reader Tree) → Reader ProofTree → Reader ProofTree
node_at program value proof bytes = do
  begun ← begin_at program value bytes
  subs ← proofs_at proof begun.0.2 begun.1
  behind ← literal_at (codes "]") subs.1
  Some (by_clause begun.0.0 begun.0.1 subs.0, behind)

-- a derivation that is at most so high
unfoldable pub proof_at : Parts → (ℕ → Reader Tree) → ℕ → Reader ProofTree
proof_at program value zero bytes = None
proof_at program value (suc height) bytes = node_at program value (proof_at program value height) bytes

-- all of the bytes as a derivation that is at most so high
unfoldable pub proof_read : Parts → (ℕ → Reader Tree) → ℕ → List ℕ → Option ProofTree
proof_read program value height bytes = do
  proof ← proof_at program value height bytes
  whole proof
