-- The text of a derivation, piece by piece.
use Rattle.std.proofs.Common.{◌≡◌, ℕ, List, [], ◌∷◌, ◌++◌, append_assoc, sym, ap, subst, ◌∙◌, ◌+◌, suc, take, append-nil, arith}
use Rattle.std.specs.Prelude.{Result, OnErr, Some, slice_get}
use Rattle.cep_base.proofs.Outcomes.{on_err}
use Rattle.cep_term.specs.Tree.{Tree, Trees, node, more}
use Rattle.cep_rule.specs.Derivations.{ProofTree, by_clause}
use Rattle.cep_rule.specs.declared.parts.Parts.{Parts}
use Rattle.cep_rule.specs.declared.signature.Signature.{Signature}
use Rattle.cep_rule.specs.declared.signature.Con.{Con}
use Rattle.cep_text.specs.Texts.{term_text, args_text, given_text, all_given_text, begin_text, begin_of, proof_text, proofs_text}
use Rattle.cep_text.specs.Writing.{IsBegun}

-- Fronts of a text that is added piece by piece.

-- a prefix of the first piece was added
pub begun_first : (old one next new : List ℕ) → IsBegun old one new → IsBegun old (one ++ next) new
begun_first old one next new begun = grind (arith, append_assoc)

-- the first piece was added, and a prefix of what follows
pub begun_then : (old one next mid new : List ℕ) → mid ≡ old ++ one → IsBegun mid next new → IsBegun old (one ++ next) new
begun_then old one next mid new done begun = grind (arith, append_assoc)

-- of a term with arguments the parenthesis and the name were added, and a prefix of the arguments
pub enclosed_begun : {T E : Type 0} (r : Result T E) (signature : Signature) (tree : Tree) (c : ℕ) (args : Trees) (con : Con) (name old opened named new : List ℕ) (t : Tree) (rest : Trees)
    → tree ≡ node c args → slice_get signature.cons c ≡ Some con → name ≡ con.name → args ≡ more t rest
    → opened ≡ old ++ 40 ∷ [] → named ≡ opened ++ name → IsBegun named (args_text signature args) new
    → OnErr r (IsBegun old (term_text signature tree) new)
enclosed_begun r signature tree c args con name old opened named new t rest is found spelled some first then_name begun =
    let text = args_text signature (more t rest) in
    let behind : IsBegun named text new = subst (λ list. IsBegun named (args_text signature list) new) some begun in
    let inside : IsBegun opened (con.name ++ text) new = begun_then opened con.name text named new (then_name ∙ ap (λ bytes. opened ++ bytes) spelled) behind in
    let whole : IsBegun old (40 ∷ [] ++ ((con.name ++ text) ++ 41 ∷ [])) new =
    begun_then old (40 ∷ []) ((con.name ++ text) ++ 41 ∷ []) opened new first (begun_first opened (con.name ++ text) (41 ∷ []) new inside) in
    on_err r _ (subst (λ other. IsBegun old (term_text signature other) new) (sym (is ∙ ap (λ list. node c list) some)) (rw found whole))

-- What the variables are given, one after another.

-- what the first so many variables are given
abbrev pub first_given : Signature → List (List ℕ) → List Tree → ℕ → List ℕ
first_given signature names values i = all_given_text signature (take i names) (take i values)

-- one variable more
step_by : (signature : Signature) (i : ℕ) (names : List (List ℕ)) (values : List Tree) (name : List ℕ) (value : Tree)
    → slice_get names i ≡ Some name → slice_get values i ≡ Some value
    → first_given signature names values (suc i) ≡ first_given signature names values i ++ given_text signature name value
step_by signature (suc i) (n ∷ names) (v ∷ values) name value e f = grind (arith, append_assoc, step_by signature i names values name value e f)
step_by signature i names values name value e f = grind (arith, append-nil)

-- and then the rest
rest_by : (signature : Signature) (i : ℕ) (names : List (List ℕ)) (values : List Tree)
    → (rest : List ℕ) × (all_given_text signature names values ≡ first_given signature names values i ++ rest)
rest_by signature (suc i) (n ∷ names) (v ∷ values) = grind (arith, append_assoc, rest_by signature i names values)
rest_by signature i names values = grind arith

pub given_step : (signature : Signature) (i : ℕ) (names : List (List ℕ)) (values : List Tree) (name : List ℕ) (value : Tree) (old mid new : List ℕ)
    → slice_get names i ≡ Some name → slice_get values i ≡ Some value
    → mid ≡ old ++ first_given signature names values i → new ≡ mid ++ given_text signature name value
    → new ≡ old ++ first_given signature names values (i + 1)
given_step signature i names values name value old mid new e f before one = grind (arith, append_assoc, step_by)

pub given_begun : {T E : Type 0} (r : Result T E) (signature : Signature) (i : ℕ) (names : List (List ℕ)) (values : List Tree) (name : List ℕ) (value : Tree) (old mid new : List ℕ)
    → slice_get names i ≡ Some name → slice_get values i ≡ Some value
    → mid ≡ old ++ first_given signature names values i → IsBegun mid (given_text signature name value) new
    → OnErr r (IsBegun old (all_given_text signature names values) new)
given_begun r signature i names values name value old mid new e f before begun = grind (arith, rest_by signature (suc i) names values, step_by signature i names values name value e f, append_assoc, begun_then, begun_first, on_err)

-- Fronts of the text of a derivation.

head_begun : (program : Parts) (tree : ProofTree) (old new : List ℕ) → IsBegun old (begin_of program tree) new → IsBegun old (proof_text program tree) new
head_begun program (by_clause number values subs) old new begun = grind (arith, begun_first old (begin_text program number values) (proofs_text program subs ++ 93 ∷ []) new begun)

-- a prefix of what stands before the goals
pub node_begun : {T E : Type 0} (r : Result T E) (program : Parts) (tree : ProofTree) (old new : List ℕ)
    → IsBegun old (begin_of program tree) new → OnErr r (IsBegun old (proof_text program tree) new)
node_begun r program tree old new begun = on_err r _ (head_begun program tree old new begun)

-- what stands before the goals, and a prefix of theirs
pub node_goes_on : {T E : Type 0} (r : Result T E) (program : Parts) (tree : ProofTree) (goals old mid new : List ℕ)
    → mid ≡ old ++ begin_of program tree → IsBegun mid goals new → proof_text program tree ≡ begin_of program tree ++ (goals ++ 93 ∷ [])
    → OnErr r (IsBegun old (proof_text program tree) new)
node_goes_on r program tree goals old mid new before begun whole = grind (arith, on_err, begun_then, begun_first)
