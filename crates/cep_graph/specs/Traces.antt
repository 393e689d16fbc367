-- Private.
-- What traces of tokens say of the steps so far.
use Rattle.std.specs.Prelude.{◌≡◌, ◌↔◌, ◌⊎◌, ℕ, ◌+◌, ◌<◌, true, false, List, [], ◌∷◌, ◌++◌, length, filter, Some, slice_get, Contains}
use Rattle.std.specs.List.{AllByRecursion, AllZip}
use Rattle.std.specs.Ordering.{eq_by_cmp}
use Rattle.cep_term.specs.Tree.{Tree, AtomTree}
use Rattle.cep_term.specs.Order.{atom_cmp}
use Rattle.cep_term.specs.Multiset.{gained}
use Rattle.cep_rule.specs.declared.signature.Signature.{Signature}
use Rattle.cep_rule.specs.Patterns.{PremiseTree}
use Rattle.cep_rule.specs.Typing.{is_fact}
use Rattle.cep_rule.specs.Instances.{full_instances}
use Rattle.cep_cause.specs.Tokens.{Token, numbered, token_state, has_number, staying, ArePicks, picked_to_go}
use Rattle.cep_cause.specs.Touches.{Touch}
use Rattle.cep_cause.specs.Graphs.{RestsOnAt}
use Rattle.cep_graph.specs.declared.trace.Trace.{Trace}
use Rattle.cep_graph.specs.Queues.{Queues, queue_of}

-- the tokens of an atom, in order
abbrev pub tokens_of : AtomTree → List Token → List Token
tokens_of a tokens = filter (λ (token : Token). eq_by_cmp atom_cmp token.atom a) tokens

-- Each token has a number below those of all that follow it.
abbrev pub NumbersIncrease : List Token → Type 0
NumbersIncrease [] = Unit {0}
NumbersIncrease (token ∷ tokens) =
    AllByRecursion (λ (later : Token). token.number < later.number) tokens × NumbersIncrease tokens

-- The step at a place made the token.
abbrev pub MakesAt : List Touch → ℕ → Token → Type 0
MakesAt done place token =
    (touch : Touch) × (slice_get done place ≡ Some touch) × Contains touch.makes token

-- The step at a place used the token.
abbrev pub UsesAt : List Touch → ℕ → Token → Type 0
UsesAt done place token =
    (touch : Touch) × (slice_get done place ≡ Some touch) × Contains touch.uses token

-- A trace says which step so far made a token, and if it is of no fact which steps used it.
pub record IsTrace (signature : Signature) (done : List Touch) (token : Token) (trace : Trace)
    : Type 0 where
  pub maker : (place : ℕ) → ((trace.maker ≡ place + 1) ↔ MakesAt done place token)
  pub users : is_fact signature token.atom ≡ false
      → (place : ℕ) → (Contains trace.users (place + 1) ↔ UsesAt done place token)

-- The queue of each atom has the traces of its tokens.
abbrev pub AreTraced : Signature → List Touch → List Token → Queues → Type 0
AreTraced signature done tokens queues =
    (a : AtomTree) → AllZip (IsTrace signature done) (tokens_of a tokens) (queue_of queues a)

-- A step, whose touch this is, picks tokens for these premises, after others that it uses; of those
-- the linear ones are out.
pub record IsTaking (signature : Signature) (values : List Tree) (present used out : List Token)
    (premises : List PremiseTree) (uses : List Token) (touch : Touch) : Type 0 where
  pub increasing : NumbersIncrease present
  pub picks : ArePicks signature values present used premises uses
  pub linear : (token : Token) → Contains present token → is_fact signature token.atom ≡ false
      → ((has_number out token.number ≡ true) ↔ Contains used token)
  pub facts : (token : Token) → Contains present token → is_fact signature token.atom ≡ true
      → has_number out token.number ≡ false
  pub all : (token : Token)
      → (Contains touch.uses token ↔ (Contains used token ⊎ Contains uses token))
  pub fresh : (token : Token) → Contains present token → ¬ Contains touch.makes token

-- a touch of which only the tokens that it uses and removes count
abbrev pub using : List Token → List Token → Touch
using uses removes = record { uses = uses; removes = removes; makes = []; barrier = false }

-- The numbers are those of before, and of the steps on which one rests that uses these tokens and
-- removes those.
abbrev pub AddsNumbers : List Touch → List Token → List Token → List ℕ → List ℕ → Type 0
AddsNumbers done uses removes old new =
    (place : ℕ)
    → (Contains new (place + 1)
    ↔ (Contains old (place + 1) ⊎ RestsOnAt done (using uses removes) place))

-- The tokens were picked: those that stay of them are back, and the step stands in their traces.
pub record HasTaken (signature : Signature) (done : List Touch) (present out : List Token)
    (premises : List PremiseTree) (uses : List Token) (touch : Touch) (new : Queues)
    (numbers numbers' : List ℕ) : Type 0 where
  pub traced : AreTraced signature (done ++ touch ∷ [])
      (staying (picked_to_go signature premises uses ++ out) present) new
  pub adds : AddsNumbers done uses (picked_to_go signature premises uses) numbers numbers'

-- However a step picks tokens for these premises, they were taken, and the numbers of their makers
-- and users were added.
abbrev pub TakesFor : Signature → List Tree → List PremiseTree → ℕ → Queues → Queues → List ℕ
    → List ℕ → Type 0
TakesFor signature values premises number old new numbers numbers' =
    (done : List Touch) (present used out uses : List Token) (touch : Touch)
    → number ≡ length done + 1
    → IsTaking signature values present used out premises uses touch
    → AreTraced signature done (staying out present) old
    → HasTaken signature done present out premises uses touch new numbers numbers'

-- The tokens that a step makes are new: it does not use them, and no earlier step made or used one.
abbrev pub AreFresh : List Touch → Touch → Type 0
AreFresh done touch =
    (token : Token) → Contains touch.makes token
    → (¬ Contains touch.uses token)
    × ((place : ℕ) → ¬ MakesAt done place token) × ((place : ℕ) → ¬ UsesAt done place token)

-- the tokens that are made for the instances of atoms, but for facts that are there
abbrev pub made_for : Signature → List Tree → List Token → ℕ → List AtomTree → List Token
made_for signature values tokens next atoms =
    numbered next (gained (is_fact signature) (token_state tokens) (full_instances values atoms))

-- However the step of a number makes tokens for the instances of these atoms, after others, they
-- were added.
abbrev pub MakesFor : Signature → List Tree → List AtomTree → ℕ → Queues → Queues → Type 0
MakesFor signature values atoms number old new =
    (done : List Touch) (touch : Touch) (before tokens : List Token) (next : ℕ)
    → number ≡ length done + 1
    → AreFresh done touch
    → touch.makes ≡ before ++ made_for signature values tokens next atoms
    → AreTraced signature (done ++ touch ∷ []) tokens old
    → AreTraced signature (done ++ touch ∷ [])
    (tokens ++ made_for signature values tokens next atoms) new

-- The queues have the tokens of these atoms, which are of the start.
abbrev pub AreOfStart : List AtomTree → Queues → Type 0
AreOfStart atoms queues = (signature : Signature) → AreTraced signature [] (numbered 0 atoms) queues
