-- Private.
-- What traces say after some steps, and what one step more does.
use Rattle.std.specs.Prelude.{◌≡◌, ◌↔◌, ◌⊎◌, ℕ, ◌+◌, ◌<◌, List, [], ◌∷◌, ◌++◌, length, Contains}
use Rattle.std.specs.List.{AllByRecursion}
use Rattle.std.specs.List.Sorted.{IsStrictlyIncreasing}
use Rattle.cep_term.specs.Tree.{Tree}
use Rattle.cep_term.specs.Multiset.{gained}
use Rattle.cep_rule.specs.declared.signature.Signature.{Signature}
use Rattle.cep_rule.specs.declared.rule.Rule.{Rule}
use Rattle.cep_rule.specs.Typing.{is_fact}
use Rattle.cep_rule.specs.Instances.{full_instances}
use Rattle.cep_cause.specs.Tokens.{Token, numbered, token_state, staying, ArePicks, picked_to_go}
use Rattle.cep_cause.specs.Touches.{Touch, present_after}
use Rattle.cep_cause.specs.Graphs.{RestsOnAt}
use Rattle.cep_graph.specs.Queues.{Queues}
use Rattle.cep_graph.specs.Traces.{NumbersIncrease, MakesAt, UsesAt, AreTraced}

-- The tokens that are present are traced, and have increasing numbers below the next one, as all
-- that were made or used.
pub record IsTrail (signature : Signature) (done : List Touch) (present : List Token) (next : ℕ)
    (queues : Queues) : Type 0 where
  pub increasing : NumbersIncrease present
  pub below : (token : Token) → Contains present token → token.number < next
  pub passed : (place : ℕ) (token : Token) → MakesAt done place token ⊎ UsesAt done place token
      → token.number < next
  pub traced : AreTraced signature done present queues

-- A step by a rule touches the tokens that are present.
pub record IsTouchBy (signature : Signature) (values : List Tree) (rule : Rule) (next : ℕ)
    (present : List Token) (touch : Touch) : Type 0 where
  pub uses : ArePicks signature values present [] rule.premises touch.uses
  pub removes : touch.removes ≡ picked_to_go signature rule.premises touch.uses
  pub makes : touch.makes
      ≡ numbered next (gained (is_fact signature) (token_state (staying touch.removes present))
      (full_instances values rule.right))

-- A step was done more: these are the numbers of the steps on which it rests.
pub record HasTouched (signature : Signature) (done : List Touch) (present : List Token) (next : ℕ)
    (touch : Touch) (new : Queues) (after : List ℕ) : Type 0 where
  pub increasing : IsStrictlyIncreasing after
  pub counted : AllByRecursion (λ number. 0 < number) after
  pub rests : (place : ℕ) → (Contains after (place + 1) ↔ RestsOnAt done touch place)
  pub trail : IsTrail signature (done ++ touch ∷ []) (present_after present touch)
      (next + length touch.makes) new

-- However the step of a number touches tokens, it was done.
abbrev pub TouchesBy : Signature → List Tree → Rule → ℕ → Queues → Queues → List ℕ → Type 0
TouchesBy signature values rule number old new after =
    (done : List Touch) (present : List Token) (next : ℕ) (touch : Touch)
    → number ≡ length done + 1
    → IsTrail signature done present next old
    → IsTouchBy signature values rule next present touch
    → HasTouched signature done present next touch new after
