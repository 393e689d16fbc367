-- What the steps of a log do to tokens.
use Rattle.std.specs.Prelude.{◌≡◌, ℕ, ◌+◌, Bool, List, [], ◌∷◌, ◌++◌, length, Some, slice_get, is_some}
use Rattle.cep_term.specs.Tree.{AtomTree}
use Rattle.cep_term.specs.Multiset.{gained}
use Rattle.cep_rule.specs.declared.rule.Rule.{Rule}
use Rattle.cep_rule.specs.declared.parts.Parts.{Parts}
use Rattle.cep_rule.specs.declared.offer.Offer.{Offer}
use Rattle.cep_rule.specs.Typing.{is_fact}
use Rattle.cep_rule.specs.Instances.{full_instances}
use Rattle.cep_log.specs.declared.log.Log.{Log}
use Rattle.cep_log.specs.declared.log.LogStep.{LogStep}
use Rattle.cep_cause.specs.Tokens.{Token, numbered, token_state, start_tokens, staying, ArePicks, picked_to_go}

-- What a step does to tokens: those that it uses, those of them that it removes, and those that it
-- makes; and whether it is a barrier, which leaves a stage.
pub record Touch : Type 0 where
  pub uses : List Token
  pub removes : List Token
  pub makes : List Token
  pub barrier : Bool

-- the tokens that are present after a step
abbrev pub present_after : List Token → Touch → List Token
present_after present touch = staying touch.removes present ++ touch.makes

-- the tokens that are present after steps
abbrev pub present_after_all : List Token → List Touch → List Token
present_after_all present [] = present
present_after_all present (touch ∷ touches) =
    present_after_all (present_after present touch) touches

-- the atoms for which tokens are made: the instances of a rule's right atoms, but for facts that
-- are among the tokens that stay, or are made already
abbrev pub atoms_made : Parts → List Token → Offer → Rule → List AtomTree
atoms_made program stay offer rule =
    gained (is_fact program.signature) (token_state stay)
    (full_instances offer.values rule.right)

-- A step touches the tokens that are present: it uses those that are picked for its premises,
-- removes those whose premises do not stay, and makes tokens, numbered from here on.
pub record IsTouch (program : Parts) (next : ℕ) (present : List Token) (step : LogStep)
    (touch : Touch) : Type 0 where
  pub rule : Rule
  pub numbered_by : slice_get program.rules step.offer.rule ≡ Some rule
  pub uses : ArePicks program.signature step.offer.values present [] rule.premises touch.uses
  pub removes : touch.removes ≡ picked_to_go program.signature rule.premises touch.uses
  pub makes : touch.makes
      ≡ numbered next (atoms_made program (staying touch.removes present) step.offer rule)
  pub barrier : touch.barrier ≡ is_some rule.next

-- Each step touches the tokens that the one before it leaves.
abbrev pub AreTouches : Parts → ℕ → List Token → List LogStep → List Touch → Type 0
AreTouches program next present [] [] = Unit {0}
AreTouches program next present [] (touch ∷ touches) = ⊥
AreTouches program next present (step ∷ steps) [] = ⊥
AreTouches program next present (step ∷ steps) (touch ∷ touches) =
    IsTouch program next present step touch
    × AreTouches program (next + length touch.makes) (present_after present touch) steps touches

-- These are the touches of a log, from the tokens of the program's start state on.
abbrev pub AreTouchesOf : Parts → Log → List Touch → Type 0
AreTouchesOf program log touches =
    AreTouches program (length (start_tokens program.start)) (start_tokens program.start)
    log.steps touches
