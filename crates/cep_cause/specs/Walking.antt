-- Private.
-- How the steps of a log are done in an order, one after another.
use Rattle.std.specs.Prelude.{◌≡◌, ◌⊎◌, ℕ, ◌+◌, ◌-◌, ◌%◌, ◌<◌, ◌≤◌, List, [], ◌++◌, length, Some, slice_get}
use Rattle.cep_base.specs.declared.limits.TheConstants.{MOST_LOG}
use Rattle.cep_term.specs.Multiset.{Multiset}
use Rattle.cep_rule.specs.declared.rule.Rule.{Rule}
use Rattle.cep_rule.specs.declared.parts.Parts.{Parts}
use Rattle.cep_rule.specs.State.{Fits}
use Rattle.cep_rule.specs.Step.{Step}
use Rattle.cep_rule.specs.Steps.{Spot, MakesFit, StepsTo}
use Rattle.cep_step.specs.Spots.{IsSpotOf}
use Rattle.cep_step.specs.Changes.{CanStep}
use Rattle.cep_lines.specs.declared.version.Version.TheVariants.{One}
use Rattle.cep_lines.specs.Lines.{header}
use Rattle.cep_log.specs.declared.log.Log.{Log}
use Rattle.cep_log.specs.declared.log.LogStep.{LogStep}
use Rattle.cep_log.specs.Legal.{IsLegal}
use Rattle.cep_cause.specs.Renewed.{IsTooLongRenewed}
use Rattle.cep_cause.specs.Renewing.{IsRenewingAt}
use Rattle.cep_cause.specs.Reordered.{AreUnlistedSteps}

-- A step can be done from a state, and what it makes is fit.
pub record CanGo (program : Parts) (step : LogStep) (state : Multiset) : Type 0 where
  pub rule : Rule
  pub numbered : slice_get program.rules step.offer.rule ≡ Some rule
  pub fit : MakesFit rule step.offer.values
  pub can : CanStep program rule step.offer.values state

-- A step leads from one spot to another, which is one of the program's.
pub record GoesTo (program : Parts) (step : LogStep) (old new : Spot) : Type 0 where
  pub rule : Rule
  pub numbered : slice_get program.rules step.offer.rule ≡ Some rule
  pub steps : StepsTo program rule step.offer.values old new
  pub of_program : IsSpotOf program new

-- A step leads from a state to one that does not fit.
pub record GoesOut (program : Parts) (step : LogStep) (old : Multiset) : Type 0 where
  pub rule : Rule
  pub numbered : slice_get program.rules step.offer.rule ≡ Some rule
  pub new : Multiset
  pub leads : Step program.signature rule step.offer.values old new
  pub unfit : ¬ Fits new

-- Lines are written at the end of a text, unless it is too long: then it stays as it is.
abbrev pub WritesUnlessLong : List ℕ → List ℕ → List ℕ → Type 0
WritesUnlessLong lines before after =
    (length before ≤ MOST_LOG → after ≡ before ++ lines)
    × (MOST_LOG < length before → after ≡ before)

-- the log with these steps, with no listings after them
abbrev pub log_of : Log → List LogStep → Log
log_of log steps = record log { version = One; steps = steps }

-- A log is being renewed, with its start in front; or the text is too long already, and so is that
-- of the log renewed.
abbrev pub IsToldAt : Parts → Log → ℕ → List LogStep → List ℕ → Spot → Type 0
IsToldAt program log number left text here =
    IsRenewingAt program log number left (header program log.height) text here
    ⊎ ((MOST_LOG < length text) × IsTooLongRenewed program log)

-- A log is done in an order, which leads here, and the text holds its start and its steps, or is
-- too long: with its steps in the order it is legal.
pub record IsToldIn (program : Parts) (log : Log) (places : List ℕ) (text : List ℕ) (here : Spot)
    : Type 0 where
  pub of_program : IsSpotOf program here
  pub steps : List LogStep
  pub are : AreUnlistedSteps log.steps places steps
  pub legal : IsLegal program (log_of log steps)
  pub number : ℕ
  pub told : IsToldAt program (log_of log steps) number [] text here

-- The rules of the steps in the same block of 64 of an order as a place, up to its end.
pub record AreRulesAt (steps : List LogStep) (order : List ℕ) (place : ℕ) (rules : List ℕ)
    : Type 0 where
  pub each : (k number : ℕ) (step : LogStep) → k < 64
      → slice_get order (place - place % 64 + k) ≡ Some number
      → slice_get steps (number - 1) ≡ Some step
      → slice_get rules k ≡ Some step.offer.rule

-- The rules are those of the block, where the place does not begin one.
abbrev pub AreDueAt : List LogStep → List ℕ → ℕ → List ℕ → Type 0
AreDueAt steps order place rules = 0 < place % 64 → AreRulesAt steps order place rules
