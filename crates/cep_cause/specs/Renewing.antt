-- Private.
-- How a log is renewed, step by step.
use Rattle.std.specs.Prelude.{◌≡◌, ℕ, ◌<◌, List, [], ◌++◌, length, Option, Some, None, slice_get, IfSome, IsSomeAnd}
use Rattle.std.specs.List.{AllByRecursion, AllZip, flat_map}
use Rattle.cep_base.specs.declared.limits.TheConstants.{MOST_LOG}
use Rattle.cep_term.specs.Multiset.{Multiset}
use Rattle.cep_rule.specs.declared.rule.Rule.{Rule}
use Rattle.cep_rule.specs.declared.signature.Signature.{Signature}
use Rattle.cep_rule.specs.declared.parts.Parts.{Parts}
use Rattle.cep_rule.specs.Shapes.{IsOfferOf, IsProofOf}
use Rattle.cep_rule.specs.Steps.{Spot, StepsTo, start_spot}
use Rattle.cep_step.specs.Spots.{IsSpotOf}
use Rattle.cep_lines.specs.declared.version.Version.TheVariants.{Two}
use Rattle.cep_lines.specs.Lines.{line, deed_lines, end_lines}
use Rattle.cep_log.specs.declared.log.Log.{Log}
use Rattle.cep_log.specs.declared.log.LogStep.{LogStep}
use Rattle.cep_log.specs.declared.log.LogEnd.{LogEnd}
use Rattle.cep_log.specs.Legal.{IsStepOf, HaveListings, AreLegalSteps, IsLegalEnd}
use Rattle.cep_log.specs.Written.{steps_texts, DoTheSame}

-- A step can be put: its offer and its derivations are the program's, and its stage is one of the
-- program's.
pub record CanBePut (program : Parts) (step : LogStep) : Type 0 where
  pub offer : IsOfferOf program step.offer
  pub proofs : AllByRecursion (IsProofOf program) step.proofs
  pub stage : IfSome step.stage (λ stage. stage < length program.stages)

-- A step leads from one spot to another, by its rule with its values.
pub record LeadsTo (program : Parts) (step : LogStep) (old new : Spot) : Type 0 where
  pub rule : Rule
  pub numbered : slice_get program.rules step.offer.rule ≡ Some rule
  pub steps : StepsTo program rule step.offer.values old new

-- the lines of the step of a number in version 2, where it leads to a state
abbrev pub renewed_lines : Parts → ℕ → LogStep → Multiset → List ℕ
renewed_lines program number step state =
    deed_lines program step.offer step.proofs step.stage number state

-- the lines of the end, where there is one
abbrev pub last_lines : Signature → Option LogEnd → Multiset → List ℕ
last_lines signature None state = []
last_lines signature (Some end) state = end_lines signature end.word state

-- The bytes are the lines of these steps renewed, which are numbered from here on and lead from one
-- spot to another.
pub record AreRenewedLines (program : Parts) (height number : ℕ) (steps : List LogStep)
    (old last : Spot) (bytes : List ℕ) : Type 0 where
  pub new : List LogStep
  pub does : AllZip DoTheSame steps new
  pub of_program : AllByRecursion (IsStepOf program) new
  pub listed : HaveListings Two number new
  pub legal : AreLegalSteps program height new old last
  pub written : bytes ≡ flat_map line (steps_texts program number new)

-- The bytes are the lines of all steps of a log renewed, which lead to a spot at which its end is
-- legal.
pub record AreAllRenewed (program : Parts) (log : Log) (last : Spot) (bytes : List ℕ) : Type 0 where
  pub ending : IsSomeAnd log.end (IsLegalEnd program log.height last)
  pub lines : AreRenewedLines program log.height 1 log.steps (start_spot program) last bytes

-- What renewing all steps at the end of a text comes to: they are renewed, and lead to this spot,
-- or the text with their lines is too long.
abbrev pub AreRenewedOrLong : Parts → Log → List ℕ → List ℕ → Option Spot → Type 0
AreRenewedOrLong program log before after (Some last) =
    IsSpotOf program last
    × ((bytes : List ℕ) × AreAllRenewed program log last bytes × (after ≡ before ++ bytes))
AreRenewedOrLong program log before after None =
    (last : Spot) × (bytes : List ℕ) × AreAllRenewed program log last bytes
    × (MOST_LOG < length (before ++ bytes))

-- A log is being renewed after a text: these steps are left, of which the first has this number;
-- they are legal from this spot on; and whatever their lines are, with those so far they are the
-- lines of all steps.
pub record IsRenewingAt (program : Parts) (log : Log) (number : ℕ) (left : List LogStep)
    (before text : List ℕ) (spot : Spot) : Type 0 where
  pub here : IsSpotOf program spot
  pub last : Spot
  pub of_program : AllByRecursion (IsStepOf program) left
  pub legal : AreLegalSteps program log.height left spot last
  pub ending : IsSomeAnd log.end (IsLegalEnd program log.height last)
  pub whole : (rest : List ℕ)
      → AreRenewedLines program log.height number left spot last rest
      → (bytes : List ℕ)
      × AreRenewedLines program log.height 1 log.steps (start_spot program) last bytes
      × (before ++ bytes ≡ text ++ rest)
