-- A log whose steps are done in another order.
use Rattle.std.specs.Prelude.{◌≡◌, ℕ, ◌+◌, ◌<◌, List, [], ◌∷◌, ◌++◌, length, map, None, Some, slice_get, IsSomeAnd}
use Rattle.std.specs.List.{AllByRecursion}
use Rattle.cep_base.specs.declared.limits.TheConstants.{MOST_LOG}
use Rattle.cep_term.specs.Multiset.{Multiset}
use Rattle.cep_rule.specs.declared.rule.Rule.{Rule}
use Rattle.cep_rule.specs.declared.parts.Parts.{Parts}
use Rattle.cep_rule.specs.State.{Fits}
use Rattle.cep_rule.specs.Step.{Step}
use Rattle.cep_rule.specs.Steps.{Spot, start_spot}
use Rattle.cep_lines.specs.declared.version.Version.TheVariants.{One}
use Rattle.cep_log.specs.declared.log.Log.{Log}
use Rattle.cep_log.specs.declared.log.LogStep.{LogStep}
use Rattle.cep_log.specs.Legal.{AreLegalSteps, IsLegalEnd}
use Rattle.cep_log.specs.Transcript.{HasLog}
use Rattle.cep_log.specs.Written.{text_of, IsRenewal}
use Rattle.cep_cause.specs.Reorderings.{step_places}
use Rattle.cep_cause.specs.declared.reordered.Reordered.{Reordered}
use Rattle.cep_cause.specs.declared.reordered.Reordered.TheVariants as answer

-- The second list has what stands at these places of the first, one after another.
abbrev pub StandAt : {X : Type 0} → List X → List ℕ → List X → Type 0
StandAt all [] [] = Unit {0}
StandAt all [] (x ∷ xs) = ⊥
StandAt all (place ∷ places) [] = ⊥
StandAt all (place ∷ places) (x ∷ xs) = (slice_get all place ≡ Some x) × StandAt all places xs

-- the log with other steps
abbrev pub with_steps : Log → List LogStep → Log
with_steps log steps = record log { steps = steps }

-- A log is another one renewed in an order: it is a renewal of that log with its steps in the
-- order.
pub record IsRenewalIn (program : Parts) (places : List ℕ) (old new : Log) : Type 0 where
  pub steps : List LogStep
  pub stand : StandAt old.steps places steps
  pub renews : IsRenewal program (with_steps old steps) new

-- the places of a list, from this one on
abbrev pub written_places : {X : Type 0} → ℕ → List X → List ℕ
written_places place [] = []
written_places place (x ∷ xs) = place ∷ written_places (place + 1) xs

-- Numbers are those of all steps in the order in which they are written, counted from 1.
pub record IsWrittenOrder (steps : List LogStep) (order : List ℕ) : Type 0 where
  pub counted : AllByRecursion (λ number. 0 < number) order
  pub places : step_places order ≡ written_places 0 steps

-- the step with no listing after it
abbrev pub unlisted : LogStep → LogStep
unlisted step = record step { mid = None }

-- The steps at these places, with no listings.
pub record AreUnlistedSteps (all : List LogStep) (places : List ℕ) (steps : List LogStep)
    : Type 0 where
  pub listed : List LogStep
  pub stand : StandAt all places listed
  pub unlist : steps ≡ map unlisted listed

-- Of steps that are done from a spot on, the one of a number, counted from 1, is the first that
-- leads to a state that does not fit: those before it are legal.
pub record IsUnfitAt (program : Parts) (height : ℕ) (old : Spot) (steps : List LogStep)
    (number : ℕ) : Type 0 where
  pub before : List LogStep
  pub step : LogStep
  pub after : List LogStep
  pub parts : steps ≡ before ++ (step ∷ after)
  pub counted : number ≡ length before + 1
  pub here : Spot
  pub legal : AreLegalSteps program height before old here
  pub rule : Rule
  pub numbered : slice_get program.rules step.offer.rule ≡ Some rule
  pub new : Multiset
  pub leads : Step program.signature rule step.offer.values here.state new
  pub unfit : ¬ Fits new

-- A log is another one in an order: its steps are those at these places, with no listings, so it is
-- of version 1; all else is the same.
pub record IsInOrder (log : Log) (places : List ℕ) (other : Log) : Type 0 where
  pub steps : AreUnlistedSteps log.steps places other.steps
  pub rest : other ≡ record log { version = One; steps = other.steps }

-- The step of a number in an order of a log is the first that leads to a state that does not fit.
pub record IsUnfitIn (program : Parts) (log : Log) (places : List ℕ) (number : ℕ) : Type 0 where
  pub steps : List LogStep
  pub are : AreUnlistedSteps log.steps places steps
  pub unfit : IsUnfitAt program log.height (start_spot program) steps number

-- All steps of a log, done in an order, are legal, and lead to a spot at which its end is legal.
pub record AreLegalIn (program : Parts) (log : Log) (places : List ℕ) : Type 0 where
  pub steps : List LogStep
  pub last : Spot
  pub are : AreUnlistedSteps log.steps places steps
  pub legal : AreLegalSteps program log.height steps (start_spot program) last
  pub ending : IsSomeAnd log.end (IsLegalEnd program log.height last)

-- The text is a log's in an order: it is a transcript of that log renewed in the order, as it is
-- written, with no line that is passed over.
pub record IsTextIn (program : Parts) (places : List ℕ) (log : Log) (text : List ℕ) : Type 0 where
  pub new : Log
  pub renews : IsRenewalIn program places log new
  pub read : HasLog program text new
  pub written : text ≡ text_of program new

-- No transcript is a log's in an order, since the text of that log renewed in it is too long.
pub record IsTooLongIn (program : Parts) (places : List ℕ) (log : Log) : Type 0 where
  pub new : Log
  pub renews : IsRenewalIn program places log new
  pub long : MOST_LOG < length (text_of program new)

-- What doing a log in an order comes to: its text; or the first step that leads to a state that
-- does not fit, by its number in the order; or that text is too long.
abbrev pub ComesTo : Parts → List ℕ → Log → Reordered → Type 0
ComesTo program places log (answer.Done text) = IsTextIn program places log text
ComesTo program places log (answer.Unfit at) = IsUnfitIn program log places at
ComesTo program places log answer.TooLong = IsTooLongIn program places log
