-- Private.
-- The laws by which a log is renewed step by step.
use Rattle.std.specs.Prelude.{◌≡◌, ℕ, ◌+◌, ◌<◌, ◌≤◌, List, [], ◌∷◌, ◌++◌, length}
use Rattle.cep_base.specs.declared.limits.TheConstants.{MOST_LOG}
use Rattle.cep_rule.specs.declared.parts.Parts.{Parts}
use Rattle.cep_rule.specs.Program.{IsProgram}
use Rattle.cep_rule.specs.Steps.{Spot, start_spot}
use Rattle.cep_step.specs.Spots.{IsSpotOf}
use Rattle.cep_lines.specs.Lines.{header}
use Rattle.cep_log.specs.declared.log.Log.{Log}
use Rattle.cep_log.specs.declared.log.LogStep.{LogStep}
use Rattle.cep_log.specs.Legal.{IsStepOf, IsLegalStep, IsLegal}
use Rattle.cep_cause.specs.Renewed.{IsRenewedText, IsTooLongRenewed}
use Rattle.cep_cause.specs.Renewing.{CanBePut, LeadsTo, renewed_lines, last_lines, IsRenewingAt}

-- A legal step can be put. A legal log is being renewed at first, and after each step that is done
-- and whose lines are written. What is too long so far is too long in the end. After all steps it is
-- renewed by the lines of the end, if these are not too long.
pub record StepwiseLaws : Type 0 where
  pub put : (program : Parts) (height : ℕ) (old new : Spot) (step : LogStep) → IsProgram program
      → IsStepOf program step → IsLegalStep program height old new step → CanBePut program step
  pub begins : (program : Parts) (log : Log) (before : List ℕ) (spot : Spot) → IsProgram program
      → IsLegal program log → spot ≡ start_spot program → IsSpotOf program spot
      → IsRenewingAt program log 1 log.steps before before spot
  pub goes_on : (program : Parts) (log : Log) (number : ℕ) (before text : List ℕ) (old : Spot)
      (step : LogStep) (left : List LogStep) (new : Spot) → IsProgram program
      → IsRenewingAt program log number (step ∷ left) before text old
      → LeadsTo program step old new → IsSpotOf program new
      → IsRenewingAt program log (number + 1) left before
      (text ++ renewed_lines program number step new.state) new
  pub too_long : (program : Parts) (log : Log) (number : ℕ) (left : List LogStep) (text : List ℕ)
      (spot : Spot) → IsProgram program → IsLegal program log
      → IsRenewingAt program log number left (header program log.height) text spot
      → MOST_LOG < length text → IsTooLongRenewed program log
  pub ends : (program : Parts) (log : Log) (number : ℕ) (text whole : List ℕ) (last : Spot)
      → IsProgram program → IsLegal program log
      → IsRenewingAt program log number [] (header program log.height) text last
      → whole ≡ text ++ last_lines program.signature log.end last.state
      → (length whole ≤ MOST_LOG → IsRenewedText program log whole)
      × (MOST_LOG < length whole → IsTooLongRenewed program log)
