use Rattle.std.proofs.Common.{ℕ, ◌≤◌, drop}
use Rattle.cep_rule.specs.Steps.{Spot}
use Rattle.cep_step.specs.Spots.{IsSpotOf}
use Rattle.cep_log.specs.Legal.{AreLegalSteps}
use Rattle.cep_check.specs.declared.cause.Cause.{Cause}
use Rattle.cep_check.specs.Causes.{IsRefusedFrom}
use Rattle.cep_check.proofs.checking.last_spot.Given as goal

abbrev pub invariant-loop-i : goal.invariant-loop-i
invariant-loop-i g l = record {
  here : IsSpotOf l.program l.spot;
  legal : (last : Spot) → AreLegalSteps l.program l.log.height (drop l.i l.log.steps) l.spot last → AreLegalSteps l.program l.log.height l.log.steps l.initial.spot last;
  refused : (line : ℕ) (cause : Cause) → IsRefusedFrom l.program l.log l.spot (drop l.i l.log.steps) line cause → IsRefusedFrom l.program l.log l.initial.spot l.log.steps line cause;
  risen : l.initial.steps ≤ l.steps;
}
