use Rattle.cep_cause.specs.Reorderings.{step_places}
use Rattle.cep_cause.specs.Walking.{AreDueAt}
use Rattle.cep_cause.proofs.Walked.{IsGiven, IsWalkingAt}
use Rattle.cep_cause.proofs.WrittenOrder.{IsTelling}
use Rattle.cep_cause.proofs.walking.walk.Given as goal

abbrev pub invariant-loop-i : goal.invariant-loop-i
invariant-loop-i l =
    ((given : IsGiven l.program l.log l.order) → IsWalkingAt l.program l.log l.order given l.i l.spot
    × IsTelling l.program l.log (step_places l.order) l.i l.text l.spot)
    × AreDueAt l.log.steps l.order l.i l.rules
