use Rattle.std.proofs.Common.{refl}
use Rattle.std.proofs.lemmas.Result.{IfOk-weaker}
use Rattle.cep_check.specs.Causes.{CanTake, IsProvedStep}
use Rattle.cep_check.proofs.Options.{in_either}
use Rattle.cep_check.proofs.Verdicts.{in_range_all, ground_all, of_stage, of_no_stage, lack_cause, failure_cause, quiet_cause}
use Rattle.cep_check.proofs.step.cause_before.Goals as goal

pub not_contained-requires-clause-in_range : goal.not_contained-requires-clause-in_range
not_contained-requires-clause-in_range g c = in_range_all c.types_are_lawful.ensures c.args.program.now.signature _ _ c.requires.ready.values _ c.requires.ready.typed.premises

pub not_contained-requires-clause-ground : goal.not_contained-requires-clause-ground
not_contained-requires-clause-ground g c = ground_all c.types_are_lawful.ensures c.args.program.now.signature _ _ c.requires.ready.values _ c.requires.ready.typed.premises

pub not_contained-requires-clause-few : goal.not_contained-requires-clause-few
not_contained-requires-clause-few g c = c.requires.ready.small.premises

pub first_failure-requires-clause-in_range : goal.first_failure-requires-clause-in_range
first_failure-requires-clause-in_range g c = in_range_all c.types_are_lawful.ensures c.args.program.now.signature _ _ c.requires.ready.values _ c.requires.ready.typed.backs

pub first_failure-requires-clause-few : goal.first_failure-requires-clause-few
first_failure-requires-clause-few g c = c.requires.ready.small.backs

pub not_quiet-requires-clause-of_stage : goal.not_quiet-requires-clause-of_stage
not_quiet-requires-clause-of_stage g c = of_stage _ c.args.rule.now (rw c.stage.ensures.stage at c.if-rule-stage.false)

pub returns-then-rule-stage-clause-cause : goal.returns-then-rule-stage-clause-cause
returns-then-rule-stage-clause-cause g c = (refl, of_no_stage _ c.args.rule.now (rw c.stage.ensures.stage at c.if-rule-stage.true))

pub returns-in-Some-clause-cause : goal.returns-in-Some-clause-cause
returns-in-Some-clause-cause g c = lack_cause _ _ _ _ _ c.in-Some.cause (of_stage _ c.args.rule.now (rw c.stage.ensures.stage at c.if-rule-stage.false)) (rw c.state.ensures.state at (rw c.in-Some.is at c.in_ok-cause.ensures))

pub returns-in-Some-2-clause-cause : goal.returns-in-Some-2-clause-cause
returns-in-Some-2-clause-cause g c =
    let can : CanTake c.args.program.now c.args.spot.now c.args.rule.now c.args.step.now.offer = record { of_stage = of_stage _ c.args.rule.now (rw c.stage.ensures.stage at c.if-rule-stage.false); contained = rw c.state.ensures.state at (rw c.in_default.is at c.in_ok-cause.ensures) } in
    failure_cause _ c.args.height _ _ c.args.step.now c.in-Some-2.cause can (rw c.in-Some-2.is at c.in_ok-cause-2.ensures)

pub returns-clause-cause : goal.returns-clause-cause
returns-clause-cause g c =
    let can : CanTake c.args.program.now c.args.spot.now c.args.rule.now c.args.step.now.offer = record { of_stage = of_stage _ c.args.rule.now (rw c.stage.ensures.stage at c.if-rule-stage.false); contained = rw c.state.ensures.state at (rw c.in_default.is at c.in_ok-cause.ensures) } in
    let is_proved : IsProvedStep c.args.program.now c.args.height c.args.spot.now c.args.rule.now c.args.step.now = record { can_take = can; proved = rw c.in_default-2.is at c.in_ok-cause-2.ensures } in
    IfOk-weaker c.not_quiet.result _ _
    (λ cause is. in_either (λ quiet. record { is_proved = is_proved; quiet = quiet }) (λ one there. quiet_cause _ _ _ _ _ one is_proved there) cause is)
    c.not_quiet.ensures.cause
