use Rattle.std.proofs.Common.{◌<◌, ◌≤◌, ◌-◌, ◌%◌, ℕ, length, sym, ◌∙◌, arith}
use Rattle.std.proofs.lemmas.Option.{slice_get_within}
use Rattle.cep_base.proofs.Lists.{some_same, holds_at, get_mapped}
use Rattle.cep_cause.proofs.NextRules.{rule_there, rules_stay}
use Rattle.cep_cause.specs.Reorderings.{step_places}
use Rattle.cep_cause.proofs.WrittenOrder.{length_map, numbers_within, telling_begins, telling_goes_on, told_in}
use Rattle.cep_cause.proofs.Walked.{given_by, walk_begins, can_go, can_put, walk_goes_on, walk_stops, walk_ends, few_steps}
use Rattle.cep_cause.proofs.walking.walk.Goals as goal

pub loop-i-init : goal.loop-i-init
loop-i-init c = (
  λ given. (
    walk_begins c.args.program.now c.args.log.now c.args.order.now given c.in_ok-spot.spot c.in_ok-spot.ensures.of_program c.in_ok-spot.ensures.start,
    telling_begins c.logs_are_renewed_step_by_step.ensures c.args.program.now c.parts.ensures.kept c.args.log.now (step_places c.args.order.now) c.args.text.now c.in_ok-spot.spot c.requires.begins c.in_ok-spot.ensures.start c.in_ok-spot.ensures.of_program,
  ),
  λ inside. absurd (omega (arith, inside)),
)

pub get-step-requires : goal.get-step-requires
get-step-requires c =
    let within = holds_at (λ number. (0 < number) × (number ≤ length c.args.log.now.steps)) c.args.order.now c.loop-i.i c.get.result.now
    (numbers_within c.args.program.now c.args.log.now c.requires.order.0 c.args.order.now c.requires.order.1 c.requires.order.2) c.get.ensures in
    omega arith

pub overflow_sub-get : goal.overflow_sub-get
overflow_sub-get c =
    let within = holds_at (λ number. (0 < number) × (number ≤ length c.args.log.now.steps)) c.args.order.now c.loop-i.i c.get.result.now
    (numbers_within c.args.program.now c.args.log.now c.requires.order.0 c.args.order.now c.requires.order.1 c.requires.order.2) c.get.ensures in
    omega arith

pub rules_at-requires-clause-numbers : goal.rules_at-requires-clause-numbers
rules_at-requires-clause-numbers c = numbers_within c.args.program.now c.args.log.now c.requires.order.0 c.args.order.now c.requires.order.1 c.requires.order.2

pub get-rule-requires : goal.get-rule-requires
get-rule-requires c =
    slice_get_within c.in_ok-rules.rules (c.loop-i.i % 64) c.get-step.result.now.offer.rule
    (rule_there c.args.log.now.steps c.args.order.now c.loop-i.i c.get.result.now c.get-step.result.now c.in_ok-rules.rules c.get.ensures c.get-step.ensures c.in_ok-rules.ensures)

pub go_on-requires-clause-rule : goal.go_on-requires-clause-rule
go_on-requires-clause-rule c =
    let there = rule_there c.args.log.now.steps c.args.order.now c.loop-i.i c.get.result.now c.get-step.result.now c.in_ok-rules.rules c.get.ensures c.get-step.ensures c.in_ok-rules.ensures in
    some_same c.get-rule.result.now c.get-step.result.now.offer.rule (sym c.get-rule.ensures ∙ there)

pub go_on-requires-clause-can : goal.go_on-requires-clause-can
go_on-requires-clause-can c =
    let given = given_by c.args.program.now c.args.log.now c.args.order.now c.causes_are_lawful.ensures c.parts.ensures.kept c.requires.legal c.requires.order in
    can_go c.args.program.now c.args.log.now c.args.order.now given c.loop-i.i c.get.result.now c.get.ensures c.get-step.result.now c.get-step.ensures c.loop-i.spot (c.loop-i.invariant.0 given).0

pub go_on-requires-clause-spot : goal.go_on-requires-clause-spot
go_on-requires-clause-spot c = (c.loop-i.invariant.0 (given_by c.args.program.now c.args.log.now c.args.order.now c.causes_are_lawful.ensures c.parts.ensures.kept c.requires.legal c.requires.order)).0.of_program

pub overflow_cast-number : goal.overflow_cast-number
overflow_cast-number c = let few = few_steps c.args.program.now c.args.log.now c.args.order.now (given_by c.args.program.now c.args.log.now c.args.order.now c.causes_are_lawful.ensures c.parts.ensures.kept c.requires.legal c.requires.order) in let test = c.loop-i-test.true in let len = c.len-i-end.ensures in omega arith

pub overflow_add-number : goal.overflow_add-number
overflow_add-number c = let few = few_steps c.args.program.now c.args.log.now c.args.order.now (given_by c.args.program.now c.args.log.now c.args.order.now c.causes_are_lawful.ensures c.parts.ensures.kept c.requires.legal c.requires.order) in let test = c.loop-i-test.true in let len = c.len-i-end.ensures in omega arith

pub returns-in-None : goal.returns-in-None
returns-in-None c =
    let given = given_by c.args.program.now c.args.log.now c.args.order.now c.causes_are_lawful.ensures c.parts.ensures.kept c.requires.legal c.requires.order in
    walk_stops c.args.program.now c.args.log.now c.args.order.now given c.loop-i.i c.get.result.now c.get.ensures c.get-step.result.now c.get-step.ensures c.loop-i.spot (c.loop-i.invariant.0 given).0 (rw c.in-None.is at c.in_ok-next.ensures)

pub put_step-requires-clause-put : goal.put_step-requires-clause-put
put_step-requires-clause-put c =
    let given = given_by c.args.program.now c.args.log.now c.args.order.now c.causes_are_lawful.ensures c.parts.ensures.kept c.requires.legal c.requires.order in
    can_put c.args.program.now c.args.log.now c.args.order.now given c.loop-i.i c.get.result.now c.get.ensures c.get-step.result.now c.get-step.ensures c.loop-i.spot (c.loop-i.invariant.0 given).0 c.logs_are_renewed_step_by_step.ensures

pub put_step-requires-clause-state : goal.put_step-requires-clause-state
put_step-requires-clause-state c =
    let goes = rw c.in-Some.is at c.in_ok-next.ensures in
    rw c.state.ensures.state goes.of_program.is_state

pub loop-i-preserved : goal.loop-i-preserved
loop-i-preserved c = (
  λ given.
      let goes = rw c.in-Some.is at c.in_ok-next.ensures in
      let place = c.get.result.now - 1 in
      let at = get_mapped (λ (number : ℕ). number - 1) c.args.order.now c.loop-i.i c.get.result.now c.get.ensures in (
        walk_goes_on c.args.program.now c.args.log.now c.args.order.now given c.loop-i.i c.get.result.now c.get.ensures c.get-step.result.now c.get-step.ensures c.loop-i.spot (c.loop-i.invariant.0 given).0 c.in-Some.next goes,
        telling_goes_on c.logs_are_renewed_step_by_step.ensures c.args.program.now c.parts.ensures.kept c.args.log.now (step_places c.args.order.now) c.loop-i.i place c.get-step.result.now at c.get-step.ensures c.loop-i.spot c.in-Some.next c.loop-i.text c.put_step.new.text goes (rw c.state.ensures.state at c.in_ok-put_step.ensures) (c.loop-i.invariant.0 given).1,
      ),
  rules_stay c.args.log.now.steps c.args.order.now c.loop-i.i c.in_ok-rules.rules c.in_ok-rules.ensures,
)

pub returns : goal.returns
returns c =
    let all : length c.args.order.now ≤ c.loop-i.i = let len = c.len-i-end.ensures in let test = c.loop-i-test.false in omega arith in
    let given = given_by c.args.program.now c.args.log.now c.args.order.now c.causes_are_lawful.ensures c.parts.ensures.kept c.requires.legal c.requires.order in
    let long = length_map (λ (number : ℕ). number - 1) c.args.order.now in
    let at = c.loop-i.invariant.0 given in
    told_in c.logs_are_renewed_step_by_step.ensures c.args.program.now c.parts.ensures.kept c.args.log.now (step_places c.args.order.now) c.requires.order.0 c.requires.legal c.requires.order.1 c.requires.order.2.reorders c.loop-i.i c.loop-i.text c.loop-i.spot (omega arith) at.0.of_program
    (walk_ends c.args.program.now c.args.log.now c.args.order.now given c.loop-i.i c.loop-i.spot all at.0) at.1
