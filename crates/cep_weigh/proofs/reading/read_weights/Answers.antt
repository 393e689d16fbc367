use Rattle.std.proofs.Common.{◌≤◌, length, ◌∙◌, subst, arith}
use Rattle.std.proofs.lemmas.Result.{IfOk-at_ok, IfErr-at_err}
use Rattle.cep_weigh.specs.Claims.{claim_lines}
use Rattle.cep_weigh.proofs.Lined.{none_done, one_done, number_short, all_said, fault_said, all_of_program}
use Rattle.cep_weigh.proofs.reading.read_weights.Goals as goal

pub loop-line-init : goal.loop-line-init
loop-line-init c = rw c.new-claims.ensures (none_done c.parts.result.now.signature (claim_lines c.args.bytes.now) _ (c.into_iter-line-iterator.ensures.into_iter_gives ∙ c.lines-line-items.ensures.value))

pub overflow_add-number : goal.overflow_add-number
overflow_add-number c =
    let few : length (claim_lines c.args.bytes.now) ≤ length c.args.bytes.now = subst (λ lines. length lines ≤ length c.args.bytes.now) c.lines-line-items.ensures.value c.lines-line-items.ensures.len in
    let short = number_short c.parts.result.now.signature (claim_lines c.args.bytes.now) c.loop-line.line-iterator c.next.new.self c.in-Some.line.now c.loop-line.number (length c.args.bytes.now) c.loop-line.claims few c.loop-line.invariant c.in-Some.ensures.steps in
    omega arith

pub loop-line-preserved : goal.loop-line-preserved
loop-line-preserved c =
    one_done c.parts.result.now.signature (claim_lines c.args.bytes.now) c.loop-line.line-iterator c.next.new.self c.in-Some.line.now c.loop-line.number c.loop-line.claims c.in-Ok.after c.loop-line.invariant c.in-Some.ensures.steps
    (IfOk-at_ok _ c.in-Ok.is c.in_ok-after.ensures.after)

pub returns-in-Err-clause-fault : goal.returns-in-Err-clause-fault
returns-in-Err-clause-fault c =
    let why = IfErr-at_err _ c.in-Err.is c.in_ok-after.ensures.fault in
    fault_said c.args.program.now c.parts.result.now c.args.bytes.now c.loop-line.line-iterator c.next.new.self c.in-Some.line.now c.loop-line.number c.loop-line.claims c.in-Err.fault c.parts.ensures.parts c.loop-line.invariant c.in-Some.ensures.steps why.0 why.1

pub returns-clause-claims : goal.returns-clause-claims
returns-clause-claims c = rw c.weights.ensures (all_said c.args.program.now c.parts.result.now c.args.bytes.now c.loop-line.line-iterator c.loop-line.number c.loop-line.claims c.parts.ensures.parts c.loop-line.invariant c.in-None.ensures.steps.0)

pub returns-clause-of_program : goal.returns-clause-of_program
returns-clause-of_program c =
    rw c.weights.ensures
    (all_of_program c.args.program.now _ (claim_lines c.args.bytes.now) _ c.loop-line.claims
    (all_said c.args.program.now c.parts.result.now c.args.bytes.now c.loop-line.line-iterator c.loop-line.number c.loop-line.claims c.parts.ensures.parts c.loop-line.invariant c.in-None.ensures.steps.0) tt)
