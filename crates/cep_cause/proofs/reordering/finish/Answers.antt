use Rattle.cep_cause.proofs.WrittenOrder.{not_long, comes_to_text, comes_too_long}
use Rattle.cep_cause.proofs.reordering.finish.Goals as goal

pub returns-then-is_long : goal.returns-then-is_long
returns-then-is_long c = λ places told.
    comes_too_long c.logs_are_renewed_step_by_step.ensures c.args.program.now c.parts.ensures.kept c.args.log.now places c.args.text c.put_last.new.out c.args.last.now told (rw c.state.ensures.state at c.in_ok-put_last.ensures.ok) (c.is_long.ensures.0 c.if-is_long.true)

pub returns : goal.returns
returns c = λ places told.
    comes_to_text c.logs_are_renewed_step_by_step.ensures c.args.program.now c.parts.ensures.kept c.args.log.now places c.args.text c.put_last.new.out c.args.last.now told (rw c.state.ensures.state at c.in_ok-put_last.ensures.ok)
    (not_long c.is_long.result c.put_last.new.out c.if-is_long.false c.is_long.ensures)
