use Rattle.cep_cause.proofs.WrittenOrder.{written_order, written_fits, written_text, written_too_long}
use Rattle.cep_cause.proofs.renewing.renew.Goals as goal

pub again-requires-clause-order : goal.again-requires-clause-order
again-requires-clause-order c =
    let touched = c.logs_touch_tokens.ensures.there c.args.program.now c.args.log.now c.parts.ensures.kept c.requires in
    (touched.0, touched.1, written_order c.args.program.now c.args.log.now c.in_ok-order.order c.in_ok-order.ensures touched.0 touched.1)

pub returns-in-Done-clause-renewed : goal.returns-in-Done-clause-renewed
returns-in-Done-clause-renewed c = written_text c.args.program.now c.args.log.now c.in_ok-order.order c.in_ok-order.ensures c.in-Done.text (rw c.in-Done.is at c.in_ok-text.ensures)

pub returns-in-TooLong-clause-too_long : goal.returns-in-TooLong-clause-too_long
returns-in-TooLong-clause-too_long c = written_too_long c.args.program.now c.args.log.now c.in_ok-order.order c.in_ok-order.ensures (rw c.in-TooLong.is at c.in_ok-text.ensures)

pub unreachable-requires : goal.unreachable-requires
unreachable-requires c =
    written_fits c.args.program.now c.args.log.now c.in_ok-order.order c.in_ok-order.ensures c.causes_are_lawful.ensures c.requires c.in-Unfit.at (rw c.in-Unfit.is at c.in_ok-text.ensures)
