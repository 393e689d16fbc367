use Rattle.std.proofs.Common.{sym, ◌∙◌, arith}
use Rattle.cep_reader.proofs.Passing.{all_lines, passed_none, passed_more, number_short, number_most, read_is_of, can_grow, log_said, log_is_of, stops_said, misfit_said, transitive}
use Rattle.cep_reader.proofs.reading.read_by.Goals as goal

pub loop-line-init : goal.loop-line-init
loop-line-init c = passed_none _ (all_lines c.args.bytes.now) _ (c.into_iter-line-iterator.ensures.into_iter_gives ∙ c.lines-line-items.ensures.value)

pub overflow_add-number : goal.overflow_add-number
overflow_add-number c = omega (arith, number_short c.args.vocabulary.now c.args.bytes.now _ _ _ c.loop-line.number c.loop-line.so_far c.requires c.loop-line.invariant c.in-Some.ensures.steps)

pub passed-requires : goal.passed-requires
passed-requires c =
    can_grow _ c.loop-line.number _ (number_short _ c.args.bytes.now _ _ _ _ _ c.requires c.loop-line.invariant c.in-Some.ensures.steps)
    (read_is_of (transitive c.order_is_total.ensures.atoms) _ _ _ _ _ c.loop-line.invariant)

pub loop-line-preserved : goal.loop-line-preserved
loop-line-preserved c = passed_more _ _ _ _ c.in-Some.line.now _ _ _ c.loop-line.invariant c.in-Some.ensures.steps (rw c.in-Ok.is at c.in_ok-next.ensures.taken)

pub returns-in-Err-clause-fault : goal.returns-in-Err-clause-fault
returns-in-Err-clause-fault c =
    misfit_said _ c.args.bytes.now _ _ c.in-Some.line.now _ c.loop-line.so_far _ c.requires c.loop-line.invariant c.in-Some.ensures.steps (rw c.in-Err.is at c.in_ok-next.ensures.nowhere) (rw c.in-Err.is at c.in_ok-next.ensures.fault)

pub overflow_add-result : goal.overflow_add-result
overflow_add-result c = omega (arith, number_most c.args.vocabulary.now c.args.bytes.now _ c.loop-line.number c.loop-line.so_far c.requires c.loop-line.invariant)

pub returns-in-Some-2-clause-log : goal.returns-in-Some-2-clause-log
returns-in-Some-2-clause-log c = log_said _ c.args.bytes.now _ _ _ _ c.requires c.loop-line.invariant c.in-None.ensures.steps.0 (sym c.in_ok-log.ensures ∙ c.in-Some-2.is)

pub returns-in-Some-2-clause-of_program : goal.returns-in-Some-2-clause-of_program
returns-in-Some-2-clause-of_program c = log_is_of (transitive c.order_is_total.ensures.atoms) _ c.args.bytes.now _ _ _ _ c.requires c.loop-line.invariant c.in-None.ensures.steps.0 (sym c.in_ok-log.ensures ∙ c.in-Some-2.is)

pub returns-in-None-2-clause-fault : goal.returns-in-None-2-clause-fault
returns-in-None-2-clause-fault c = stops_said _ c.args.bytes.now _ _ _ c.requires c.loop-line.invariant c.in-None.ensures.steps.0 (sym c.in_ok-log.ensures ∙ c.in-None-2.is)
