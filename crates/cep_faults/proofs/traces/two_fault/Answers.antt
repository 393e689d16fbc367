use Rattle.std.proofs.Common.{◌∙◌}
use Rattle.cep_faults.proofs.Firsts.{two_more, two_all}
use Rattle.cep_faults.proofs.traces.two_fault.Goals as goal

pub loop-trace-preserved : goal.loop-trace-preserved
loop-trace-preserved c =
    two_more c.args.traces.now c.loop-trace.trace-index c.trace-item.result _ _ c.loop-trace-test.true c.trace-item.is c.loop-trace.invariant c.note.ensures

pub returns : goal.returns
returns c = c.found.ensures ∙ two_all c.args.traces.now c.loop-trace.trace-index _ c.loop-trace-test.false c.loop-trace.invariant
