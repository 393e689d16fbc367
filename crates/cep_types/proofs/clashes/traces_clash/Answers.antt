use Rattle.cep_parse.specs.Raw.{start_listed}
use Rattle.cep_refusal.specs.First.{standing}
use Rattle.cep_base.proofs.ForemostLoops.{foremost_mapped}
use Rattle.cep_source.specs.Kept.{trace_item}
use Rattle.cep_types.specs.Clashes.{state_clashes}
use Rattle.cep_types.proofs.Meeting.{all_found}
use Rattle.cep_types.proofs.clashes.traces_clash.Goals as goal

pub loop-trace-preserved : goal.loop-trace-preserved
loop-trace-preserved c =
    foremost_mapped standing (λ trace. state_clashes c.args.source.now (start_listed trace.start)) trace_item c.traces-trace-items.result.now c.loop-trace.trace-index c.trace-item.result _ _ _ c.loop-trace-test.true c.trace-item.is c.loop-trace.invariant
    (rw (← c.listed.ensures) c.in_ok-clash.ensures) c.note.ensures

pub returns : goal.returns
returns c = all_found (λ trace. state_clashes c.args.source.now (start_listed trace.start)) trace_item c.traces-trace-items.result.now c.loop-trace.trace-index _ _ _ c.loop-trace-test.false c.traces-trace-items.ensures c.loop-trace.invariant c.found.ensures
