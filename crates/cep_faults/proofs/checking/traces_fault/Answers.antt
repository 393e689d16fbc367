use Rattle.std.proofs.Common.{List, ℕ, [], ◌++◌, ◌∙◌, refl, ap}
use Rattle.cep_refusal.specs.First.{first_in}
use Rattle.cep_source.specs.declared.space.Space.TheVariants as space
use Rattle.cep_source.specs.Kept.{trace_item}
use Rattle.cep_faults.specs.Faults.{use_faults, begin_faults, turns_faults, trace_faults}
use Rattle.cep_faults.proofs.Firsts.{noted, noted_then, all_mapped}
use Rattle.cep_faults.proofs.checking.traces_fault.Goals as goal

pub loop-trace-preserved : goal.loop-trace-preserved
loop-trace-preserved c =
    let source = c.args.source.now in
    let trace = trace_item c.trace-item.result in
    noted (λ trace. trace_faults source (trace_item trace)) [] c.traces-trace-items.result.now c.loop-trace.trace-index _ c.trace-item.result _ _ _ c.loop-trace-test.true c.trace-item.is c.loop-trace.invariant refl
    (noted_then (use_faults source space.Stages trace.stage ++ begin_faults source trace.start) (turns_faults source.text trace.limit) _ _ _ _ _
    (noted_then (use_faults source space.Stages trace.stage) (begin_faults source trace.start) _ _ _ _ _ c.note.ensures c.use_fault.ensures c.in_ok-begin.ensures c.note-in-loop-trace.ensures) refl
    (c.turns_past.ensures ∙ ap (λ (text : List ℕ). first_in (turns_faults text trace.limit)) c.text.ensures) c.note-in-loop-trace-2.ensures)

pub returns : goal.returns
returns c =
    c.found.ensures ∙ all_mapped (trace_faults c.args.source.now) trace_item c.traces-trace-items.result.now _ c.loop-trace.trace-index _ c.loop-trace-test.false c.traces-trace-items.ensures c.loop-trace.invariant
