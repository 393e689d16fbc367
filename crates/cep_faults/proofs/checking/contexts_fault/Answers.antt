use Rattle.std.proofs.Common.{[], ◌∙◌}
use Rattle.cep_source.specs.Kept.{context_item}
use Rattle.cep_faults.specs.Faults.{context_faults}
use Rattle.cep_faults.proofs.Firsts.{noted, all_mapped}
use Rattle.cep_faults.proofs.checking.contexts_fault.Goals as goal

pub loop-context-preserved : goal.loop-context-preserved
loop-context-preserved c =
    noted (λ context. context_faults c.args.source.now (context_item context)) [] c.contexts-context-items.result.now c.loop-context.context-index _ c.context-item.result _ _ _
    c.loop-context-test.true c.context-item.is c.loop-context.invariant c.in_ok-fault.ensures c.note.ensures

pub returns : goal.returns
returns c =
    c.found.ensures ∙ all_mapped (context_faults c.args.source.now) context_item c.contexts-context-items.result.now _ c.loop-context.context-index _ c.loop-context-test.false c.contexts-context-items.ensures c.loop-context.invariant
