use Rattle.cep_refusal.specs.First.{standing}
use Rattle.cep_base.proofs.ForemostLoops.{foremost_mapped}
use Rattle.cep_source.specs.Kept.{context_item}
use Rattle.cep_types.specs.Clashes.{state_clashes}
use Rattle.cep_types.proofs.Meeting.{all_found}
use Rattle.cep_types.proofs.clashes.contexts_clash.Goals as goal

pub loop-context-preserved : goal.loop-context-preserved
loop-context-preserved c =
    foremost_mapped standing (λ context. state_clashes c.args.source.now context.atoms) context_item c.contexts-context-items.result.now c.loop-context.context-index c.context-item.result _ _ _ c.loop-context-test.true c.context-item.is c.loop-context.invariant c.in_ok-clash.ensures c.note.ensures

pub returns : goal.returns
returns c = all_found (λ context. state_clashes c.args.source.now context.atoms) context_item c.contexts-context-items.result.now c.loop-context.context-index _ _ _ c.loop-context-test.false c.contexts-context-items.ensures c.loop-context.invariant c.found.ensures
