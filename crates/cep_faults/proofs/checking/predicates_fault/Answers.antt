use Rattle.std.proofs.Common.{[], ◌∙◌}
use Rattle.cep_source.specs.Kept.{pred_item}
use Rattle.cep_faults.specs.Faults.{predicate_faults}
use Rattle.cep_faults.proofs.Firsts.{noted_at, all_mapped}
use Rattle.cep_faults.proofs.checking.predicates_fault.Goals as goal

pub loop-pred-preserved : goal.loop-pred-preserved
loop-pred-preserved c =
    noted_at (λ pred. predicate_faults c.args.source.now (pred_item pred)) [] c.preds-pred-items.result.now c.loop-pred.pred-index _ _ _ _ c.loop-pred-test.true c.loop-pred.invariant c.argument_fault.ensures c.note.ensures

pub returns : goal.returns
returns c =
    c.found.ensures ∙ all_mapped (predicate_faults c.args.source.now) pred_item c.preds-pred-items.result.now _ c.loop-pred.pred-index _ c.loop-pred-test.false c.preds-pred-items.ensures c.loop-pred.invariant
