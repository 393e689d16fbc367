use Rattle.std.proofs.Common.{◌∙◌, ap, sym, map}
use Rattle.std.proofs.lemmas.List.{take_all}
use Rattle.std.proofs.lemmas.Simd.{map-map}
use Rattle.cep_source.specs.Kept.{pred_item}
use Rattle.cep_infer.specs.Meaning.{pred_by}
use Rattle.cep_infer.proofs.signature.pred_decls.Goals as goal

pub returns : goal.returns
returns c =
    let source = c.args.source.now in
    (rw (take_all c.loop-pred.pred-index c.preds-pred-items.result.now c.loop-pred-test.false) at c.loop-pred.invariant)
    ∙ sym (map-map (pred_by source) pred_item c.preds-pred-items.result.now) ∙ ap (map (pred_by source)) c.preds-pred-items.ensures
