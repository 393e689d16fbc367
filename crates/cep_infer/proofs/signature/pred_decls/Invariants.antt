use Rattle.std.proofs.Common.{◌≡◌, map, take}
use Rattle.cep_source.specs.Kept.{pred_item}
use Rattle.cep_infer.specs.Meaning.{pred_by}
use Rattle.cep_infer.proofs.signature.pred_decls.Given as goal

abbrev pub invariant-loop-pred : goal.invariant-loop-pred
invariant-loop-pred l = l.preds ≡ map (λ pred. pred_by l.source (pred_item pred)) (take l.pred-index l.pred-items)
