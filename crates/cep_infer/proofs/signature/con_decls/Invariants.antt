use Rattle.std.proofs.Common.{◌≡◌, map, take}
use Rattle.cep_source.specs.Kept.{con_item}
use Rattle.cep_infer.specs.Meaning.{con_by}
use Rattle.cep_infer.proofs.signature.con_decls.Given as goal

abbrev pub invariant-loop-con : goal.invariant-loop-con
invariant-loop-con l = l.cons ≡ map (λ con. con_by l.source (con_item con)) (take l.con-index l.con-items)
