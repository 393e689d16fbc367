use Rattle.std.proofs.Common.{◌∙◌, ap, sym, map}
use Rattle.std.proofs.lemmas.List.{take_all}
use Rattle.std.proofs.lemmas.Simd.{map-map}
use Rattle.cep_source.specs.Kept.{con_item}
use Rattle.cep_infer.specs.Meaning.{con_by}
use Rattle.cep_infer.proofs.signature.con_decls.Goals as goal

pub returns : goal.returns
returns c =
    let source = c.args.source.now in
    (rw (take_all c.loop-con.con-index c.cons-con-items.result.now c.loop-con-test.false) at c.loop-con.invariant)
    ∙ sym (map-map (con_by source) con_item c.cons-con-items.result.now) ∙ ap (map (con_by source)) c.cons-con-items.ensures
