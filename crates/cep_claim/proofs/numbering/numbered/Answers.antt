use Rattle.std.proofs.Common.{rules, ap, ◌∙◌}
use Rattle.std.proofs.lemmas.Int.{to_z-of_z}
use Rattle.cep_base.specs.FirstNames.{under_name}
use mir.Syntax.{w64}
use mir.Val.{SFits}
use Rattle.cep_claim.proofs.Resolved.{next_numbered}
use Rattle.cep_claim.proofs.Tabled.{linear_found}
use Rattle.cep_claim.proofs.numbering.numbered.Goals as goal

pub loop-part-preserved : goal.loop-part-preserved
loop-part-preserved c =
    let linear = linear_found c.args.signature.now c.args.linear.now c.requires c.part-item.result.name c.under.result c.in-Some.pred (c.under.ensures ∙ ap (under_name c.args.linear.now) c.bytes.ensures) c.in-Some.is in
    let fits : SFits w64 c.part-item.result.factor = search rules in
    rw c.in_ok-push-in-Some.ensures.ok (next_numbered c.args.signature.now c.args.parts.now c.loop-part.sum c.loop-part.part-index c.part-item.result _ c.loop-part.invariant c.loop-part-test.true c.part-item.is (to_z-of_z w64 c.part-item.result.factor fits) linear)
