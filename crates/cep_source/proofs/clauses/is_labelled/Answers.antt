use Rattle.std.proofs.Common.{◌≡◌, ◌∙◌, ◌==◌, ◌&&◌, not, length, arith}
use Rattle.std.proofs.lemmas.Grind.{common_steps}
use Rattle.cep_base.specs.FirstNames.{has_name}
use Rattle.cep_source.proofs.Declaring.{labelled_by}
use Rattle.cep_source.proofs.clauses.is_labelled.Goals as goal

pub returns-then-not-has_name : goal.returns-then-not-has_name
returns-then-not-has_name c =
    let name = c.slice_at-name.result.now in
    let by_places : c.has_name-then-not-has_name.result ≡ ((length c.args.args.now == 0) && (not (has_name c.args.kinds.now.sorts.places name) && has_name c.args.kinds.now.preds.places name)) = grind (arith, common_steps) in
    λ file are named. by_places ∙ labelled_by c.args.text.now file c.args.kinds.now are named c.args.args.now c.args.right name c.slice_at-name.ensures

pub returns-else-not-has_name : goal.returns-else-not-has_name
returns-else-not-has_name c =
    let name = c.slice_at-name.result.now in
    let by_places : c.if-len-eq0.value ≡ ((length c.args.args.now == 0) && (not (has_name c.args.kinds.now.sorts.places name) && has_name c.args.kinds.now.preds.places name)) = grind (arith, common_steps) in
    λ file are named. by_places ∙ labelled_by c.args.text.now file c.args.kinds.now are named c.args.args.now c.args.right name c.slice_at-name.ensures
