use Rattle.std.proofs.Common.{arith, sym, refl}
use Rattle.std.proofs.lemmas.Grind.{common_steps}
use Rattle.std.proofs.lemmas.Bool.{ltb-true}
use Rattle.std.proofs.lemmas.Option.{slice_get_read}
use Rattle.cep_offer.proofs.gaining.is_fact.Goals as goal

pub returns-in-Some : goal.returns-in-Some
returns-in-Some c =
    let found = c.in-Some.ensures.lookup in
    let there = slice_get_read c.as_slice.result.now _ c.args.a.now.pred c.in-Some.pred.now refl (ltb-true _ _ (sym found.0)) found.1 in
    grind (arith, common_steps, there, c.as_slice.ensures)
