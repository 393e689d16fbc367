use Rattle.std.proofs.Common.{◌∙◌, arith, refl}
use Rattle.std.proofs.lemmas.Result.{err_from_is_err_and}
use Rattle.cep_text.specs.Reading.{small_at}
use Rattle.cep_text.proofs.ValuesFound.{fails_first, givens_next, givens_end}
use Rattle.cep_text.proofs.read_offers.givens.Goals as goal

pub returns-in_err-value-clause-read : goal.returns-in_err-value-clause-read
returns-in_err-value-clause-read c =
    let p = err_from_is_err_and c.from_residual.result c.from_residual.ensures.1 in
    rw (p.1, p.2, c.loop-i.invariant.read, givens_next (small_at c.args.vocabulary.now.signature.cons) c.args.vars.now c.args.kinds.now c.loop-i.i c.get.result.now c.get-in-loop-i.result.now c.loop-i.values c.loop-i.rest.now c.get.ensures c.get-in-loop-i.ensures)
    (fails_first c.in_err-value.field-0.0 _ _ c.in_err-value.ensures.read)

pub loop-i-preserved : goal.loop-i-preserved
loop-i-preserved c = record {
  read = rw c.in_ok-push.ensures.ok (c.loop-i.invariant.read ∙ givens_next (small_at c.args.vocabulary.now.signature.cons) c.args.vars.now c.args.kinds.now c.loop-i.i c.get.result.now c.get-in-loop-i.result.now c.loop-i.values c.loop-i.rest.now c.get.ensures c.get-in-loop-i.ensures ∙ rw c.in_ok-value.ensures.read refl);
  shorter = let before = c.loop-i.invariant.shorter in let one = c.in_ok-value.ensures.shorter in omega arith;
}

pub returns-clause-read : goal.returns-clause-read
returns-clause-read c =
    c.loop-i.invariant.read ∙ givens_end (small_at c.args.vocabulary.now.signature.cons) c.args.vars.now c.args.kinds.now c.loop-i.i c.loop-i.values c.loop-i.rest.now (omega arith)
