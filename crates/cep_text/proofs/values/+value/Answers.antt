use Rattle.cep_text.specs.Reading.{argument_at, enclosed_at, inside_at, value_at}
use Rattle.std.proofs.lemmas.Grind.{common_steps}
use Rattle.std.proofs.Common.{◌-◌, refl, arith}
use Rattle.std.proofs.lemmas.Result.{err_from_is_err_and}
use Rattle.cep_text.proofs.ValuesFound.{fails_first, value_zero, value_more, arguments_end, arguments_next}
use Rattle.cep_text.proofs.values.+value.Goals as goal

pub value-returns-then-depth-eq0-clause-read : goal.value-returns-then-depth-eq0-clause-read
value-returns-then-depth-eq0-clause-read t c = value_zero _ _ _ _ c.if-depth-eq0.true

pub value-returns-in-Some-clause-read : goal.value-returns-in-Some-clause-read
value-returns-in-Some-clause-read t c =
    rw (value_more c.args.vocabulary.now.signature.cons c.args.depth (c.args.depth - 1) c.args.sort c.args.bytes.now (omega arith), c.in-Some.ensures.read) c.enclosed.ensures.read

pub value-returns-in-None-clause-read : goal.value-returns-in-None-clause-read
value-returns-in-None-clause-read t c =
    rw (value_more c.args.vocabulary.now.signature.cons c.args.depth (c.args.depth - 1) c.args.sort c.args.bytes.now (omega arith), c.in-None.ensures.read) c.bare.ensures.read

pub arguments-returns-then-from-len-clause-read : goal.arguments-returns-then-from-len-clause-read
arguments-returns-then-from-len-clause-read t c = arguments_end _ c.args.kinds.now c.args.from c.args.bytes.now (omega arith)

pub arguments-returns-in_err-first-clause-read : goal.arguments-returns-in_err-first-clause-read
arguments-returns-in_err-first-clause-read t c =
    let p = err_from_is_err_and c.from_residual.result c.from_residual.ensures.1 in
    rw (p.1, p.2, arguments_next (value_at c.args.vocabulary.now.signature.cons c.args.depth) c.args.kinds.now c.args.from c.get.result.now c.args.bytes.now c.get.ensures)
    (fails_first c.in_err-first.field-0.0 _ _ c.in_err-first.ensures.read)

pub arguments-returns-in_err-others-clause-read : goal.arguments-returns-in_err-others-clause-read
arguments-returns-in_err-others-clause-read t c =
    let p = err_from_is_err_and c.from_residual-in_err-others.result c.from_residual-in_err-others.ensures.1 in
    rw (p.1, p.2, arguments_next (value_at c.args.vocabulary.now.signature.cons c.args.depth) c.args.kinds.now c.args.from c.get.result.now c.args.bytes.now c.get.ensures, c.in_ok-first.ensures.read)
    (fails_first c.in_err-others.field-0.0 _ _ c.in_err-others.ensures.read)

pub arguments-returns-clause-read : goal.arguments-returns-clause-read
arguments-returns-clause-read t c =
    rw (arguments_next (value_at c.args.vocabulary.now.signature.cons c.args.depth) c.args.kinds.now c.args.from c.get.result.now c.args.bytes.now c.get.ensures, c.in_ok-first.ensures.read, c.in_ok-others.ensures.read, c.in_ok-cons.ensures) refl

pub argument-returns-clause-read : goal.argument-returns-clause-read
unfolding argument_at
argument-returns-clause-read t c = grind (arith, common_steps)

pub argument-returns-in_err-rest-clause-read : goal.argument-returns-in_err-rest-clause-read
unfolding argument_at
argument-returns-in_err-rest-clause-read t c = grind (arith, common_steps)

pub enclosed-returns-clause-read : goal.enclosed-returns-clause-read
unfolding enclosed_at
enclosed-returns-clause-read t c = grind (arith, common_steps)

pub enclosed-returns-in_err-args-clause-read : goal.enclosed-returns-in_err-args-clause-read
unfolding enclosed_at
enclosed-returns-in_err-args-clause-read t c = grind (arith, common_steps)

pub enclosed-returns-in_err-number-clause-read : goal.enclosed-returns-in_err-number-clause-read
unfolding enclosed_at
enclosed-returns-in_err-number-clause-read t c = grind (arith, common_steps)

pub inside-returns-clause-read : goal.inside-returns-clause-read
unfolding inside_at
inside-returns-clause-read t c = grind (arith, common_steps)

pub inside-returns-in_err-args-clause-read : goal.inside-returns-in_err-args-clause-read
unfolding inside_at
inside-returns-in_err-args-clause-read t c = grind (arith, common_steps)

pub inside-returns-in_err-literal-clause-read : goal.inside-returns-in_err-literal-clause-read
unfolding inside_at
inside-returns-in_err-literal-clause-read t c = grind (arith, common_steps)

pub inside-returns-then-len-eq0-clause-read : goal.inside-returns-then-len-eq0-clause-read
unfolding inside_at
inside-returns-then-len-eq0-clause-read t c = grind (arith, common_steps)
