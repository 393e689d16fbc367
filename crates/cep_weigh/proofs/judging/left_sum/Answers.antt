use Rattle.std.proofs.Common.{sym, ap, ◌∙◌, arith}
use Rattle.std.proofs.lemmas.Int.{ints}
use Rattle.std.proofs.lemmas.List.{take_all}
use Rattle.cep_rule.specs.Patterns.{premise_of}
use Rattle.cep_weigh.proofs.Sums.{added, used, added_next, used_is}
use Rattle.cep_weigh.proofs.judging.left_sum.Goals as goal

pub loop-i-preserved : goal.loop-i-preserved
loop-i-preserved c =
    let next = added_next (used c.args.parts.now) c.args.rule.now.premises c.loop-i.i (premise_of c.get.result.now) c.get.ensures in
    record { value = omega (arith, ints, next); low = omega (arith, ints); high = omega (arith, ints) }

pub returns : goal.returns
returns c =
    c.loop-i.invariant.value ∙ ap (added (used c.args.parts.now)) (take_all c.loop-i.i c.args.rule.now.premises (omega arith))
    ∙ used_is c.args.parts.now c.args.rule.now.premises ∙ sym (c.sums_add_factors.ensures.left c.args.parts.now c.args.rule.now)
