use Rattle.std.proofs.Common.{sym, ap, ◌∙◌, arith}
use Rattle.std.proofs.lemmas.Int.{ints}
use Rattle.std.proofs.lemmas.List.{take_all}
use Rattle.cep_term.specs.Tree.{atom_of}
use Rattle.cep_weigh.specs.Weights.{factor_of}
use Rattle.cep_weigh.proofs.Sums.{added, added_next, made_is}
use Rattle.cep_weigh.proofs.judging.right_sum.Goals as goal

pub loop-i-preserved : goal.loop-i-preserved
loop-i-preserved c =
    let next = added_next (λ a. factor_of c.args.parts.now a.pred) c.args.rule.now.right c.loop-i.i (atom_of c.get.result.now) c.get.ensures in
    record { value = omega (arith, ints, next); low = omega (arith, ints); high = omega (arith, ints) }

pub returns : goal.returns
returns c =
    c.loop-i.invariant.value ∙ ap (added (λ a. factor_of c.args.parts.now a.pred)) (take_all c.loop-i.i c.args.rule.now.right (omega arith))
    ∙ made_is c.args.parts.now c.args.rule.now.right ∙ sym (c.sums_add_factors.ensures.right c.args.parts.now c.args.rule.now)
