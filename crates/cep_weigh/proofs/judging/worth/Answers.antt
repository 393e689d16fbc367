use Rattle.std.proofs.Common.{rules, arith}
use Rattle.std.proofs.lemmas.Grind.{common_steps}
use Rattle.cep_weigh.proofs.Sums.{worth_within}
use mir.Syntax.{w64}
use mir.Val.{SFits}
use Rattle.cep_weigh.proofs.judging.worth.Goals as goal

pub returns-clause-low : goal.returns-clause-low
returns-clause-low c =
    let fits : SFits w64 c.factor_of.result = search rules in
    (worth_within c.factor_of.result c.from.result c.args.copies fits c.from.ensures (omega arith) c.factor_of.ensures.low c.factor_of.ensures.high).low

pub returns-clause-high : goal.returns-clause-high
returns-clause-high c =
    let fits : SFits w64 c.factor_of.result = search rules in
    (worth_within c.factor_of.result c.from.result c.args.copies fits c.from.ensures (omega arith) c.factor_of.ensures.low c.factor_of.ensures.high).high

pub overflow_mul-result : goal.overflow_mul-result
overflow_mul-result c = grind (arith, common_steps)

pub returns-clause-value : goal.returns-clause-value
returns-clause-value c = grind (arith, common_steps)
