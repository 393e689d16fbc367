use Rattle.std.proofs.Common.{sym, ◌∙◌, arith}
use Rattle.std.proofs.lemmas.Grind.{common_steps}
use Rattle.std.proofs.lemmas.Int.{to_z-of_z}
use Rattle.cep_weigh.proofs.Sums.{first_factor, first_fits}
use mir.Syntax.{w64}
use Rattle.cep_weigh.proofs.judging.+factor_of.Goals as goal

pub returns-then-part-pred-clause-value : goal.returns-then-part-pred-clause-value
returns-then-part-pred-clause-value t c =
    to_z-of_z w64 _ (first_fits c.args.parts.now _ c.in-len1-up.len_at_least c.requires.factors) ∙ sym (first_factor c.args.parts.now _ c.args.pred c.in-len1-up.len_at_least c.requires.apart c.if-part-pred.true)

pub factor_of-requires : goal.factor_of-requires
factor_of-requires t c = grind (arith, common_steps)

pub returns-in-empty-clause-value : goal.returns-in-empty-clause-value
returns-in-empty-clause-value t c = grind (arith, common_steps)

pub returns-else-part-pred-clause-value : goal.returns-else-part-pred-clause-value
returns-else-part-pred-clause-value t c = grind (arith, common_steps)
