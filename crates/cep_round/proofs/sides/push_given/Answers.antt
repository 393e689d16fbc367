use Rattle.std.proofs.Common.{arith}
use Rattle.std.proofs.lemmas.Grind.{common_steps}
use Rattle.std.proofs.lemmas.Option.{slice_get_within}
use Rattle.cep_round.proofs.Orders.{needed_in_range, right_in_range}
use Rattle.cep_round.proofs.sides.push_given.Goals as goal

pub get-rule-requires : goal.get-rule-requires
get-rule-requires c = rw c.parts-parts.ensures.parts (slice_get_within _ _ c.requires.rule c.requires.numbered)

pub push_right-requires : goal.push_right-requires
push_right-requires c = right_in_range c.steps_are_lawful.ensures c.args.program.now c.parts-parts.ensures.kept c.args.offer.now c.requires c.get-rule.result.now (rw c.parts-parts.ensures.parts at c.get-rule.ensures)

pub push_kept-requires : goal.push_kept-requires
push_kept-requires c = needed_in_range c.steps_are_lawful.ensures c.args.program.now c.parts-parts.ensures.kept c.args.offer.now c.requires c.get-rule.result.now (rw c.parts-parts.ensures.parts at c.get-rule.ensures)

pub returns : goal.returns
returns c = grind (arith, common_steps)
