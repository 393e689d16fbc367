use Rattle.std.proofs.lemmas.Option.{slice_get_within}
use Rattle.cep_round.proofs.Orders.{needed_in_range}
use Rattle.cep_round.proofs.sides.push_needed.Goals as goal

pub get-rule-requires : goal.get-rule-requires
get-rule-requires c = rw c.parts.ensures.parts (slice_get_within _ _ c.requires.rule c.requires.numbered)

pub push_premises-requires : goal.push_premises-requires
push_premises-requires c = needed_in_range c.steps_are_lawful.ensures c.args.program.now c.parts.ensures.kept c.args.offer.now c.requires c.get-rule.result.now (rw c.parts.ensures.parts at c.get-rule.ensures)
