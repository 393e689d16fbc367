use Rattle.std.proofs.Common.{arith}
use Rattle.std.proofs.lemmas.Grind.{common_steps}
use Rattle.cep_text.proofs.Valued.{offer_values, all_declared, rule_as_many}
use Rattle.cep_base.proofs.Options.{some_there, within_got}
use Rattle.cep_text.proofs.offers.put_offer.Goals as goal

pub put_values-requires-clause-as_many : goal.put_values-requires-clause-as_many
put_values-requires-clause-as_many c =
    rule_as_many _ c.args.offer.now _ c.parts-parts.ensures.kept c.requires (rw c.parts-parts.ensures.parts at c.get-rule.ensures)

pub put_values-requires-clause-declared : goal.put_values-requires-clause-declared
put_values-requires-clause-declared c =
    rw c.parts-parts.ensures.parts (all_declared _ _ c.args.offer.now.values (offer_values c.args.program.now c.args.offer.now _ c.requires (rw c.parts-parts.ensures.parts at c.get-rule.ensures)))

pub returns : goal.returns
returns c = grind (arith, common_steps)

pub get-rule-requires : goal.get-rule-requires
get-rule-requires c = rw c.parts-parts.ensures.parts (within_got c.args.program.now.rules c.args.offer.now.rule _ (some_there _ _ c.requires).1)
