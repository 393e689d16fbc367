use Rattle.cep_rule.specs.Typing.{is_fact}
use Rattle.cep_rule.proofs.StepLaws.{ground_left, ground_right, ground_taken, ground_added, ground_used, ground_made}
use Rattle.cep_rule.proofs.laws.sides_are_bags.Goals as goal

pub returns : goal.returns
returns c = record {
  left = λ signature rule values typed are. c.bags_are_lawful.ensures.once_kept (is_fact signature) _ (c.bags_are_lawful.ensures.gathered_kept _ (ground_left signature rule values typed are));
  right = λ signature rule values typed are. c.bags_are_lawful.ensures.once_kept (is_fact signature) _ (c.bags_are_lawful.ensures.gathered_kept _ (ground_right signature rule values typed are));
  taken = ground_taken;
  added = ground_added;
  used = ground_used;
  made = ground_made;
}
