use Rattle.cep_rule.proofs.StepLaws.{left_contained, needed_there, taken_contained, no_facts_taken, used_contained, no_facts_used}
use Rattle.cep_rule.proofs.laws.what_is_needed_is_there.Goals as goal

pub returns : goal.returns
returns c = record {
  needed = needed_there c.bags_are_lawful.ensures;
  contained = left_contained c.bags_are_lawful.ensures;
  taken = taken_contained c.bags_are_lawful.ensures;
  no_facts = no_facts_taken c.bags_are_lawful.ensures;
  used = used_contained c.bags_are_lawful.ensures;
  no_facts_used = no_facts_used c.bags_are_lawful.ensures;
}
