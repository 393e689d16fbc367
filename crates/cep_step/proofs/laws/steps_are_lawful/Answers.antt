use Rattle.cep_step.proofs.laws.steps_are_lawful.Goals as goal

pub returns : goal.returns
returns c = record {
  bags = c.bags_are_lawful.ensures;
  types = c.types_are_lawful.ensures;
  taken_ground = c.sides_are_bags.ensures.taken;
  added_ground = c.sides_are_bags.ensures.added;
  used_ground = c.sides_are_bags.ensures.used;
  made_ground = c.sides_are_bags.ensures.made;
  there = c.what_is_needed_is_there.ensures.needed;
  taken = c.what_is_needed_is_there.ensures.taken;
  no_facts = c.what_is_needed_is_there.ensures.no_facts;
  used = c.what_is_needed_is_there.ensures.used;
  no_facts_used = c.what_is_needed_is_there.ensures.no_facts_used;
  edit = c.edits_are_steps.ensures.lean;
  gain = c.edits_gain.ensures;
  lead = c.steps_lead_to_states.ensures;
}
