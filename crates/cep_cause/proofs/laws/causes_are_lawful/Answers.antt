use Rattle.cep_cause.proofs.laws.causes_are_lawful.Goals as goal

pub returns : goal.returns
returns c = record {
  bags = c.bags_are_lawful.ensures;
  contained = c.what_is_needed_is_there.ensures.contained;
  used = c.what_is_needed_is_there.ensures.used;
  no_facts = c.what_is_needed_is_there.ensures.no_facts_used;
  one_state = c.one_state_after_a_step.ensures.state;
  lean = c.edits_are_steps.ensures.lean;
  ground_used = c.sides_are_bags.ensures.used;
  ground_made = c.sides_are_bags.ensures.made;
  gain = c.edits_gain.ensures;
  listing = c.states_are_listings.ensures;
  lead = c.steps_lead_to_states.ensures;
  shapes = c.derivations_have_shape.ensures;
}
