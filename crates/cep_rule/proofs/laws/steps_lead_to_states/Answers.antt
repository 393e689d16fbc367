use Rattle.cep_rule.proofs.StepLaws.{next_is_state}
use Rattle.cep_rule.proofs.laws.steps_lead_to_states.Goals as goal

pub returns : goal.returns
returns c = λ signature rule values old new typed divided are is fit step.
    next_is_state c.bags_are_lawful.ensures signature rule values old new typed divided are (c.sides_are_bags.ensures.right signature rule values typed are) is fit step
