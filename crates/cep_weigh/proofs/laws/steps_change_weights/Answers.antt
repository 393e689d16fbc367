use Rattle.cep_weigh.proofs.Sums.{step_weights}
use Rattle.cep_weigh.proofs.laws.steps_change_weights.Goals as goal

pub returns : goal.returns
returns c = step_weights c.bags_are_lawful.ensures
