use Rattle.cep_run.proofs.TurnSteps.{deeds_counted}
use Rattle.cep_run.proofs.laws.deeds_are_counted.Goals as goal

pub returns : goal.returns
returns c = deeds_counted
