use Rattle.cep_run.proofs.TurnSteps.{turn_deeds}
use Rattle.cep_run.proofs.laws.turns_are_deeds.Goals as goal

pub returns : goal.returns
returns c = turn_deeds
