use Rattle.cep_round.proofs.Rests.{machine_steps}
use Rattle.cep_round.proofs.laws.rounds_are_machine_steps.Goals as goal

pub returns : goal.returns
returns c = λ program height stage state last order kept grouped fit fits done. machine_steps program kept height stage order state last grouped fit fits done
