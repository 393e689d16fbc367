use Rattle.cep_round.proofs.Admitted.{what_is_admitted}
use Rattle.cep_round.proofs.laws.what_is_admitted_is_there.Goals as goal

pub returns : goal.returns
returns c = what_is_admitted c.bags_are_lawful.ensures
