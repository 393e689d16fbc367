use Rattle.cep_term.proofs.OrderLaws.{atoms_apart}
use Rattle.cep_term.proofs.laws.atoms_are_one_or_not.Goals as goal

pub returns : goal.returns
returns c = atoms_apart
