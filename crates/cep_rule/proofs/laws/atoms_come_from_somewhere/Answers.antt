use Rattle.cep_rule.proofs.StepLaws.{comes_from}
use Rattle.cep_rule.proofs.laws.atoms_come_from_somewhere.Goals as goal

pub returns : goal.returns
returns c = comes_from c.bags_are_lawful.ensures
