use Rattle.cep_check.proofs.Verdicts.{verdict_told}
use Rattle.cep_check.proofs.laws.verdicts_can_be_told.Goals as goal

pub returns : goal.returns
returns c = λ log verdict of_program is. verdict_told c.bags_are_lawful.ensures c.types_are_lawful.ensures c.atoms_come_from_somewhere.ensures c.args.program.now c.parts.ensures.kept log verdict of_program is
