use Rattle.cep_complete.proofs.Applying.{found_apply, met_typed}
use Rattle.cep_complete.proofs.laws.found_values_are_typed.Goals as goal

pub returns-clause-met : goal.returns-clause-met
returns-clause-met c = met_typed c.types_are_lawful.ensures

pub returns-clause-apply : goal.returns-clause-apply
returns-clause-apply c = found_apply c.bags_are_lawful.ensures c.types_are_lawful.ensures
