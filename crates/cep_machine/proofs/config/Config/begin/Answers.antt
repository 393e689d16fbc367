use Rattle.std.proofs.Common.{refl, rules}
use Rattle.cep_machine.proofs.config.Config.begin.Goals as goal

pub returns-clause-turns : goal.returns-clause-turns
returns-clause-turns g c = refl

pub returns-clause-height : goal.returns-clause-height
returns-clause-height g c = search rules

pub returns-clause-ticked : goal.returns-clause-ticked
returns-clause-ticked g c = search rules
