use Rattle.std.proofs.Common.{rules}
use Rattle.cep_machine.proofs.config.Config.go.Goals as goal

pub invariant_of-result : goal.invariant_of-result
invariant_of-result g c = search rules

pub returns-clause-spot : goal.returns-clause-spot
returns-clause-spot g c = search rules
