use Rattle.std.proofs.Common.{rules}
use Rattle.cep_check.proofs.step.mid_cause.Goals as goal

pub returns-in-Some : goal.returns-in-Some
returns-in-Some c = search rules
