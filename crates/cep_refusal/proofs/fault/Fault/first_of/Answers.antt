use Rattle.std.proofs.Common.{rules}
use Rattle.cep_refusal.proofs.fault.Fault.first_of.Goals as goal

pub returns-in-Some-Some : goal.returns-in-Some-Some
returns-in-Some-Some c = search rules
