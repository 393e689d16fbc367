use Rattle.std.proofs.Common.{rules}
use Rattle.cep_refusal.proofs.reason.Reason.name.Goals as goal

pub returns-in-Unbound : goal.returns-in-Unbound
returns-in-Unbound c = search rules
