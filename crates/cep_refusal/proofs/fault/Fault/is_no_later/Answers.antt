use Rattle.std.proofs.Common.{rules}
use Rattle.cep_refusal.proofs.fault.Fault.is_no_later.Goals as goal

pub returns-then-self-other-2 : goal.returns-then-self-other-2
returns-then-self-other-2 c = search rules
