use Rattle.std.proofs.Common.{rules}
use Rattle.cep_term.proofs.comparing.order.Goals as goal

pub returns-in_default : goal.returns-in_default
returns-in_default c = search rules
