use Rattle.std.proofs.Common.{rules}
use Rattle.cep_weigh.proofs.judging.used_factor.Goals as goal

pub returns-else-premise-clause-value : goal.returns-else-premise-clause-value
returns-else-premise-clause-value c = search rules
