use Rattle.std.proofs.Common.{rules}
use Rattle.cep_round.proofs.sides.stays.Goals as goal

pub returns-then-premise : goal.returns-then-premise
returns-then-premise c = search rules

pub returns-else-premise : goal.returns-else-premise
returns-else-premise c = search rules
