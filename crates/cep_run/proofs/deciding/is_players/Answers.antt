use Rattle.std.proofs.Common.{rules}
use Rattle.cep_run.proofs.deciding.is_players.Goals as goal

pub returns-else-group-stage : goal.returns-else-group-stage
returns-else-group-stage c = search rules
