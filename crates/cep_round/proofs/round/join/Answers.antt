use Rattle.std.proofs.Common.{rules}
use Rattle.cep_round.proofs.round.join.Goals as goal

pub returns : goal.returns
returns c = search rules
