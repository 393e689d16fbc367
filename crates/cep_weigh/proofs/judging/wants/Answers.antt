use Rattle.std.proofs.Common.{rules}
use Rattle.cep_weigh.proofs.judging.wants.Goals as goal

pub returns-in-Fall : goal.returns-in-Fall
returns-in-Fall c = search rules
