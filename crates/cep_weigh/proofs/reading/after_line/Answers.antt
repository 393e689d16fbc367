use Rattle.std.proofs.Common.{rules}
use Rattle.cep_weigh.proofs.reading.after_line.Goals as goal

pub returns-in_ok-and-in-Ok-clause-after : goal.returns-in_ok-and-in-Ok-clause-after
returns-in_ok-and-in-Ok-clause-after c = search rules
