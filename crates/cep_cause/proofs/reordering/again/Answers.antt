use Rattle.std.proofs.Common.{rules}
use Rattle.cep_cause.proofs.reordering.again.Goals as goal

pub returns-in-Err : goal.returns-in-Err
returns-in-Err c = search rules
