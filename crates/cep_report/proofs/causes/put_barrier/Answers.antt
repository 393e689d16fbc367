use Rattle.std.proofs.Common.{rules}
use Rattle.cep_report.proofs.causes.put_barrier.Goals as goal

pub returns-then-barrier : goal.returns-then-barrier
returns-then-barrier c = search rules
