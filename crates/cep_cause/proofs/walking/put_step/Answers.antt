use Rattle.std.proofs.Common.{rules}
use Rattle.cep_cause.proofs.walking.put_step.Goals as goal

pub returns : goal.returns
returns c = search rules
