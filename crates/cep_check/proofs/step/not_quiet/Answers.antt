use Rattle.std.proofs.Common.{rules}
use Rattle.cep_check.proofs.step.not_quiet.Goals as goal

pub returns-clause-cause : goal.returns-clause-cause
returns-clause-cause g c = search rules
