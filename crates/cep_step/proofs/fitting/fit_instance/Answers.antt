use Rattle.std.proofs.Common.{rules}
use Rattle.cep_step.proofs.fitting.fit_instance.Goals as goal

pub returns-in_ok-instance-in-None : goal.returns-in_ok-instance-in-None
returns-in_ok-instance-in-None c = search rules
