use Rattle.std.proofs.Common.{arith}
use Rattle.std.proofs.lemmas.Grind.{common_steps}
use Rattle.cep_fakes.proofs.calm_console.CalmConsoleConsole.next.Goals as goal

pub returns-in_ok-push-in-Some-clause-taken : goal.returns-in_ok-push-in-Some-clause-taken
returns-in_ok-push-in-Some-clause-taken c = grind (arith, common_steps)

pub returns-in_ok-push-in-None-clause-taken : goal.returns-in_ok-push-in-None-clause-taken
returns-in_ok-push-in-None-clause-taken c = grind (arith, common_steps)
