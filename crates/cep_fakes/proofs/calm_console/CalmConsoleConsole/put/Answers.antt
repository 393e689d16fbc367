use Rattle.std.proofs.Common.{arith}
use Rattle.std.proofs.lemmas.Grind.{common_steps}
use Rattle.cep_fakes.proofs.calm_console.CalmConsoleConsole.put.Goals as goal

pub loop-byte-preserved : goal.loop-byte-preserved
loop-byte-preserved c = grind (arith, common_steps)

pub returns-clause-written : goal.returns-clause-written
returns-clause-written c = grind (arith, common_steps)
