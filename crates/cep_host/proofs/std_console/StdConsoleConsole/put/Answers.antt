use Rattle.std.proofs.Common.{rules}
use Rattle.cep_host.proofs.std_console.StdConsoleConsole.put.Goals as goal

pub returns-in-Err-clause-cause : goal.returns-in-Err-clause-cause
returns-in-Err-clause-cause g c = search rules
