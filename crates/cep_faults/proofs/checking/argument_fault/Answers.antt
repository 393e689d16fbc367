use Rattle.std.proofs.Common.{arith}
use Rattle.cep_faults.proofs.Firsts.{first_in_append}
use Rattle.cep_faults.proofs.checking.argument_fault.Goals as goal

pub returns : goal.returns
returns c = grind (arith, first_in_append)
