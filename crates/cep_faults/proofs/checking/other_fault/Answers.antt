use Rattle.std.proofs.Common.{arith}
use Rattle.cep_faults.proofs.Firsts.{first_in_append}
use Rattle.cep_faults.proofs.checking.other_fault.Goals as goal

pub returns : goal.returns
returns c = grind (arith, first_in_append)
