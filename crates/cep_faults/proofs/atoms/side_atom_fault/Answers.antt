use Rattle.std.proofs.Common.{arith}
use Rattle.cep_faults.proofs.Firsts.{first_in_append}
use Rattle.cep_faults.proofs.atoms.side_atom_fault.Goals as goal

pub returns-then-made : goal.returns-then-made
returns-then-made c = grind (arith, first_in_append)
