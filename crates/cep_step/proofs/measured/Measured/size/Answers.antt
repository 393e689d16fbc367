use Rattle.std.proofs.Common.{arith}
use Rattle.cep_step.proofs.Ready.{among}
use Rattle.cep_step.proofs.measured.Measured.size.Goals as goal

pub returns-clause-nodes : goal.returns-clause-nodes
returns-clause-nodes c = grind (arith, among)

pub returns-clause-depth : goal.returns-clause-depth
returns-clause-depth c = grind (arith, among)
