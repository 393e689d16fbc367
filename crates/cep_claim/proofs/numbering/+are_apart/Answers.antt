use Rattle.std.proofs.Common.{arith}
use Rattle.std.proofs.lemmas.Grind.{common_steps}
use Rattle.cep_claim.proofs.numbering.+are_apart.Goals as goal

pub returns-in-empty : goal.returns-in-empty
returns-in-empty t c = grind (arith, common_steps)

pub returns-else-all : goal.returns-else-all
returns-else-all t c = grind (arith, common_steps)
