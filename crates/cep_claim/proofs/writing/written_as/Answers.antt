use Rattle.std.proofs.Common.{arith}
use Rattle.std.proofs.lemmas.Grind.{common_steps}
use Rattle.cep_claim.proofs.writing.written_as.Goals as goal

pub returns-in-len2-up-clause-some : goal.returns-in-len2-up-clause-some
returns-in-len2-up-clause-some c = grind (arith, common_steps)

pub returns-in-len2-up-clause-none : goal.returns-in-len2-up-clause-none
returns-in-len2-up-clause-none c = grind (arith, common_steps)

pub returns-clause-none : goal.returns-clause-none
returns-clause-none c = grind (arith, common_steps)
