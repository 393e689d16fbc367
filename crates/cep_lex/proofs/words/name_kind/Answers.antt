use Rattle.std.proofs.Common.{arith}
use Rattle.std.proofs.lemmas.Grind.{common_steps}
use Rattle.cep_lex.proofs.words.name_kind.Goals as goal

pub returns-in-bwd : goal.returns-in-bwd
returns-in-bwd c = grind (arith, common_steps)

pub returns-in-qui : goal.returns-in-qui
returns-in-qui c = grind (arith, common_steps)

pub returns-in-type : goal.returns-in-type
returns-in-type c = grind (arith, common_steps)

pub returns-in-pred : goal.returns-in-pred
returns-in-pred c = grind (arith, common_steps)

pub returns-in-fact : goal.returns-in-fact
returns-in-fact c = grind (arith, common_steps)

pub returns-in-stage : goal.returns-in-stage
returns-in-stage c = grind (arith, common_steps)
