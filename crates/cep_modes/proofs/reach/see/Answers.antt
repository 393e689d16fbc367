use Rattle.std.proofs.Common.{arith}
use Rattle.std.proofs.lemmas.Grind.{common_steps}
use Rattle.cep_modes.proofs.reach.see.Goals as goal

pub bounds-seen-n : goal.bounds-seen-n
bounds-seen-n c = grind (arith, common_steps)

pub bounds-seen-n-in-loop-n : goal.bounds-seen-n-in-loop-n
bounds-seen-n-in-loop-n c = grind (arith, common_steps)

pub loop-n-preserved : goal.loop-n-preserved
loop-n-preserved c = grind (arith, common_steps)

pub returns-clause-seen : goal.returns-clause-seen
returns-clause-seen c = grind (arith, common_steps)

pub returns-clause-queue : goal.returns-clause-queue
returns-clause-queue c = grind (arith, common_steps)
