use Rattle.std.proofs.Common.{arith}
use Rattle.std.proofs.lemmas.Grind.{common_steps}
use Rattle.cep_modes.proofs.reach.record.Goals as goal

pub loop-callee-preserved : goal.loop-callee-preserved
loop-callee-preserved c = grind (arith, common_steps)

pub returns : goal.returns
returns c = grind (arith, common_steps)
