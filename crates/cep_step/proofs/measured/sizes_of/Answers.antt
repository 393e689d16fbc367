use Rattle.std.proofs.Common.{arith}
use Rattle.cep_step.proofs.Ready.{next_size}
use Rattle.cep_step.proofs.measured.sizes_of.Goals as goal

pub loop-v-preserved : goal.loop-v-preserved
loop-v-preserved c = grind (arith, next_size)
