use Rattle.std.proofs.Common.{arith}
use Rattle.std.proofs.lemmas.Grind.{common_steps}
use Rattle.cep_check.proofs.step.not_contained.Goals as goal

pub of-requires-clause-few : goal.of-requires-clause-few
of-requires-clause-few c = grind (arith, common_steps)
