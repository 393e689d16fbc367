use Rattle.std.proofs.Common.{arith}
use Rattle.std.proofs.lemmas.Grind.{common_steps}
use Rattle.cep_offer.proofs.proving.+proves.Goals as goal

pub prove_instances-returns-in-Nil : goal.prove_instances-returns-in-Nil
prove_instances-returns-in-Nil t c = grind (arith, common_steps)
