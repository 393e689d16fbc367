use Rattle.std.proofs.Common.{arith}
use Rattle.std.proofs.lemmas.Grind.{common_steps}
use Rattle.cep_claim.proofs.words.claim_word.Goals as goal

pub returns-in-keep : goal.returns-in-keep
returns-in-keep c = grind (arith, common_steps)

pub returns-in-most : goal.returns-in-most
returns-in-most c = grind (arith, common_steps)

pub returns-in-fall : goal.returns-in-fall
returns-in-fall c = grind (arith, common_steps)
