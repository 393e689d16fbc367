use Rattle.std.proofs.Common.{arith}
use Rattle.std.proofs.lemmas.Grind.{common_steps}
use Rattle.cep_words.proofs.request.task_of.Goals as goal

pub returns-in-renew : goal.returns-in-renew
returns-in-renew c = grind (arith, common_steps)

pub returns-in-again : goal.returns-in-again
returns-in-again c = grind (arith, common_steps)

pub returns-in-cause : goal.returns-in-cause
returns-in-cause c = grind (arith, common_steps)

pub returns-in-weigh : goal.returns-in-weigh
returns-in-weigh c = grind (arith, common_steps)

pub returns-in-check : goal.returns-in-check
returns-in-check c = grind (arith, common_steps)
