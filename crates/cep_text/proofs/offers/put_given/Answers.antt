use Rattle.std.proofs.Common.{arith}
use Rattle.std.proofs.lemmas.Grind.{common_steps}
use Rattle.cep_text.proofs.offers.put_given.Goals as goal

pub returns-in_err-append-3-clause-err : goal.returns-in_err-append-3-clause-err
returns-in_err-append-3-clause-err c = grind (arith, common_steps)

pub returns : goal.returns
returns c = grind (arith, common_steps)
