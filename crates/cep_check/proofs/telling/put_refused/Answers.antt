use Rattle.cep_check.specs.Telling.{refused_text}
use Rattle.std.proofs.Common.{append_assoc, arith}
use Rattle.std.proofs.lemmas.Grind.{common_steps}
use Rattle.cep_check.proofs.telling.put_refused.Goals as goal

pub returns : goal.returns
unfolding refused_text
returns c = grind (arith, common_steps, append_assoc)

pub returns-in_err-append-2-clause-err : goal.returns-in_err-append-2-clause-err
unfolding refused_text
returns-in_err-append-2-clause-err c = grind (arith, common_steps, append_assoc)

pub returns-in_err-number-clause-err : goal.returns-in_err-number-clause-err
unfolding refused_text
returns-in_err-number-clause-err c = grind (arith, common_steps, append_assoc)
