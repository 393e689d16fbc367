use Rattle.cep_check.specs.Telling.{copies_text}
use Rattle.std.proofs.Common.{append_assoc, arith}
use Rattle.std.proofs.lemmas.Grind.{common_steps}
use Rattle.cep_check.proofs.telling.put_copies.Goals as goal

pub returns-clause-ok : goal.returns-clause-ok
unfolding copies_text
returns-clause-ok c = grind (arith, common_steps, append_assoc)

pub returns-in_err-append-clause-err : goal.returns-in_err-append-clause-err
unfolding copies_text
returns-in_err-append-clause-err c = grind (arith, common_steps, append_assoc)
