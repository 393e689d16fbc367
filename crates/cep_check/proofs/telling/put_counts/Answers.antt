use Rattle.cep_check.specs.Telling.{counts_text}
use Rattle.std.proofs.Common.{append_assoc, arith}
use Rattle.std.proofs.lemmas.Grind.{common_steps}
use Rattle.cep_check.proofs.telling.put_counts.Goals as goal

pub returns-clause-ok : goal.returns-clause-ok
unfolding counts_text
returns-clause-ok c = grind (arith, common_steps, append_assoc)

pub returns-in_err-append-2-clause-err : goal.returns-in_err-append-2-clause-err
unfolding counts_text
returns-in_err-append-2-clause-err c = grind (arith, common_steps, append_assoc)

pub returns-in_err-number-clause-err : goal.returns-in_err-number-clause-err
unfolding counts_text
returns-in_err-number-clause-err c = grind (arith, common_steps, append_assoc)
