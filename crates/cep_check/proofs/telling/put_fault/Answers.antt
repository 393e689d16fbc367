use Rattle.cep_check.specs.Telling.{refused_text}
use Rattle.std.proofs.Common.{append_assoc, arith}
use Rattle.std.proofs.lemmas.Grind.{common_steps}
use Rattle.cep_check.proofs.telling.put_fault.Goals as goal

pub returns-in_err-number-in-Line-clause-err : goal.returns-in_err-number-in-Line-clause-err
unfolding refused_text
returns-in_err-number-in-Line-clause-err c = grind (arith, common_steps, append_assoc)

pub returns-in_err-number-in-NoRule-clause-err : goal.returns-in_err-number-in-NoRule-clause-err
unfolding refused_text
returns-in_err-number-in-NoRule-clause-err c = grind (arith, common_steps, append_assoc)

pub returns-in_ok-number-in-Line : goal.returns-in_ok-number-in-Line
unfolding refused_text
returns-in_ok-number-in-Line c = grind (arith, common_steps, append_assoc)

pub returns-in_ok-number-in-NoRule : goal.returns-in_ok-number-in-NoRule
unfolding refused_text
returns-in_ok-number-in-NoRule c = grind (arith, common_steps, append_assoc)
