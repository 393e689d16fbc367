use Rattle.cep_check.specs.Telling.{stages_text}
use Rattle.std.proofs.Common.{append_assoc, arith}
use Rattle.std.proofs.lemmas.Grind.{common_steps}
use Rattle.cep_check.proofs.telling.put_stages.Goals as goal

pub returns : goal.returns
unfolding stages_text
returns c = grind (arith, common_steps, append_assoc)

pub returns-in_err-append-2-clause-err : goal.returns-in_err-append-2-clause-err
unfolding stages_text
returns-in_err-append-2-clause-err c = grind (arith, common_steps, append_assoc)

pub returns-in_err-put_stage_name-clause-err : goal.returns-in_err-put_stage_name-clause-err
unfolding stages_text
returns-in_err-put_stage_name-clause-err c = grind (arith, common_steps, append_assoc)
