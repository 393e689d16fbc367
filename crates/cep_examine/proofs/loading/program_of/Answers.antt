use Rattle.std.proofs.Common.{subst}
use Rattle.cep_ground.specs.Refusals.{IsAccepted}
use Rattle.cep_examine.proofs.Reported.{text_refused}
use Rattle.cep_examine.proofs.loading.program_of.Goals as goal

pub returns-in-Ok : goal.returns-in-Ok
returns-in-Ok c =
    let text = c.args.text.now in
    let spells = subst (λ answer. IsAccepted text answer) c.in-Ok.is c.in_ok-program.ensures in
    (spells, λ other is. c.one_program.ensures text other c.in-Ok.program is spells)

pub returns-in_ok-report_refusal-in-Err : goal.returns-in_ok-report_refusal-in-Err
returns-in_ok-report_refusal-in-Err c =
    let text = c.args.text.now in
    text_refused text c.in-Err.refusal _ c.no_program_is_refused.ensures c.one_refusal.ensures.fault c.one_refusal.ensures.told
    (subst (λ answer. IsAccepted text answer) c.in-Err.is c.in_ok-program.ensures) c.in_ok-report_refusal-in-Err.ensures
