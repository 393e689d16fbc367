use Rattle.std.proofs.Common.{inr}
use Rattle.std.proofs.lemmas.Result.{IfOk-weaker}
use Rattle.cep_play.proofs.dead_rules.report_dead_in.Goals as goal

pub returns-in-Ok-clause-reported : goal.returns-in-Ok-clause-reported
returns-in-Ok-clause-reported g c =
    let found = rw c.in-Ok.is at c.in_ok-program.ensures.found in
    IfOk-weaker c.report_dead.result _ _ (λ report is. inr (c.in-Ok.program, found.0, found.1, is)) c.report_dead.ensures
