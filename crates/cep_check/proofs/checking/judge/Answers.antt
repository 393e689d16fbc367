use Rattle.std.proofs.lemmas.Result.{IfOk-weaker}
use Rattle.cep_check.proofs.Verdicts.{verdict_end}
use Rattle.cep_check.proofs.checking.judge.Goals as goal

pub returns-in-Ok-clause-verdict : goal.returns-in-Ok-clause-verdict
returns-in-Ok-clause-verdict g c =
    let begun = rw c.in_default.is at c.in_ok-cause.ensures in
    let done = rw c.in-Ok.is at c.in_ok-last.ensures.done in
    IfOk-weaker c.finish.result _ _
    (λ verdict ends. verdict_end c.args.program.now c.args.log.now c.requires.of_program begun.0 begun.1 c.in_ok-start.start c.in-Ok.last verdict c.in_ok-start.ensures.start done.0 ends)
    c.finish.ensures.verdict
