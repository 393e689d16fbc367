use Rattle.std.proofs.Common.{sym, subst}
use Rattle.std.proofs.lemmas.Result.{IfOk-weaker}
use Rattle.cep_words.specs.declared.request.Task.{Task}
use Rattle.cep_examine.specs.Outcome.{IsLegalReport}
use Rattle.cep_examine.proofs.examine.report_legal.Goals as goal

pub returns-in-Check : goal.returns-in-Check
returns-in-Check c =
    IfOk-weaker c.report_verdict.result _ _
    (λ report same. subst (λ (task : Task). IsLegalReport task c.args.program.now c.args.log.now report) (sym c.in-Check.is) (c.args.verdict.now, c.requires.verdict, same))
    c.report_verdict.ensures
