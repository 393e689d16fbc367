use Rattle.std.proofs.lemmas.Result.{IfOk-weaker}
use Rattle.cep_examine.proofs.Reported.{log_reported, misfit_reported}
use Rattle.cep_examine.proofs.examine.report_transcript.Goals as goal

pub returns-in-Ok-clause-judged : goal.returns-in-Ok-clause-judged
returns-in-Ok-clause-judged g c =
    let program = c.args.program.now in
    let bytes = c.args.bytes.now in
    IfOk-weaker c.report_log.result _ _
    (λ report is.
    log_reported program bytes c.in-Ok.log c.requires.short (rw c.in-Ok.is at c.in_ok-log.ensures.log) (λ one other. c.one_log.ensures.once program bytes one other c.parts.ensures.kept) (c.refused_logs_are_not_legal.ensures program c.in-Ok.log)
    (c.renewals_have_one_text.ensures program) c.args.task report c.requires.of_log is)
    c.report_log.ensures.judged

pub returns-in-Err-clause-judged : goal.returns-in-Err-clause-judged
returns-in-Err-clause-judged g c =
    let program = c.args.program.now in
    let bytes = c.args.bytes.now in
    IfOk-weaker c.report_fault.result _ _
    (λ report is. misfit_reported c.args.task program bytes c.in-Err.fault report c.requires.of_log (rw c.in-Err.is at c.in_ok-log.ensures.fault) (λ log has. c.one_log.ensures.apart program bytes log c.in-Err.fault c.parts.ensures.kept has) is)
    c.report_fault.ensures
