use Rattle.std.proofs.Common.{◌<◌, length, ap, inl, inr, sym, subst}
use Rattle.std.proofs.lemmas.Result.{IfOk-weaker}
use Rattle.std.specs.Prelude.{Err}
use Rattle.cep_examine.specs.Report.{Report}
use Rattle.cep_examine.specs.Reports.{Reports}
use Rattle.cep_examine.proofs.Reported.{longer_file, long_reported}
use Rattle.cep_examine.proofs.examine.report_second.Goals as goal

pub returns-in-Ok-clause-reported : goal.returns-in-Ok-clause-reported
returns-in-Ok-clause-reported g c =
    IfOk-weaker c.report_bytes.result _ _ (λ report is. inl ((c.in-Ok.bytes.items, c.in-Ok.ensures.whole, is), c.in-Ok.ensures.cause)) (rw c.deref.ensures.value at c.report_bytes.ensures.judged)

pub returns-in-Err-TooLong-clause-reported : goal.returns-in-Err-TooLong-clause-reported
returns-in-Err-TooLong-clause-reported g c =
    let some = longer_file (g.H.Shelf.files c.args.shelf.now) c.args.second.now c.most_of.result (c.in-Err-TooLong.ensures.longer (ap Err c.in-Err-TooLong.field-0-is)) in
    inl ((some.0, some.1, subst (λ (report : Report). Reports c.args.task c.args.program.now some.0 report) (sym c.line.ensures) (long_reported c.args.task c.args.program.now some.0 (subst (λ n. n < length some.0) c.most_of.ensures some.2))), rw c.in-Err-TooLong.field-0-is at c.in-Err-TooLong.ensures.cause)

pub returns-in-Err-Failed-clause-reported : goal.returns-in-Err-Failed-clause-reported
returns-in-Err-Failed-clause-reported g c = inr (rw c.in-Err-Failed.field-0-is at c.in-Err-Failed.ensures.cause, c.report_unread.ensures)
