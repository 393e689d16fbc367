use Rattle.std.proofs.Common.{ap, inl, inr}
use Rattle.std.specs.Prelude.{Err}
use Rattle.cep_base.specs.declared.limits.TheConstants.{MOST_TEXT}
use Rattle.cep_examine.specs.Exchange.{loaded}
use Rattle.cep_examine.proofs.Reported.{text_refused, longer_file, found_in}
use Rattle.cep_examine.proofs.loading.program_in.Goals as goal

pub returns-in-Ok-clause-found : goal.returns-in-Ok-clause-found
returns-in-Ok-clause-found g c =
    found_in (loaded g.H.Shelf.files g.H.Shelf.asked g.H.Shelf.faults c.args.shelf.now c.load.new.self) c.args.file.now c.in-Ok.text.items c.program_of.result c.in-Ok.ensures.whole c.in-Ok.ensures.cause
    (rw c.deref.ensures.value at c.program_of.ensures)

pub returns-in_ok-report_refusal-in-Err-TooLong-clause-found : goal.returns-in_ok-report_refusal-in-Err-TooLong-clause-found
returns-in_ok-report_refusal-in-Err-TooLong-clause-found g c =
    let some = longer_file (g.H.Shelf.files c.args.shelf.now) c.args.file.now MOST_TEXT (c.in-Err-TooLong.ensures.longer (ap Err c.in-Err-TooLong.field-0-is)) in
    inl (
      (some.0, some.1, text_refused some.0 c.too_long.result _ c.no_program_is_refused.ensures c.one_refusal.ensures.fault c.one_refusal.ensures.told (c.too_long.ensures some.0 some.2) c.in_ok-report_refusal-in-Err-TooLong.ensures),
      rw c.in-Err-TooLong.field-0-is at c.in-Err-TooLong.ensures.cause,
    )

pub returns-in-Err-Failed-clause-found : goal.returns-in-Err-Failed-clause-found
returns-in-Err-Failed-clause-found g c = inr (rw c.in-Err-Failed.field-0-is at c.in-Err-Failed.ensures.cause, c.line.ensures)
