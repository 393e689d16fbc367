use Rattle.std.proofs.Common.{inl, ⊎_elim, inr}
use Rattle.cep_base.proofs.Outcomes.{on_err}
use Rattle.cep_examine.specs.Exchange.{loaded}
use Rattle.cep_play.proofs.Reported.{none_to_examine, examined, examined_in_vain}
use Rattle.cep_play.proofs.examine.examine.Goals as goal

pub returns-in-Ok-clause-reported : goal.returns-in-Ok-clause-reported
returns-in-Ok-clause-reported g c =
    let found = rw c.in-Ok.is at c.in_ok-program.ensures.found in
    examined g.H.Shelf.files g.H.Shelf.asked g.H.Shelf.faults c.args.shelf.now c.program_in.new.shelf c.report_second.new.shelf c.args.task c.args.file.now c.args.second.now c.in-Ok.program
    c.in_ok-program.ensures.files found.1 found.0 c.in_ok-program.ensures.asked c.one_status.ensures.low c.args.steps.now c.report_second.new.steps c.report_second.result c.report_second.ensures.asked c.report_second.ensures.reported

pub returns-in-Ok-clause-asked : goal.returns-in-Ok-clause-asked
returns-in-Ok-clause-asked g c =
    let found = rw c.in-Ok.is at c.in_ok-program.ensures.found in
    examined_in_vain g.H.Shelf.files g.H.Shelf.asked g.H.Shelf.faults c.args.shelf.now c.program_in.new.shelf c.report_second.new.shelf c.args.task c.args.file.now c.args.second.now c.in-Ok.program
    c.in_ok-program.ensures.files found.1 found.0 c.in_ok-program.ensures.asked c.report_second.result c.report_second.ensures.asked

pub returns-in-Err-clause-reported : goal.returns-in-Err-clause-reported
returns-in-Err-clause-reported g c =
    none_to_examine (loaded g.H.Shelf.files g.H.Shelf.asked g.H.Shelf.faults c.args.shelf.now c.program_in.new.shelf) c.args.steps.now c.args.steps.now c.in-Err.report c.args.task c.args.file.now c.args.second.now c.in_ok-program.ensures.asked (rw c.in-Err.is at c.in_ok-program.ensures.found)

pub returns-in_err-program-clause-asked : goal.returns-in_err-program-clause-asked
returns-in_err-program-clause-asked g c = on_err c.from_residual.result _ (⊎_elim (λ asked. inl (inr asked)) (λ same. inr same) c.in_err-program.ensures.asked)
