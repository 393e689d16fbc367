use Rattle.std.proofs.Common.{map, subst, refl, inl, ◌∙◌}
use Rattle.std.proofs.lemmas.Result.{IfOk-weaker, on_err_weaker}
use Rattle.std.specs.Prelude.{string_bytes}
use Rattle.cep_base.proofs.Outcomes.{on_err}
use Rattle.cep_words.specs.Words.{Play}
use Rattle.cep_examine.specs.Exchange.{talked, loaded, Went}
use Rattle.cep_play.specs.Command.{settings_of}
use Rattle.cep_play.specs.Outcome.{IsPlaySaid}
use Rattle.cep_play.proofs.Done.{report_done, dialogue_done, cut_off, out_of_memory, report_begun, dialogue_begun}
use Rattle.cep_play.proofs.command.command.Goals as goal

pub returns-in-Report-clause-done : goal.returns-in-Report-clause-done
returns-in-Report-clause-done g c =
    let is = rw c.in-Report.is at c.in_ok-report.ensures.replied in
    let report = c.in-Report.report in
    IfOk-weaker c.put.result _ _ (λ code told. report_done (map string_bytes c.args.words.now) (talked g.C.Console.talk g.C.Console.left c.args.console.now c.put.new.console) (loaded g.H.Shelf.files g.H.Shelf.asked g.H.Shelf.faults c.args.shelf.now c.reply_to.new.shelf)
    c.args.steps.now c.reply_to.new.steps report code is told.0 told.1) c.put.ensures.told

pub returns-in-Report-clause-cut_short : goal.returns-in-Report-clause-cut_short
returns-in-Report-clause-cut_short g c =
    let is = rw c.in-Report.is at c.in_ok-report.ensures.replied in
    let report = c.in-Report.report in
    cut_off c.put.result _ _ (on_err_weaker c.put.result (λ wrote. (
      report_begun (map string_bytes c.args.words.now) (talked g.C.Console.talk g.C.Console.left c.args.console.now c.put.new.console)
          (loaded g.H.Shelf.files g.H.Shelf.asked g.H.Shelf.faults c.args.shelf.now c.reply_to.new.shelf) c.args.steps.now c.reply_to.new.steps report is wrote,
      is.as_said,
    )) c.put.ensures.begun)

pub returns-in_ok-word-in-Dialogue-clause-done : goal.returns-in_ok-word-in-Dialogue-clause-done
returns-in_ok-word-in-Dialogue-clause-done g c =
    let is = rw c.in-Dialogue.is at c.in_ok-report.ensures.replied in
    let program = c.in-Dialogue.program in
    let options = c.in-Dialogue.options in
    let word = c.in_ok-word-in-Dialogue.word in
    let talk = talked g.C.Console.talk g.C.Console.left c.args.console.now c.dialogue.new.console in
    dialogue_done (map string_bytes c.args.words.now) talk (loaded g.H.Shelf.files g.H.Shelf.asked g.H.Shelf.faults c.args.shelf.now c.reply_to.new.shelf) c.args.steps.now c.dialogue.new.steps c.one_request.ensures program options word _ (c.code.ensures ∙ c.of_run.ensures) is.0
    (subst (λ ticks. Went talk (IsPlaySaid options.players program (settings_of program options) ticks c.dialogue.new.steps word)) is.1 c.in_ok-word-in-Dialogue.ensures.said)

pub returns-in_err-word-in-Dialogue-clause-cut_short : goal.returns-in_err-word-in-Dialogue-clause-cut_short
returns-in_err-word-in-Dialogue-clause-cut_short g c =
    let is = (rw c.in-Dialogue.is at c.in_ok-report.ensures.replied).0 in
    cut_off c.from_residual-in_err-word-in-Dialogue.result _ _ (on_err c.from_residual-in_err-word-in-Dialogue.result _ (
      dialogue_begun (map string_bytes c.args.words.now) (talked g.C.Console.talk g.C.Console.left c.args.console.now c.dialogue.new.console)
          (loaded g.H.Shelf.files g.H.Shelf.asked g.H.Shelf.faults c.args.shelf.now c.reply_to.new.shelf) c.in-Dialogue.program c.in-Dialogue.options is c.in_err-word-in-Dialogue.ensures.begun,
      inl (Play is.file c.in-Dialogue.options, is.ask, is.asked),
    ))

pub returns-in_err-report-clause-cut_short : goal.returns-in_err-report-clause-cut_short
returns-in_err-report-clause-cut_short g c = out_of_memory c.from_residual.result _ _ _ c.from_residual.ensures.1 (refl, c.in_err-report.ensures.asked)

pub dialogue-requires : goal.dialogue-requires
dialogue-requires g c = record { within = (rw c.in-Dialogue.is at c.in_ok-report.ensures.replied).0.ask.2.0 }
