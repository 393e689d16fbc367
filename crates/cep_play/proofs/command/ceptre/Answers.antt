use Rattle.std.proofs.Common.{map, refl, lit<, inl, inr, ⊎_elim, arith}
use Rattle.std.specs.Prelude.{string_bytes}
use Rattle.cep_examine.specs.Exchange.{talked, loaded}
use Rattle.cep_play.proofs.Reported.{at_most}
use Rattle.cep_play.proofs.Playing.{checked}
use Rattle.cep_play.proofs.Done.{tells_what_is_due, tells_anyway, among_all, failed_by, fails_by, no_fault, prefixes_asked}
use Rattle.cep_play.proofs.command.ceptre.Goals as goal

pub returns-in-Ok-clause-answered : goal.returns-in-Ok-clause-answered
returns-in-Ok-clause-answered g c = λ _ _. c.in-Ok.ensures.done.answered

pub returns-in-Ok-clause-written : goal.returns-in-Ok-clause-written
returns-in-Ok-clause-written g c = λ _ _. c.in-Ok.ensures.done.written

pub returns-in-Ok-clause-spelled : goal.returns-in-Ok-clause-spelled
returns-in-Ok-clause-spelled g c = c.in-Ok.ensures.done.spelled

pub returns-in-Ok-clause-begun : goal.returns-in-Ok-clause-begun
returns-in-Ok-clause-begun g c = λ six. absurd (no_fault c.in-Ok.ensures.done.comes (inl six))

pub returns-in-Ok-clause-begun_or_silent : goal.returns-in-Ok-clause-begun_or_silent
returns-in-Ok-clause-begun_or_silent g c = λ nine. absurd (no_fault c.in-Ok.ensures.done.comes (inr nine))

pub returns-in-Ok-clause-due : goal.returns-in-Ok-clause-due
returns-in-Ok-clause-due g c =
    tells_what_is_due c.one_request.ensures c.dialogues_are_there.ensures c.dialogues_in_rounds_are_there.ensures (λ text program spells. c.clean_parts_are_a_program.ensures.program spells.source program spells.clean spells.bound spells.declared spells.grounded)
    c.one_status.ensures.same
    (map string_bytes c.args.words.now) (loaded g.H.Shelf.files g.H.Shelf.asked g.H.Shelf.faults c.args.shelf.now c.command.new.shelf) (talked g.C.Console.talk g.C.Console.left c.args.console.now c.command.new.console) c.args.steps.now c.command.new.steps _ c.in-Ok.ensures.done

pub returns-in-Ok-clause-no_other : goal.returns-in-Ok-clause-no_other
returns-in-Ok-clause-no_other g c = among_all c.in-Ok.ensures.done.comes

pub returns-in-Ok-clause-shelf_failed : goal.returns-in-Ok-clause-shelf_failed
returns-in-Ok-clause-shelf_failed g c = failed_by c.in-Ok.ensures.done.comes

pub returns-in-Ok-clause-shelf_fails : goal.returns-in-Ok-clause-shelf_fails
returns-in-Ok-clause-shelf_fails g c = fails_by c.in-Ok.ensures.done.comes

pub returns-in-Ok-clause-console_failed : goal.returns-in-Ok-clause-console_failed
returns-in-Ok-clause-console_failed g c = λ six. absurd (no_fault c.in-Ok.ensures.done.comes (inl six))

pub returns-in-Ok-clause-asked : goal.returns-in-Ok-clause-asked
returns-in-Ok-clause-asked g c = λ _. c.in-Ok.ensures.done.as_said

pub returns-in-Ok-clause-asked_at_most : goal.returns-in-Ok-clause-asked_at_most
returns-in-Ok-clause-asked_at_most g c = λ nine. absurd (no_fault c.in-Ok.ensures.done.comes (inr nine))

pub returns-in-Ok-clause-ticked : goal.returns-in-Ok-clause-ticked
returns-in-Ok-clause-ticked g c = c.in-Ok.ensures.done.rose

pub returns-in-Err-Failed-clause-begun : goal.returns-in-Err-Failed-clause-begun
returns-in-Err-Failed-clause-begun g c = λ _. (rw c.in-Err-Failed.field-0-is at c.in-Err-Failed.ensures.cut_short).0

pub returns-in-Err-Failed-clause-asked : goal.returns-in-Err-Failed-clause-asked
returns-in-Err-Failed-clause-asked g c = λ _. (rw c.in-Err-Failed.field-0-is at c.in-Err-Failed.ensures.cut_short).1

pub returns-in-Err-Failed-clause-due : goal.returns-in-Err-Failed-clause-due
returns-in-Err-Failed-clause-due g c = λ request ask.
    tells_anyway c.one_request.ensures c.dialogues_are_there.ensures c.dialogues_in_rounds_are_there.ensures (λ text program spells. c.clean_parts_are_a_program.ensures.program spells.source program spells.clean spells.bound spells.declared spells.grounded)
    c.one_status.ensures.same
    (map string_bytes c.args.words.now) (loaded g.H.Shelf.files g.H.Shelf.asked g.H.Shelf.faults c.args.shelf.now c.command.new.shelf) (g.C.Console.left c.args.console.now) request 6 ask (0, lit< tt, refl)

pub returns-in-Err-Failed-clause-no_other : goal.returns-in-Err-Failed-clause-no_other
returns-in-Err-Failed-clause-no_other g c = (6, lit< tt, refl)

pub returns-in-Err-Failed-clause-shelf_fails : goal.returns-in-Err-Failed-clause-shelf_fails
returns-in-Err-Failed-clause-shelf_fails g c = λ _. (0, lit< tt, refl)

pub returns-in-Err-Failed-clause-ticked : goal.returns-in-Err-Failed-clause-ticked
returns-in-Err-Failed-clause-ticked g c = λ ran. absurd (⊎_elim (λ e. absurd (omega (arith, e))) (λ e. absurd (omega (arith, e))) ran)

pub returns-in-Err-Memory-clause-begun_or_silent : goal.returns-in-Err-Memory-clause-begun_or_silent
returns-in-Err-Memory-clause-begun_or_silent g c = λ _.
    ⊎_elim (λ begun. inl begun.0) (λ silent. inr (silent.0, prefixes_asked c.one_request.ensures (map string_bytes c.args.words.now) (loaded g.H.Shelf.files g.H.Shelf.asked g.H.Shelf.faults c.args.shelf.now c.command.new.shelf) silent.1))
    (rw c.in-Err-Memory.field-0-is at c.in-Err-Memory.ensures.cut_short)

pub returns-in-Err-Memory-clause-asked_at_most : goal.returns-in-Err-Memory-clause-asked_at_most
returns-in-Err-Memory-clause-asked_at_most g c = λ _.
    ⊎_elim (λ begun. at_most (map string_bytes c.args.words.now) (loaded g.H.Shelf.files g.H.Shelf.asked g.H.Shelf.faults c.args.shelf.now c.command.new.shelf) begun.1) (λ silent. silent.1) (rw c.in-Err-Memory.field-0-is at c.in-Err-Memory.ensures.cut_short)

pub returns-in-Err-Memory-clause-due : goal.returns-in-Err-Memory-clause-due
returns-in-Err-Memory-clause-due g c = λ request ask.
    tells_anyway c.one_request.ensures c.dialogues_are_there.ensures c.dialogues_in_rounds_are_there.ensures (λ text program spells. c.clean_parts_are_a_program.ensures.program spells.source program spells.clean spells.bound spells.declared spells.grounded)
    c.one_status.ensures.same
    (map string_bytes c.args.words.now) (loaded g.H.Shelf.files g.H.Shelf.asked g.H.Shelf.faults c.args.shelf.now c.command.new.shelf) (g.C.Console.left c.args.console.now) request 9 ask (1, lit< tt, refl)

pub returns-in-Err-Memory-clause-no_other : goal.returns-in-Err-Memory-clause-no_other
returns-in-Err-Memory-clause-no_other g c = (8, lit< tt, refl)

pub returns-in-Err-Memory-clause-shelf_fails : goal.returns-in-Err-Memory-clause-shelf_fails
returns-in-Err-Memory-clause-shelf_fails g c = λ _. (2, lit< tt, refl)

pub returns-in-Err-Memory-clause-ticked : goal.returns-in-Err-Memory-clause-ticked
returns-in-Err-Memory-clause-ticked g c = λ ran. absurd (⊎_elim (λ e. absurd (omega (arith, e))) (λ e. absurd (omega (arith, e))) ran)

pub returns-in-Ok-clause-playable : goal.returns-in-Ok-clause-playable
returns-in-Ok-clause-playable g c =
    checked (λ program settings log typed. c.legal_logs_can_be_played.ensures program settings log typed)
    (λ program log is legal settings interactive. c.interactive_logs_are_answered.ensures program settings log is interactive legal)
    (λ text program spells. c.clean_parts_are_a_program.ensures.program spells.source program spells.clean spells.bound spells.declared spells.grounded)
    (map string_bytes c.args.words.now) (g.H.Shelf.files c.args.shelf.now) (g.C.Console.left c.args.console.now) _ (returns-in-Ok-clause-due g c)
