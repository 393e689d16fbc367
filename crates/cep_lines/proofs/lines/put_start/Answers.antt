use Rattle.std.proofs.Common.{[], refl, sym}
use Rattle.std.proofs.lemmas.List.{append-nil}
use Rattle.std.proofs.lemmas.Result.{on_ok_weaker, on_err_weaker}
use Rattle.cep_base.proofs.Outcomes.{on_err}
use Rattle.cep_lines.specs.Lines.{stage_line, listing, header}
use Rattle.cep_lines.proofs.Adding.{adding_next, adding_done, adding_stops, adding_breaks, header_opened, header_with_height, header_with_line, header_with_stage}
use Rattle.cep_lines.proofs.lines.put_start.Goals as goal

pub returns-in_err-number-clause-err : goal.returns-in_err-number-clause-err
returns-in_err-number-clause-err c =
    on_err c.from_residual-in_err-number.result _
    (adding_stops c.args.out.now (header c.args.program.now c.args.height) c.append.new.self _ c.number.new.self
    (header_opened c.args.program.now c.args.height c.args.out.now c.append.new.self c.in_ok-append.ensures.ok) c.in_err-number.ensures.err)

pub returns-in_err-append-2-clause-err : goal.returns-in_err-append-2-clause-err
returns-in_err-append-2-clause-err c =
    on_err c.from_residual-in_err-append-2.result _
    (adding_stops c.args.out.now (header c.args.program.now c.args.height) c.number.new.self _ c.append-2.new.self
    (header_with_height c.args.program.now c.args.height c.args.out.now c.append.new.self c.number.new.self c.in_ok-append.ensures.ok (rw c.from.ensures at c.in_ok-number.ensures.ok)) c.in_err-append-2.ensures.err)

pub returns-in_err-put_stage-clause-err : goal.returns-in_err-put_stage-clause-err
returns-in_err-put_stage-clause-err c =
    on_err c.from_residual-in_err-put_stage.result _
    (adding_breaks c.args.out.now (header c.args.program.now c.args.height) c.append-2.new.self _ (stage_line c.args.program.now c.args.program.now.start_stage) _ c.put_stage.new.out
    (header_with_line c.args.program.now c.args.height c.args.out.now c.append.new.self c.number.new.self c.append-2.new.self
    c.in_ok-append.ensures.ok (rw c.from.ensures at c.in_ok-number.ensures.ok) c.in_ok-append-2.ensures.ok)
    refl (rw c.parts-parts.ensures.parts at c.in_err-put_stage.ensures.err))

pub returns-clause-ok : goal.returns-clause-ok
returns-clause-ok c =
    let program = c.args.program.now in
    let listed = listing program.signature program.start in
    on_ok_weaker c.put_listing.result
    (λ e. adding_done c.args.out.now (header program c.args.height) c.put_listing.new.out []
    (adding_next c.args.out.now (header program c.args.height) c.put_stage.new.out c.put_listing.new.out listed listed []
    (header_with_stage program c.args.height c.args.out.now c.append.new.self c.number.new.self c.append-2.new.self c.put_stage.new.out
    c.in_ok-append.ensures.ok (rw c.from.ensures at c.in_ok-number.ensures.ok) c.in_ok-append-2.ensures.ok (rw c.parts-parts.ensures.parts at c.in_ok-put_stage.ensures.ok))
    (sym (append-nil listed)) (rw c.parts-parts.ensures.parts at e)) refl)
    c.put_listing.ensures.ok

pub returns-clause-err : goal.returns-clause-err
returns-clause-err c =
    let program = c.args.program.now in
    let listed = listing program.signature program.start in
    on_err_weaker c.put_listing.result
    (λ begun. adding_breaks c.args.out.now (header program c.args.height) c.put_stage.new.out listed listed [] c.put_listing.new.out
    (header_with_stage program c.args.height c.args.out.now c.append.new.self c.number.new.self c.append-2.new.self c.put_stage.new.out
    c.in_ok-append.ensures.ok (rw c.from.ensures at c.in_ok-number.ensures.ok) c.in_ok-append-2.ensures.ok (rw c.parts-parts.ensures.parts at c.in_ok-put_stage.ensures.ok))
    (sym (append-nil listed)) (rw c.parts-parts.ensures.parts at begun))
    c.put_listing.ensures.err
