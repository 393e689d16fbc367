use Rattle.std.proofs.Common.{List, ap, ◌∙◌}
use Rattle.cep_base.proofs.Did.{did_then, did_map}
use Rattle.cep_base.proofs.Outcomes.{on_err}
use Rattle.cep_term.specs.Multiset.{copies_in}
use Rattle.cep_rule.specs.Matching.{RoseBy}
use Rattle.cep_lines.specs.Lines.{end_lines, header}
use Rattle.cep_step.specs.Deeds.{Deed}
use Rattle.cep_run.specs.Run.{whole_supply}
use Rattle.cep_run.specs.Costs.{AreDeedCosts, IsRunCost}
use Rattle.cep_run.specs.Fronts.{IsRunOf}
use Rattle.cep_run.specs.Turn.{position_of, IsWholeRun}
use Rattle.cep_run.specs.Said.{IsSomeSaid}
use Rattle.cep_run.specs.declared.tally.Tally.{Tally}
use Rattle.cep_run.proofs.Counting.{run_counted}
use Rattle.cep_run.proofs.Framed.{did_nothing, head_refused, run_refused, whole_said, tail_refused, whole_left}
use Rattle.cep_run.proofs.Runs.{IsTold, told_made, told_otherwise, started_at, dialogue_from, run_dialogue, is_said, some_said}
use Rattle.cep_run.proofs.dialogue.play.Goals as goal

pub all_turns-requires-clause-played : goal.all_turns-requires-clause-played
all_turns-requires-clause-played g c = record { of_program = c.in_ok-config.ensures.of_program; height = c.in_ok-config.ensures.height }

pub returns-clause-said : goal.returns-clause-said
returns-clause-said g c =
    let program = c.args.program.now in
    let settings = c.args.settings in
    let begun = c.in_ok-config.ensures in
    let started = started_at program c.in_ok-config.config begun.stage begun.state begun.turns in
    let end = c.in_ok-end.end in
    let last = position_of end.config in
    let counts = λ (deeds : List Deed). RoseBy (AreDeedCosts g.M.Matcher.may_edit program settings.height deeds) c.begin.new.steps c.all_turns.new.steps in
    let cost = λ (deeds : List Deed). RoseBy (IsRunCost g.M.Matcher.may_begin g.M.Matcher.may_edit program settings.height deeds) c.args.steps.now c.all_turns.new.steps in
    let whole = whole_said (header program settings.height) (IsTold program settings counts end.word last end.offers) (end_lines program.signature end.word last.spot.state) _ (told_made program settings counts end.word _ last end.offers started)
    g.C.Console.talk g.C.Console.left _ _ _ _ c.in_ok-begin.ensures.told c.in_ok-end.ensures.said (rw c.state.ensures at c.in_ok-finish.ensures.told) in
    let tally : Tally = record { word = end.word; turns = c.turns.result; offers = end.offers; copies = c.copies.result } in
    did_map g.C.Console.talk g.C.Console.left _ _ _ _ (λ come events rest is. is_said program settings cost tally last c.one_dialogue.ensures.but_for_proofs c.one_dialogue.ensures.to_the_byte c.turns_are_deeds.ensures c.deeds_are_counted.ensures c.dialogues_have_logs.ensures c.parts.ensures.kept c.requires.height
    c.turns.ensures (c.copies.ensures.value ∙ ap copies_in c.state-2.ensures) come events rest
    (told_otherwise program settings counts cost end.word last end.offers (λ deeds done. run_counted g.M.Matcher.may_edit program settings.height g.M.Matcher.may_begin deeds c.args.steps.now c.begin.new.steps c.all_turns.new.steps begun.ticked done) come events rest is)) whole

pub returns-in_err-config-clause-begun : goal.returns-in_err-config-clause-begun
returns-in_err-config-clause-begun g c =
    let said = some_said c.args.program.now c.args.settings c.one_dialogue.ensures.but_for_proofs c.one_dialogue.ensures.to_the_byte c.turns_are_deeds.ensures c.deeds_are_counted.ensures c.dialogues_have_logs.ensures c.parts.ensures.kept c.requires.height in
    let refused = head_refused (header c.args.program.now c.args.settings.height) (IsSomeSaid c.args.program.now c.args.settings) (λ come. let (run, rest, is) = dialogue_from _ _ come (c.dialogues_are_there.ensures c.args.program.now c.args.settings come c.parts.ensures.kept) in (run, rest, said come _ rest is)) in
    on_err c.from_residual.result _ (did_map g.C.Console.talk g.C.Console.left _ _ _ _ refused (did_nothing g.C.Console.talk g.C.Console.left c.args.console.now (header c.args.program.now c.args.settings.height)))

pub returns-in_err-begin-clause-begun : goal.returns-in_err-begin-clause-begun
returns-in_err-begin-clause-begun g c =
    let said = some_said c.args.program.now c.args.settings c.one_dialogue.ensures.but_for_proofs c.one_dialogue.ensures.to_the_byte c.turns_are_deeds.ensures c.deeds_are_counted.ensures c.dialogues_have_logs.ensures c.parts.ensures.kept c.requires.height in
    let refused = head_refused (header c.args.program.now c.args.settings.height) (IsSomeSaid c.args.program.now c.args.settings) (λ come. let (run, rest, is) = dialogue_from _ _ come (c.dialogues_are_there.ensures c.args.program.now c.args.settings come c.parts.ensures.kept) in (run, rest, said come _ rest is)) in
    on_err c.from_residual-in_err-begin.result _ (did_map g.C.Console.talk g.C.Console.left _ _ _ _ refused c.in_err-begin.ensures.begun)

pub returns-in_err-end-clause-begun : goal.returns-in_err-end-clause-begun
returns-in_err-end-clause-begun g c =
    let said = some_said c.args.program.now c.args.settings c.one_dialogue.ensures.but_for_proofs c.one_dialogue.ensures.to_the_byte c.turns_are_deeds.ensures c.deeds_are_counted.ensures c.dialogues_have_logs.ensures c.parts.ensures.kept c.requires.height in
    let begun = c.in_ok-config.ensures in
    let started = started_at c.args.program.now c.in_ok-config.config begun.stage begun.state begun.turns in
    let refused = run_refused (header c.args.program.now c.args.settings.height) (IsSomeSaid c.args.program.now c.args.settings) whole_supply (IsRunOf c.args.program.now c.args.settings (position_of c.in_ok-config.config)) (λ left. left.come) (λ come run left is. said come _ left.come (run_dialogue c.args.program.now c.args.settings _ started come run left is)) in
    on_err c.from_residual-in_err-end.result _ (did_then g.C.Console.talk g.C.Console.left _ _ _ _ _ _ refused c.in_ok-begin.ensures.told c.in_err-end.ensures.begun)

pub returns-in_err-finish-clause-begun : goal.returns-in_err-finish-clause-begun
returns-in_err-finish-clause-begun g c =
    let said = some_said c.args.program.now c.args.settings c.one_dialogue.ensures.but_for_proofs c.one_dialogue.ensures.to_the_byte c.turns_are_deeds.ensures c.deeds_are_counted.ensures c.dialogues_have_logs.ensures c.parts.ensures.kept c.requires.height in
    let begun = c.in_ok-config.ensures in
    let started = started_at c.args.program.now c.in_ok-config.config begun.stage begun.state begun.turns in
    let end = c.in_ok-end.end in
    let last = position_of end.config in
    let counts = λ (deeds : List Deed). RoseBy (AreDeedCosts g.M.Matcher.may_edit c.args.program.now c.args.settings.height deeds) c.begin.new.steps c.all_turns.new.steps in
    on_err c.from_residual-in_err-finish.result _ (tail_refused (header c.args.program.now c.args.settings.height) (IsSomeSaid c.args.program.now c.args.settings) (end_lines c.args.program.now.signature end.word last.spot.state) (IsWholeRun c.args.program.now c.args.settings counts end.word (position_of c.in_ok-config.config) last end.offers)
    (λ come run rest is. let told = told_made c.args.program.now c.args.settings counts end.word _ last end.offers started come run rest is in said come _ rest (told.turns, told.ending, told.dialogue)) g.C.Console.talk g.C.Console.left _ _ _ _
    c.in_ok-begin.ensures.told c.in_ok-end.ensures.said (whole_left c.args.program.now c.args.settings counts end.word _ last end.offers) (rw c.state.ensures at c.in_err-finish.ensures.begun))
