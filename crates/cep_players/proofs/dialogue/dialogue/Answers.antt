use Rattle.cep_players.proofs.BlockedLines.{did_map, did_then, on_err, header, end_lines, whole_supply, position_of, IsSomeDialogue, IsDialogueWith, IsWholeInRounds, IsRunInRounds, did_nothing}
use Rattle.cep_run.proofs.Framed.{head_refused, run_refused, whole_said, tail_refused}
use Rattle.cep_run.proofs.Runs.{started_at}
use Rattle.cep_players.proofs.Going.{dialogue_there, dialogue_made, run_made}
use Rattle.cep_players.proofs.dialogue.dialogue.Goals as goal

pub all_parts-requires-clause-played : goal.all_parts-requires-clause-played
all_parts-requires-clause-played g c = record { of_program = c.in_ok-config.ensures.of_program; height = c.in_ok-config.ensures.height }

pub returns-clause-said : goal.returns-clause-said
returns-clause-said g c =
    let begun = c.in_ok-config.ensures in
    let at = started_at c.args.program.now c.in_ok-config.config begun.stage begun.state begun.turns in
    let end = c.in_ok-end.end in
    whole_said (header c.args.program.now c.args.settings.height) (IsDialogueWith c.args.program.now c.args.settings c.args.players end.word) (end_lines c.args.program.now.signature end.word end.config.state) _
    (dialogue_made c.args.program.now c.args.settings c.args.players _ at end.word (position_of end.config)) g.C.Console.talk g.C.Console.left _ _ _ _ c.in_ok-begin.ensures.told c.in_ok-end.ensures.said (rw c.state.ensures at c.in_ok-finish.ensures.told)

pub returns-in_err-config-clause-begun : goal.returns-in_err-config-clause-begun
returns-in_err-config-clause-begun g c =
    let refused = head_refused (header c.args.program.now c.args.settings.height) (IsSomeDialogue c.args.program.now c.args.settings c.args.players)
    (dialogue_there _ _ _ (λ come. c.dialogues_in_rounds_are_there.ensures c.args.program.now c.args.settings c.args.players come c.parts.ensures.kept c.requires.some)) in
    on_err c.from_residual.result _ (did_map g.C.Console.talk g.C.Console.left _ _ _ _ refused (did_nothing g.C.Console.talk g.C.Console.left c.args.console.now (header c.args.program.now c.args.settings.height)))

pub returns-in_err-begin-clause-begun : goal.returns-in_err-begin-clause-begun
returns-in_err-begin-clause-begun g c =
    let refused = head_refused (header c.args.program.now c.args.settings.height) (IsSomeDialogue c.args.program.now c.args.settings c.args.players)
    (dialogue_there _ _ _ (λ come. c.dialogues_in_rounds_are_there.ensures c.args.program.now c.args.settings c.args.players come c.parts.ensures.kept c.requires.some)) in
    on_err c.from_residual-in_err-begin.result _ (did_map g.C.Console.talk g.C.Console.left _ _ _ _ refused c.in_err-begin.ensures.begun)

pub returns-in_err-end-clause-begun : goal.returns-in_err-end-clause-begun
returns-in_err-end-clause-begun g c =
    let begun = c.in_ok-config.ensures in
    let at = started_at c.args.program.now c.in_ok-config.config begun.stage begun.state begun.turns in
    let refused = run_refused (header c.args.program.now c.args.settings.height) (IsSomeDialogue c.args.program.now c.args.settings c.args.players) whole_supply
    (IsRunInRounds c.args.program.now c.args.settings c.args.players (position_of c.in_ok-config.config)) (λ left. left.come) (run_made _ _ _ _ at) in
    on_err c.from_residual-in_err-end.result _ (did_then g.C.Console.talk g.C.Console.left _ _ _ _ _ _ refused c.in_ok-begin.ensures.told c.in_err-end.ensures.begun)

pub returns-in_err-finish-clause-begun : goal.returns-in_err-finish-clause-begun
returns-in_err-finish-clause-begun g c =
    let begun = c.in_ok-config.ensures in
    let at = started_at c.args.program.now c.in_ok-config.config begun.stage begun.state begun.turns in
    let end = c.in_ok-end.end in
    on_err c.from_residual-in_err-finish.result _ (tail_refused (header c.args.program.now c.args.settings.height) (IsSomeDialogue c.args.program.now c.args.settings c.args.players) (end_lines c.args.program.now.signature end.word end.config.state)
    (IsWholeInRounds c.args.program.now c.args.settings c.args.players _ end.word (position_of end.config))
    (λ come run rest is. (end.word, dialogue_made c.args.program.now c.args.settings c.args.players _ at end.word (position_of end.config) come run rest is))
    g.C.Console.talk g.C.Console.left _ _ _ _ c.in_ok-begin.ensures.told c.in_ok-end.ensures.said (λ come run rest is. is.gone) (rw c.state.ensures at c.in_err-finish.ensures.begun))
