use Rattle.std.proofs.Common.{◌++◌}
use Rattle.cep_players.proofs.BlockedLines.{IfOk-weaker, on_err_weaker, did_map}
use Rattle.cep_players.proofs.dialogue.play_in_rounds.Goals as goal

pub returns-clause-said : goal.returns-clause-said
returns-clause-said g c =
    let are_said = c.dialogues_in_rounds_are_said.ensures c.args.program.now c.args.settings c.args.players in
    IfOk-weaker c.dialogue.result _ _
    (λ word whole. did_map g.C.Console.talk g.C.Console.left c.args.console.now c.dialogue.new.console _ _ (λ come events rest is. are_said word come events rest c.parts.ensures.kept c.requires.height is) whole)
    c.dialogue.ensures.said

pub returns-clause-begun : goal.returns-clause-begun
returns-clause-begun g c =
    let are_said = c.dialogues_in_rounds_are_said.ensures c.args.program.now c.args.settings c.args.players in
    on_err_weaker c.dialogue.result
    (did_map g.C.Console.talk g.C.Console.left c.args.console.now c.dialogue.new.console _ _ (λ come events rest begun.
    let front = begun.0 in
    (record { more = front.more; left = front.left; whole = (front.whole.0, are_said front.whole.0 come (events ++ front.more) front.left c.parts.ensures.kept c.requires.height front.whole.1) }, begun.1)))
    c.dialogue.ensures.begun
