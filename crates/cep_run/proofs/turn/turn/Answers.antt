use Rattle.std.proofs.Common.{refl}
use Rattle.std.proofs.lemmas.Result.{on_err_weaker}
use Rattle.cep_base.proofs.Did.{did_map}
use Rattle.cep_run.specs.Dialogue.{asking_line}
use Rattle.cep_run.specs.Fronts.{IsRunOf}
use Rattle.cep_run.specs.Turn.{position_of}
use Rattle.cep_run.proofs.Turns.{ends_unasked, offered_here, crowds_here, whole_begun}
use Rattle.cep_run.proofs.turn.turn.Goals as goal

pub returns-then-not-len_ok-clause-turned : goal.returns-then-not-len_ok-clause-turned
returns-then-not-len_ok-clause-turned g c =
    let crowds = crowds_here g.M.Matcher.height_held g.M.Matcher.state_held g.M.Matcher.offers_held c.args.program.now c.args.settings c.args.config c.args.group c.requires.played.height (g.met.M.Matcher.exact c.args.program.now c.args.config.matcher c.requires.played.of_program.matcher)
    c.matcher.ensures.same_state c.matcher.ensures.listed c.requires.listed c.requires.asked c.requires.remain c.matcher.result.now c.matcher.ensures.matcher c.len_ok.result c.len_ok.ensures c.if-not-len_ok.true in
    rw c.over.ensures (ends_unasked g.C.Console.talk g.C.Console.left _ _ c.args.program.now c.args.settings (position_of c.args.config) c.args.spent.now _ crowds, refl, refl)

pub asked_turn-requires-clause-here : goal.asked_turn-requires-clause-here
asked_turn-requires-clause-here g c =
    offered_here g.M.Matcher.height_held g.M.Matcher.state_held g.M.Matcher.offers_held c.args.program.now c.args.settings c.args.config c.args.group c.requires.played.height (g.met.M.Matcher.exact c.args.program.now c.args.config.matcher c.requires.played.of_program.matcher)
    c.matcher.ensures.same_state c.matcher.ensures.listed c.requires.listed c.requires.asked c.requires.remain c.matcher.result.now c.matcher.ensures.matcher c.len_ok.result c.len_ok.ensures c.if-not-len_ok.false

pub returns-clause-begun : goal.returns-clause-begun
returns-clause-begun g c =
    let at = position_of c.args.config in
    let is_state = c.requires.played.of_program.spot.is_state in
    let begins = whole_begun (IsRunOf c.args.program.now c.args.settings at) asking_line c.args.program.now c.args.settings at c.args.spent.now (λ from question to. c.runs_go_on.ensures.questions c.args.program.now c.args.settings at from question to c.parts.ensures.kept is_state)
    (λ from turn. c.runs_go_on.ensures.turns c.args.program.now c.args.settings at from turn c.parts.ensures.kept is_state) in
    on_err_weaker c.asked_turn.result (did_map g.C.Console.talk g.C.Console.left _ _ _ _ begins) c.asked_turn.ensures.begun
