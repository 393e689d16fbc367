use Rattle.std.proofs.Common.{◌≡◌, refl, sym, arith}
use Rattle.cep_run.proofs.Turns.{offered_here, crowds_here}
use Rattle.cep_players.proofs.BlockedLines.{quiet_end, turns_end, IfOk-weaker, on_err_weaker, did_map, position_of}
use Rattle.cep_players.proofs.Going.{not_for_all, ends_before, turn_went, turn_refused}
use Rattle.cep_players.proofs.dialogue.part.Goals as goal

pub returns-in_default-clause-went : goal.returns-in_default-clause-went
returns-in_default-clause-went g c =
    let quiet = (c.asked.ensures.quiet c.args.program.now c.requires.played.of_program).0 (rw c.in_default.is refl) in
    rw c.over.ensures (ends_before g.C.Console.talk g.C.Console.left _ c.args.program.now c.args.settings c.args.players c.args.config c.args.spent.now _ (λ from to. quiet_end (rw c.requires.played.height at quiet)))

pub returns-then-turns-limit-clause-went : goal.returns-then-turns-limit-clause-went
returns-then-turns-limit-clause-went g c =
    let asked = rw c.requires.played.height at (c.in-Some.ensures.asked c.args.program.now c.requires.played.of_program) in
    let full : c.args.config.turns ≡ c.args.settings.limit = omega (arith, c.turns.ensures, c.if-turns-limit.true, c.requires.turns) in
    rw c.over-then-turns-limit.ensures (ends_before g.C.Console.talk g.C.Console.left _ c.args.program.now c.args.settings c.args.players c.args.config c.args.spent.now _ (λ from to. turns_end asked full))

pub returns-then-not-len_ok-clause-went : goal.returns-then-not-len_ok-clause-went
returns-then-not-len_ok-clause-went g c =
    let crowds = crowds_here g.M.Matcher.height_held g.M.Matcher.state_held g.M.Matcher.offers_held c.args.program.now c.args.settings c.args.config c.in-Some.group c.requires.played.height
    (g.met.M.Matcher.exact c.args.program.now c.args.config.matcher c.requires.played.of_program.matcher) c.matcher.ensures.same_state c.matcher.ensures.listed c.in-Some.ensures.listed (c.in-Some.ensures.asked c.args.program.now c.requires.played.of_program) (rw c.turns.ensures at c.if-turns-limit.false) c.matcher.result.now c.matcher.ensures.matcher c.len_ok.result c.len_ok.ensures c.if-not-len_ok.true in
    rw c.over-then-not-len_ok.ensures (ends_before g.C.Console.talk g.C.Console.left _ c.args.program.now c.args.settings c.args.players c.args.config c.args.spent.now _ crowds)

pub round-requires-clause-here : goal.round-requires-clause-here
round-requires-clause-here g c =
    let here =
    offered_here g.M.Matcher.height_held g.M.Matcher.state_held g.M.Matcher.offers_held c.args.program.now c.args.settings c.args.config c.in-Some.group c.requires.played.height
    (g.met.M.Matcher.exact c.args.program.now c.args.config.matcher c.requires.played.of_program.matcher) c.matcher.ensures.same_state c.matcher.ensures.listed c.in-Some.ensures.listed (c.in-Some.ensures.asked c.args.program.now c.requires.played.of_program) (rw c.turns.ensures at c.if-turns-limit.false) c.matcher.result.now c.matcher.ensures.matcher c.len_ok.result c.len_ok.ensures c.if-not-len_ok.false in
    let both = c.is_for_all.ensures.0 c.if-is_for_all.true in
    record { remain = here.remain; for_all = record { interactive = both.0; asked = rw both.1 at here.asked }; offered = rw (sym both.1) here.offered; few = here.few }

pub asked_turn-requires-clause-here : goal.asked_turn-requires-clause-here
asked_turn-requires-clause-here g c =
    offered_here g.M.Matcher.height_held g.M.Matcher.state_held g.M.Matcher.offers_held c.args.program.now c.args.settings c.args.config c.in-Some.group c.requires.played.height
    (g.met.M.Matcher.exact c.args.program.now c.args.config.matcher c.requires.played.of_program.matcher) c.matcher.ensures.same_state c.matcher.ensures.listed c.in-Some.ensures.listed (c.in-Some.ensures.asked c.args.program.now c.requires.played.of_program) (rw c.turns.ensures at c.if-turns-limit.false) c.matcher.result.now c.matcher.ensures.matcher c.len_ok.result c.len_ok.ensures c.if-not-len_ok.false

pub returns-else-is_for_all-clause-went : goal.returns-else-is_for_all-clause-went
returns-else-is_for_all-clause-went g c =
    let none = not_for_all c.args.program.now c.args.settings.height (position_of c.args.config) c.in-Some.group _ (rw c.requires.played.height at (c.in-Some.ensures.asked c.args.program.now c.requires.played.of_program)) c.is_for_all.ensures c.if-is_for_all.false in
    IfOk-weaker c.asked_turn.result _ _ (turn_went g.C.Console.talk g.C.Console.left _ _ c.args.settings c.args.players c.args.config none (rw c.turns.ensures at c.if-turns-limit.false) _ _ _ c.args.spent.now c.asked_turn.new.spent) (rw c.first_line.ensures at c.asked_turn.ensures.turned)

pub returns-else-is_for_all-clause-begun : goal.returns-else-is_for_all-clause-begun
returns-else-is_for_all-clause-begun g c =
    let none = not_for_all c.args.program.now c.args.settings.height (position_of c.args.config) c.in-Some.group _ (rw c.requires.played.height at (c.in-Some.ensures.asked c.args.program.now c.requires.played.of_program)) c.is_for_all.ensures c.if-is_for_all.false in
    on_err_weaker c.asked_turn.result (did_map g.C.Console.talk g.C.Console.left _ _ _ _ (turn_refused c.args.players none c.args.spent.now c.players_are_lawful.ensures c.parts.ensures.kept c.requires.some c.requires.played.of_program.spot.is_state)) (rw c.first_line.ensures at c.asked_turn.ensures.begun)
