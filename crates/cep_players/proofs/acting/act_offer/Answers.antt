use Rattle.std.proofs.Common.{refl, arith}
use Rattle.std.proofs.lemmas.Option.{slice_get_within}
use Rattle.cep_players.proofs.BlockedLines.{IfOk-weaker, on_err_weaker, did_map, did_same, both_ok}
use Rattle.cep_players.proofs.Going.{acts_begin, offer_acted, offer_moved}
use Rattle.cep_players.proofs.acting.act_offer.Goals as goal

pub place_in-place-requires-clause-there : goal.place_in-place-requires-clause-there
place_in-place-requires-clause-there g c =
    let listed = g.met.M.Matcher.exact c.args.program.now c.args.config.matcher c.requires.played.of_program.matcher in
    rw c.matcher.ensures.matcher ((listed.each c.args.group (omega (arith, c.matcher.ensures.listed, c.requires.own))).each c.args.offer.now (rw (c.matcher.ensures.same_state, c.requires.played.height) c.requires.offer))

pub returns-clause-begun : goal.returns-clause-begun
returns-clause-begun g c =
    on_err_weaker c.act.result (did_map g.C.Console.talk g.C.Console.left _ _ _ _
    (acts_begin _ c.args.settings c.parts.ensures.kept _ c.args.config _ c.requires.own c.requires.offer _ _ (rw c.matcher.ensures.matcher at c.place_in-place.ensures) (omega (arith, c.if-turns-limit.false)))) c.act.ensures.begun

pub returns-clause-acted : goal.returns-clause-acted
returns-clause-acted g c =
    IfOk-weaker c.act.result _ _ (offer_acted _ c.args.settings c.parts.ensures.kept _ c.args.config _ c.requires.own c.requires.offer _ _ (rw c.matcher.ensures.matcher at c.place_in-place.ensures) (omega (arith, c.if-turns-limit.false)) g.C.Console.talk g.C.Console.left _ _) c.act.ensures.acted

pub returns-clause-moved : goal.returns-clause-moved
returns-clause-moved g c =
    both_ok c.act.result _ _ _
    (offer_moved _ c.args.settings c.parts.ensures.kept _ c.args.config _ c.requires.own c.requires.offer _ _ (rw c.matcher.ensures.matcher at c.place_in-place.ensures) (omega (arith, c.if-turns-limit.false)) g.C.Console.talk g.C.Console.left _ _) c.act.ensures.acted c.act.ensures.moved

pub returns-then-turns-limit-clause-acted : goal.returns-then-turns-limit-clause-acted
returns-then-turns-limit-clause-acted g c =
    let is = c.requires.offer.applies in
    let console = c.args.console.now in
    rw c.over.ensures (did_map g.C.Console.talk g.C.Console.left console console _ _ (λ come events rest nothing. record { rule = is.rule; numbered = is.numbered; stops = omega (arith, c.if-turns-limit.true, c.requires.turns, c.turns.ensures); unwritten = nothing.0; untaken = nothing.1 })
    (did_same g.C.Console.talk g.C.Console.left console console refl refl))

pub act-requires-clause-within : goal.act-requires-clause-within
act-requires-clause-within g c = slice_get_within _ _ _ (rw c.matcher.ensures.matcher at c.place_in-place.ensures)
