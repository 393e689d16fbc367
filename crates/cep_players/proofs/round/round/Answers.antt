use Rattle.std.proofs.Common.{ℕ, ◌≤◌, subst, arith}
use Rattle.cep_rule.specs.Limits.{IsHeight}
use Rattle.cep_run.proofs.Turns.{offers_have_texts}
use Rattle.cep_players.proofs.BlockedLines.{on_err_weaker, did_map, did_then, all_weaker, on_err, Multiset, Offer, Parts, IsDerivable, Applies, applied_has_text, both_ok}
use Rattle.cep_players.proofs.Going.{as_many_flags, listing_refused, choosing_refused, round_cut, admitting_refused, did_ask, did_tell_some, acting_refused, round_acted}
use Rattle.cep_players.proofs.round.round.Goals as goal

-- what applies within a height applies within a greater one
higher : (program : Parts) (height most : ℕ) (state : Multiset) → height ≤ most → (offer : Offer) → Applies program height state offer → Applies program most state offer
higher program height most state within offer applies = record {
  rule = applies.rule;
  numbered = applies.numbered;
  values = applies.values;
  contained = applies.contained;
  derivable = all_weaker (IsDerivable program height) (IsDerivable program most) _ (λ atom is. record { proof = is.proof; proves = is.proves; low = omega (arith, is.low, within) }) applies.derivable;
}

pub tell-requires-clause-offers : goal.tell-requires-clause-offers
tell-requires-clause-offers g c = rw c.matcher-matcher.ensures.matcher (offers_have_texts _ _ _ _ _ c.requires.here.offered)

pub returns-in_err-tell-clause-begun : goal.returns-in_err-tell-clause-begun
returns-in_err-tell-clause-begun g c =
    let refused = listing_refused c.requires.here c.args.players c.args.spent.now c.players_are_lawful.ensures c.parts.ensures.kept c.requires.some c.requires.played.of_program.spot.is_state in
    on_err c.from_residual.result _ (did_map g.C.Console.talk g.C.Console.left _ _ _ _ refused (rw c.matcher-matcher.ensures.matcher at c.in_err-tell.ensures.begun))

pub returns-in_err-chosen-clause-begun : goal.returns-in_err-chosen-clause-begun
returns-in_err-chosen-clause-begun g c =
    let refused = choosing_refused c.requires.here c.args.players c.args.spent.now c.players_are_lawful.ensures c.parts.ensures.kept c.requires.some c.requires.played.of_program.spot.is_state in
    on_err c.from_residual-in_err-chosen.result _ (did_then g.C.Console.talk g.C.Console.left _ _ _ _ _ _ refused (rw c.matcher-matcher.ensures.matcher at c.in_ok-tell.ensures.told) (rw c.matcher-matcher.ensures.matcher at c.in_err-chosen.ensures.begun))

pub returns-in-Over-clause-went : goal.returns-in-Over-clause-went
returns-in-Over-clause-went g c =
    let cut = round_cut c.requires.here c.args.players c.args.spent.now c.players_are_lawful.ensures c.parts.ensures.kept c.requires.some c.requires.played.of_program.spot.is_state c.choices.new.spent c.in-Over.word in
    rw c.over.ensures (did_then g.C.Console.talk g.C.Console.left _ _ _ _ _ _ cut (rw c.matcher-matcher.ensures.matcher at c.in_ok-tell.ensures.told) (rw (c.in-Over.is, c.matcher-matcher.ensures.matcher) at c.in_ok-chosen.ensures.heard))

pub admit-requires : goal.admit-requires
admit-requires g c =
    let spot = c.requires.played.of_program.spot in
    let height = (subst IsHeight c.requires.played.height (g.met.M.Matcher.low c.args.program.now c.args.config.matcher c.requires.played.of_program.matcher)).low in
    let picked = rw (c.in-All.is, c.matcher-matcher.ensures.matcher) at c.in_ok-chosen.ensures.picked in
    rw c.state.ensures (record { is_state = spot.is_state; fits = spot.fits; few = omega (arith, picked.0, c.requires.few); apply = all_weaker _ _ _ (λ offer there. higher _ _ _ _ height offer (c.requires.here.offered.no_other offer there).applies) picked.1 })

pub returns-in_err-flags-in-All-clause-begun : goal.returns-in_err-flags-in-All-clause-begun
returns-in_err-flags-in-All-clause-begun g c =
    let refused = admitting_refused c.requires.here c.args.players c.args.spent.now c.players_are_lawful.ensures c.parts.ensures.kept c.requires.some c.requires.played.of_program.spot.is_state c.choices.new.spent c.in-All.chosen in
    on_err c.from_residual-in_err-flags-in-All.result _ (did_then g.C.Console.talk g.C.Console.left _ _ _ _ _ _ refused (rw c.matcher-matcher.ensures.matcher at c.in_ok-tell.ensures.told) (rw (c.in-All.is, c.matcher-matcher.ensures.matcher) at c.in_ok-chosen.ensures.heard))

pub tell_blocked-requires-clause-offers : goal.tell_blocked-requires-clause-offers
tell_blocked-requires-clause-offers g c = all_weaker _ _ _ (λ offer there. applied_has_text _ _ _ offer (c.requires.here.offered.no_other offer there).applies) (rw (c.in-All.is, c.matcher-matcher.ensures.matcher) at c.in_ok-chosen.ensures.picked).1

pub tell_blocked-requires-clause-flags : goal.tell_blocked-requires-clause-flags
tell_blocked-requires-clause-flags g c = as_many_flags c.args.program.now c.state.result.now _ c.in-All.chosen c.in_ok-flags-in-All.flags c.in_ok-flags-in-All.ensures

pub returns-in_err-tell_blocked-in-All-clause-begun : goal.returns-in_err-tell_blocked-in-All-clause-begun
returns-in_err-tell_blocked-in-All-clause-begun g c =
    let refused = did_tell_some c.requires.here c.args.players c.args.spent.now c.players_are_lawful.ensures c.parts.ensures.kept c.requires.some c.requires.played.of_program.spot.is_state c.choices.new.spent c.in-All.chosen c.in_ok-flags-in-All.flags (rw c.state.ensures at c.in_ok-flags-in-All.ensures) g.C.Console.talk g.C.Console.left in
    on_err c.from_residual-in_err-tell_blocked-in-All.result _ (refused _ _ _ _ (rw c.matcher-matcher.ensures.matcher at c.in_ok-tell.ensures.told) (rw (c.in-All.is, c.matcher-matcher.ensures.matcher) at c.in_ok-chosen.ensures.heard) c.in_err-tell_blocked-in-All.ensures.begun)

pub act_all-requires-clause-offers : goal.act_all-requires-clause-offers
act_all-requires-clause-offers g c = rw c.requires.own (all_weaker _ _ _ c.requires.here.offered.no_other (rw (c.in-All.is, c.matcher-matcher.ensures.matcher) at c.in_ok-chosen.ensures.picked).1)

pub returns-in_ok-tell_blocked-in-All-clause-went : goal.returns-in_ok-tell_blocked-in-All-clause-went
returns-in_ok-tell_blocked-in-All-clause-went g c =
    let flagged = rw c.state.ensures at c.in_ok-flags-in-All.ensures in
    let asked = did_ask c.requires.here c.args.players c.args.spent.now c.players_are_lawful.ensures c.parts.ensures.kept c.requires.some c.requires.played.of_program.spot.is_state c.choices.new.spent c.in-All.chosen c.in_ok-flags-in-All.flags flagged
    g.C.Console.talk g.C.Console.left _ _ _ _ (rw c.matcher-matcher.ensures.matcher at c.in_ok-tell.ensures.told) (rw (c.in-All.is, c.matcher-matcher.ensures.matcher) at c.in_ok-chosen.ensures.heard) c.in_ok-tell_blocked-in-All.ensures.told in
    let picked = rw (c.in-All.is, c.matcher-matcher.ensures.matcher) at c.in_ok-chosen.ensures.picked in
    both_ok c.act_all.result _ _ _ (round_acted g.C.Console.talk g.C.Console.left _ _ _ c.args.config
    c.requires.here c.args.players c.args.spent.now c.players_are_lawful.ensures c.parts.ensures.kept c.requires.some c.requires.played.of_program.spot.is_state c.choices.new.spent c.in-All.chosen c.in_ok-flags-in-All.flags flagged picked asked) c.act_all.ensures.acted c.act_all.ensures.counted

pub returns-in_ok-tell_blocked-in-All-clause-begun : goal.returns-in_ok-tell_blocked-in-All-clause-begun
returns-in_ok-tell_blocked-in-All-clause-begun g c =
    let flagged = rw c.state.ensures at c.in_ok-flags-in-All.ensures in
    let asked = did_ask c.requires.here c.args.players c.args.spent.now c.players_are_lawful.ensures c.parts.ensures.kept c.requires.some c.requires.played.of_program.spot.is_state c.choices.new.spent c.in-All.chosen c.in_ok-flags-in-All.flags flagged
    g.C.Console.talk g.C.Console.left _ _ _ _ (rw c.matcher-matcher.ensures.matcher at c.in_ok-tell.ensures.told) (rw (c.in-All.is, c.matcher-matcher.ensures.matcher) at c.in_ok-chosen.ensures.heard) c.in_ok-tell_blocked-in-All.ensures.told in
    on_err_weaker c.act_all.result (did_then g.C.Console.talk g.C.Console.left _ _ _ _ _ _
    (acting_refused c.requires.here c.args.players c.args.spent.now c.players_are_lawful.ensures c.parts.ensures.kept c.requires.some c.requires.played.of_program.spot.is_state c.choices.new.spent c.in-All.chosen c.in_ok-flags-in-All.flags flagged) asked) c.act_all.ensures.begun
