use Rattle.std.proofs.Common.{◌≡◌, ◌-◌, ◌∷◌, [], length, length-append, Some, refl, sym, ap, ◌∙◌, arith}
use Rattle.cep_players.proofs.BlockedLines.{Contains, slice_get, did_same, did_map, on_err, all_pushed, contains_at, offers_of, Input, Typed, Spent, none_chose, did_more, did_stop, fell_before, fell_short, fell_behind}
use Rattle.cep_players.proofs.choices.choices.Goals as goal

pub loop-player-init : goal.loop-player-init
loop-player-init g c =
    let offers = offers_of (g.M.Matcher.offers_held c.args.matcher.now) c.args.group in
    let console = c.args.console.now in
    record {
      within = c.requires.taken;
      same = refl;
      many = ap length c.new-chosen.ensures;
      among = rw c.new-chosen.ensures tt;
      calm = refl;
      so_far = rw c.new-chosen.ensures (did_map g.C.Console.talk g.C.Console.left console console _ _ (none_chose offers c.args.spent.now) (did_same g.C.Console.talk g.C.Console.left console console refl refl));
    }

pub loop-player-preserved : goal.loop-player-preserved
loop-player-preserved g c =
    let offers = offers_of (g.M.Matcher.offers_held c.args.matcher.now) c.args.group in
    let before = c.loop-player.invariant in
    let offer = c.in_ok-offer-in-Place.offer in
    let there : slice_get offers (c.in-Place.place - 1) ≡ Some offer = c.offer.ensures ∙ ap Some (sym c.in_ok-offer-in-Place.ensures) in
    let pushed = c.in_ok-push-in-Place.ensures.ok in
    let asks = rw (c.count-n.ensures, c.bytes.ensures, c.in_ok-line.ensures) at c.in_ok-place.ensures.heard in
    record {
      within = c.ask.ensures.within;
      same = ap (λ (spent : Spent). record spent { taken = c.ask.new.taken }) before.same;
      many = omega (arith, ap length pushed, length-append c.loop-player.chosen (offer ∷ []), before.many);
      among = rw pushed (all_pushed (Contains offers) c.loop-player.chosen offer before.among (contains_at offers (c.in-Place.place - 1) offer there));
      calm = c.in_ok-place.ensures.cause ∙ before.calm;
      so_far = rw pushed (did_more offers c.args.spent.now g.C.Console.talk g.C.Console.left _ _ _ _ c.loop-player.chosen c.loop-player.spent before.so_far c.ask.new.taken _ asks c.in-Place.place offer c.in-Place.is there);
    }

pub returns-in-NoMore-clause-heard : goal.returns-in-NoMore-clause-heard
returns-in-NoMore-clause-heard g c =
    let asks = rw (c.count-n.ensures, c.bytes.ensures, c.in_ok-line.ensures) at c.in_ok-place.ensures.heard in
    did_stop _ c.args.spent.now g.C.Console.talk g.C.Console.left _ _ _ _ c.loop-player.chosen c.loop-player.spent c.loop-player.invariant.so_far c.ask.new.taken _ asks c.args.players Input (rw c.in-NoMore.is refl) c.loop-player-test.true

pub returns-in-NoRoom-clause-heard : goal.returns-in-NoRoom-clause-heard
returns-in-NoRoom-clause-heard g c =
    let asks = rw (c.count-n.ensures, c.bytes.ensures, c.in_ok-line.ensures) at c.in_ok-place.ensures.heard in
    did_stop _ c.args.spent.now g.C.Console.talk g.C.Console.left _ _ _ _ c.loop-player.chosen c.loop-player.spent c.loop-player.invariant.so_far c.ask.new.taken _ asks c.args.players Typed (rw c.in-NoRoom.is refl) c.loop-player-test.true

pub returns-in_err-line-clause-begun : goal.returns-in_err-line-clause-begun
returns-in_err-line-clause-begun g c =
    let heard = c.one_choice_is_heard.ensures in
    on_err c.from_residual.result _ (fell_before _ c.args.spent.now g.C.Console.talk g.C.Console.left _ _ c.loop-player.console _ c.loop-player.chosen c.loop-player.spent c.loop-player.invariant.so_far heard.there heard.within c.args.players c.loop-player-test.true)

pub returns-in_err-place-clause-begun : goal.returns-in_err-place-clause-begun
returns-in_err-place-clause-begun g c =
    let heard = c.one_choice_is_heard.ensures in
    let short = rw (c.count-n.ensures, c.bytes.ensures, c.in_ok-line.ensures) at c.in_err-place.ensures.begun in
    on_err c.from_residual-in_err-place.result _ (fell_short _ c.args.spent.now g.C.Console.talk g.C.Console.left _ _ _ _ c.loop-player.chosen c.loop-player.spent c.loop-player.invariant.so_far heard.there heard.within c.args.players c.loop-player-test.true short)

pub returns-in_err-offer-in-Place-clause-begun : goal.returns-in_err-offer-in-Place-clause-begun
returns-in_err-offer-in-Place-clause-begun g c =
    let heard = c.one_choice_is_heard.ensures in
    let asks = rw (c.count-n.ensures, c.bytes.ensures, c.in_ok-line.ensures) at c.in_ok-place.ensures.heard in
    on_err c.from_residual-in_err-offer-in-Place.result _ (fell_behind _ c.args.spent.now g.C.Console.talk g.C.Console.left _ _ _ _ c.loop-player.chosen c.loop-player.spent c.loop-player.invariant.so_far heard.there heard.within c.args.players c.loop-player-test.true c.ask.new.taken _ asks)

pub returns-in_err-push-in-Place-clause-begun : goal.returns-in_err-push-in-Place-clause-begun
returns-in_err-push-in-Place-clause-begun g c =
    let heard = c.one_choice_is_heard.ensures in
    let asks = rw (c.count-n.ensures, c.bytes.ensures, c.in_ok-line.ensures) at c.in_ok-place.ensures.heard in
    on_err c.from_residual-in_err-push-in-Place.result _ (fell_behind _ c.args.spent.now g.C.Console.talk g.C.Console.left _ _ _ _ c.loop-player.chosen c.loop-player.spent c.loop-player.invariant.so_far heard.there heard.within c.args.players c.loop-player-test.true c.ask.new.taken _ asks)
