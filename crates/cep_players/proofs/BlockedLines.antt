-- Players are asked one after another, lines of blocked offers, and the words of other crates that several proofs here speak of.
pub use Rattle.cep_base.proofs.Did.{did_map, did_same, did_then}
pub use Rattle.cep_base.proofs.Drops.{drop_at}
pub use Rattle.cep_base.proofs.Elements.{all_at, all_of, contains_at, contains_first, contains_left, contains_right}
pub use Rattle.cep_base.proofs.Lists.{all_from_places, all_pushed, all_weaker, holds_at, map_last, zip_push}
pub use Rattle.cep_base.proofs.Options.{item_at}
pub use Rattle.cep_base.proofs.Outcomes.{on_err}
pub use Rattle.cep_base.specs.Talk.{Did, outs}
pub use Rattle.cep_base.specs.declared.console.Event.{Event}
pub use Rattle.cep_choice.specs.Draws.{generator_behind}
pub use Rattle.cep_lines.specs.Lines.{end_lines, header, offer_lines}
pub use Rattle.cep_lines.specs.declared.end_word.EndWord.{EndWord}
pub use Rattle.cep_lines.specs.declared.end_word.EndWord.TheVariants.{Input, Quiet, Turns, Typed}
pub use Rattle.cep_log.specs.Holding.{AreRemarks, TellDeeds, TellRun, lines_of_deed}
pub use Rattle.cep_machine.specs.Configuration.{Configuration}
pub use Rattle.cep_players.specs.Dialogues.{DialogueInRounds, blocked_line, blocked_lines, choose_line, hearing_events, last_part_events, part_events, round_events, round_question_events, turn_question_events}
pub use Rattle.cep_players.specs.Going.{ActsSome, AreActed, AreTurnsAdded, BeginsActs, BeginsOffer, CannotDo, DoesOffer, DoesParts, EndsParts, IsDialogueWith, IsOfferActed, IsOfferMoved, IsSomeDialogue, IsWent, IsWholeInRounds, StopsAct}
pub use Rattle.cep_players.specs.PlayersLaws.{ChoicesAreHeard, ChoicesAreWithin, PlayersLaws, RoundsAreLawful}
pub use Rattle.cep_players.specs.Playing.{AllChoose, ChooseSome, IsRunInRounds, OneDoesNot, events_of_rounds}
pub use Rattle.cep_players.specs.Runs.{AreHeard, AreTogether, AreTurnsAndRounds, CannotBeDone, EndOfRounds, EndsInRounds, HaveChosen, Hearing, IsChosenHere, IsCutOff, IsForAll, IsHeard, IsListedHere, IsRoundDone, Round, RunsInRounds, StopsAtPlayer, StopsInRound, TurnOrRound, a_round, a_turn, all_done, done_before, of_offer, of_player, of_turn, unproved_end, unproved_part, unproved_round}
pub use Rattle.cep_round.specs.Orders.{AreOffersDone, IsOfferDone}
pub use Rattle.cep_round.specs.Rounds.{AreAdmitted, IsRound, admitted, needs, used_with}
pub use Rattle.cep_rule.specs.Derivations.{IsDerivable, ProofTree}
pub use Rattle.cep_rule.specs.Matching.{offers_of}
pub use Rattle.cep_rule.specs.Offers.{Applies, AreOffers, IsInGroup, IsOffer}
pub use Rattle.cep_rule.specs.Program.{IsDividedRule, IsGroupedRule, IsProgram, IsTypedRule}
pub use Rattle.cep_rule.specs.Shapes.{IsOfferOf}
pub use Rattle.cep_rule.specs.Stages.{IsAsked, IsQuiet, own_group}
pub use Rattle.cep_rule.specs.State.{IsState}
pub use Rattle.cep_rule.specs.Step.{Step}
pub use Rattle.cep_rule.specs.declared.offer.Offer.{Offer}
pub use Rattle.cep_rule.specs.declared.parts.Parts.{Parts}
pub use Rattle.cep_rule.specs.declared.rule.Rule.{Rule}
pub use Rattle.cep_run.proofs.Counting.{both_ok}
pub use Rattle.cep_run.proofs.Framed.{did_nothing, front_of_front, put_on, IsPut, Joins, Maps, Short, hears_left, last_left, left_then, outs_left, prefix_left, put_left, text_then, turn_left}
pub use Rattle.cep_run.proofs.Turns.{applied_has_text}
pub use Rattle.cep_run.proofs.TurnSteps.{deeds_counted, left_by, quiet_here}
pub use Rattle.cep_run.specs.Choice.{Hears, IsChoiceWithin, chosen}
pub use Rattle.cep_run.specs.Deciding.{Supply}
pub use Rattle.cep_run.specs.Fronts.{BeginsSome, FellShort, LeavesUnheard}
pub use Rattle.cep_run.specs.Run.{AreTurns, EndsAt, IsQuestion, IsTurn, Question, Turn, quiet_end, turns_end, whole_supply}
pub use Rattle.cep_run.specs.Turn.{Acts, AsksPlayer, DoesTurn, HasSpent, IsActed, IsMoved, IsPlaced, IsPlayed, IsTurned, Stops, WouldPass, limit_word, position_of, supply_with}
pub use Rattle.cep_run.specs.declared.choice.Choice.{Choice}
pub use Rattle.cep_run.specs.declared.choice.Choice.TheVariants.{NoMore, NoRoom, Place}
pub use Rattle.cep_run.specs.declared.deciding.Spent.{Spent}
pub use Rattle.cep_run.specs.declared.settings.Settings.{Settings}
pub use Rattle.cep_run.specs.declared.turn.Turned.{Turned}
pub use Rattle.cep_run.specs.declared.turn.Turned.TheVariants.{Done, Over}
pub use Rattle.cep_step.specs.Deeds.{AreDeeds, Deed, IsDeed, Position, start_of}
pub use Rattle.cep_step.specs.Passing.{Passes}
pub use Rattle.cep_step.specs.declared.limit.Limit.{Limit}
pub use Rattle.cep_term.specs.Multiset.{IsContained, Multiset, count_of}
pub use Rattle.cep_term.specs.Tree.{AtomTree, Tree}
pub use Rattle.std.proofs.Math.ListN.{drop_of_length-le}
pub use Rattle.std.proofs.lemmas.Grind.{flat_map-append}
pub use Rattle.std.proofs.lemmas.List.Sorted.{IsPermutation-refl}
pub use Rattle.std.proofs.lemmas.Result.{IfOk-weaker, on_err_weaker}
pub use Rattle.std.specs.List.{AllByRecursion, flat_map}
pub use Rattle.std.specs.Prelude.{Contains, IsSomeAnd, IsTrue, codes, decimal, drop, slice_get, take, ◌↔◌}
use Rattle.std.proofs.Common.{◌≡◌, inl, inr, ℕ, zero, suc, ◌+◌, ◌-◌, ◌<◌, List, [], ◌∷◌, ◌++◌, length, Option, Some, append_assoc, append-nil, length-append, refl, sym, ap, arith, ◌≤◌, Bool, true, false}
use Rattle.cep_run.specs.Begun.{AsksSome}

-- The words of other crates that several proofs here speak of.

-- Players are asked one after another.

-- one hearing more
heard_more : (n : ℕ) (from : Supply) (hearings : List Hearing) (between : Supply) (hearing : Hearing) (to : Supply) → AreHeard n from hearings between → IsHeard n between hearing.events (Place hearing.place) to → AreHeard n from (hearings ++ hearing ∷ []) to
heard_more n from [] between hearing to are is = (to, rw (← are) is, refl)
heard_more n from (first ∷ hearings) between hearing to are is = (are.0, are.1, heard_more n are.0 hearings between hearing to are.2 is)

events_more : (player : ℕ) (hearings : List Hearing) (hearing : Hearing) → hearing_events player (hearings ++ hearing ∷ []) ≡ hearing_events player hearings ++ (outs (choose_line (player + length hearings)) ++ hearing.events)
events_more player [] hearing = let e : player + 0 ≡ player = omega arith in rw (append-nil hearing.events, e) refl
events_more player (first ∷ hearings) hearing = grind (arith, hearing_events, outs, choose_line, append_assoc, events_more (player + 1) hearings hearing)

module _ (offers : List Offer) (old : Spent) where
  -- nobody was asked yet
  pub none_chose : (come : List ℕ) (events : List Event) (rest : List ℕ) → (events ≡ []) × (rest ≡ come) → AllChoose 0 offers [] old old come events rest
  none_chose come events rest same = record { hearings = []; of_each = refl; heard = ap (λ bytes. supply_with bytes old) same.1; chosen = tt; written = same.0 }

  -- one player more is asked, and chooses or does not
  module _ (i : ℕ) (picks : List Offer) (now : Spent) (choice : Choice) (taken : ℕ) (come : List ℕ) (first : List Event) (middle : List ℕ) (second : List Event) (rest : List ℕ) (all : AllChoose i offers picks old now come first middle)
      (one : AsksPlayer (choose_line (i + 1)) (length offers) now.taken choice taken middle second rest) where
    abbrev new : Spent
    new = record now { taken = taken }

    one_more : (place : ℕ) (offer : Offer) → choice ≡ Place place → slice_get offers (place - 1) ≡ Some offer → AllChoose (i + 1) offers (picks ++ offer ∷ []) old new come (first ++ second) rest
    one_more place offer is there =
        let hearing : Hearing = record { events = one.heard; place = place } in
        let e : 1 + length all.hearings ≡ i + 1 = omega (arith, all.of_each) in
        record {
          hearings = all.hearings ++ hearing ∷ [];
          of_each = omega (arith, all.of_each, length-append all.hearings (hearing ∷ []));
          heard = heard_more (length offers) (supply_with come old) all.hearings (supply_with middle now) hearing (supply_with rest new) all.heard (rw is at one.hears, refl);
          chosen = zip_push (λ (h : Hearing) (o : Offer). slice_get offers (h.place - 1) ≡ Some o) all.hearings picks hearing offer all.chosen there;
          written = rw (all.written, one.whole, events_more 1 all.hearings hearing, e) refl;
        }

    one_does_not : (players : ℕ) (word : EndWord) → IsCutOff choice word → i < players → OneDoesNot players offers word old new come (first ++ second) rest
    one_does_not players word cut few = grind (arith, supply_with)

    one_stops : (players : ℕ) (word : EndWord) → IsCutOff choice word → i < players → BeginsSome (ChooseSome players offers old) come (first ++ second)
    one_stops players word cut few = record { more = []; left = rest; whole = inr (word, new, rw (append-nil (first ++ second)) (one_does_not players word cut few)) }

    one_chooses : (players : ℕ) → i < players → (it : Choice) → choice ≡ it → IsChoiceWithin (length offers) it → ((more : List Offer) → AllChoose (i + 1) offers more old new come (first ++ second) rest → BeginsSome (ChooseSome players offers old) come (first ++ second))
        → BeginsSome (ChooseSome players offers old) come (first ++ second)
    one_chooses players few (Place place) same is on =
        let offer = item_at offers (place - 1) (omega (arith, is.0, is.1)) in
        on (picks ++ offer.0 ∷ []) (one_more place offer.0 same offer.1)
    one_chooses players few NoMore same is on = one_stops players Input (rw same refl) few
    one_chooses players few NoRoom same is on = one_stops players Typed (rw same refl) few

  -- the players after these choose, or one does not
  module _ (there : ChoicesAreHeard) (within : ChoicesAreWithin) (players : ℕ) where
    pub choose_on : (left i : ℕ) → i + left ≡ players → (picks : List Offer) (now : Spent) (come middle : List ℕ) (first : List Event) → AllChoose i offers picks old now come first middle → BeginsSome (ChooseSome players offers old) come first
    choose_on zero i sum picks now come middle first all =
        let e : i ≡ players = omega (arith, sum) in
        record { more = []; left = middle; whole = inl (picks, now, rw (append-nil first, ← e) all) }
    choose_on (suc left) i sum picks now come middle first all =
        let (heard, choice, rest, taken, hears) = there (length offers) now.taken middle in
        let second = outs (choose_line (i + 1)) ++ heard in
        let begun = one_chooses i picks now choice taken come first middle second rest all (record { heard = heard; hears = hears; whole = refl }) players (omega (arith, sum)) choice refl (within (length offers) now.taken taken middle rest heard choice hears).0
        (λ more next. choose_on left (i + 1) (omega (arith, sum)) more (record now { taken = taken }) come rest (first ++ second) next) in
        record { more = second ++ begun.more; left = begun.left; whole = rw (← append_assoc first second begun.more) begun.whole }

    -- one was asked, and that was refused
    refused_at : (i : ℕ) → i < players → (picks : List Offer) (now : Spent) (come middle : List ℕ) (first second : List Event) → AllChoose i offers picks old now come first middle → BeginsSome (AsksSome (choose_line (i + 1)) (length offers) now.taken) middle second
        → BeginsSome (ChooseSome players offers old) come (first ++ second)
    refused_at i few picks now come middle first second all begun =
        let (choice, taken, one) = begun.whole in
        let on = one_chooses i picks now choice taken come first middle (second ++ begun.more) begun.left all one players few choice refl (within (length offers) now.taken taken middle begun.left one.heard choice one.hears).0
        (λ more next. choose_on (players - i - 1) (i + 1) (omega (arith, few)) more (record now { taken = taken }) come begun.left (first ++ (second ++ begun.more)) next) in
        record { more = begun.more ++ on.more; left = on.left; whole = rw (← append_assoc (first ++ second) begun.more on.more, append_assoc first second begun.more) on.whole }

  -- what was heard is gone
  module _ (within : ChoicesAreWithin) where
    pub heard_left : (player n : ℕ) (from : Supply) (hearings : List Hearing) (to : Supply) → AreHeard n from hearings to → LeavesUnheard from.come (hearing_events player hearings) to.come
    heard_left player n from [] to are = ap (λ (s : Supply). s.come) (sym are)
    heard_left player n from (hearing ∷ hearings) to are =
        text_then (choose_line player) from.come _ from.come (hearing.events ++ hearing_events (player + 1) hearings) to.come (refl, refl)
        (left_then from.come hearing.events are.0.come (hearing_events (player + 1) hearings) to.come (hears_left n are.1.0) (heard_left (player + 1) n are.0 hearings to are.2))

    pub all_left : (players : ℕ) (picks : List Offer) (new : Spent) (come : List ℕ) (events : List Event) (rest : List ℕ) → AllChoose players offers picks old new come events rest → LeavesUnheard come events rest
    all_left players picks new come events rest all = rw all.written (heard_left 1 (length offers) (supply_with come old) all.hearings (supply_with rest new) all.heard)

  -- of what is said on a console
  module _ {C : Type 0} (talk : C → Option (List Event)) (left : C → Option (List ℕ)) (start between end : C) (i : ℕ) (picks : List Offer) (now : Spent) (before : Did talk left start between (AllChoose i offers picks old now)) where
    module _ (taken : ℕ) (choice : Choice) (asks : Did talk left between end (AsksPlayer (choose_line (i + 1)) (length offers) now.taken choice taken)) where
      pub did_more : (place : ℕ) (offer : Offer) → choice ≡ Place place → slice_get offers (place - 1) ≡ Some offer → Did talk left start end (AllChoose (i + 1) offers (picks ++ offer ∷ []) old (record now { taken = taken }))
      did_more place offer is there = did_then talk left start between end _ _ _ (λ come first middle second rest all one. one_more i picks now choice taken come first middle second rest all one place offer is there) before asks

      pub did_stop : (players : ℕ) (word : EndWord) → IsCutOff choice word → i < players → Did talk left start end (OneDoesNot players offers word old (record now { taken = taken }))
      did_stop players word cut few = did_then talk left start between end _ _ _ (λ come first middle second rest all one. one_does_not i picks now choice taken come first middle second rest all one players word cut few) before asks

    module _ (there : ChoicesAreHeard) (within : ChoicesAreWithin) (players : ℕ) (few : i < players) where
      -- the next one was not asked yet
      pub fell_before : FellShort talk left start between (λ come. come) (ChooseSome players offers old)
      fell_before = did_map talk left start between _ _ (λ come events rest all. (choose_on there within players (players - i) i (omega (arith, few)) picks now come rest events all, all_left within i picks now come events rest all)) before

      pub fell_short : FellShort talk left between end (λ come. come) (AsksSome (choose_line (i + 1)) (length offers) now.taken) → FellShort talk left start end (λ come. come) (ChooseSome players offers old)
      fell_short begun = did_then talk left start between end _ _ _
          (λ come first middle second rest all short. (refused_at there within players i few picks now come middle first second all short.0, left_then come first middle second rest (all_left within i picks now come first middle all) short.1)) before begun

      pub fell_behind : (taken : ℕ) (choice : Choice) → Did talk left between end (AsksPlayer (choose_line (i + 1)) (length offers) now.taken choice taken) → FellShort talk left start end (λ come. come) (ChooseSome players offers old)
      fell_behind taken choice asks = fell_short (did_map talk left between end _ _ (λ come events rest one. (
        record { more = []; left = rest; whole = (choice, taken, rw (append-nil events) one) },
        rw one.whole (text_then (choose_line (i + 1)) come _ come one.heard rest (refl, refl) (hears_left (length offers) one.hears)),
      )) asks)

-- The lines of blocked offers, from one place on.

module _ (program : Parts) (picks : List Offer) (flags : List Bool) (i : ℕ) {whole : List ℕ} (out : List ℕ) (so_far : out ++ blocked_lines program (i + 1) (drop i picks) (drop i flags) ≡ whole) where
  pub step_blocked : (offer : Offer) → slice_get picks i ≡ Some offer → slice_get flags i ≡ Some false → {new after : List ℕ} → new ≡ out ++ blocked_line program (i + 1) offer → after ≡ new → after ++ blocked_lines program (i + 1 + 1) (drop (i + 1) picks) (drop (i + 1) flags) ≡ whole
  step_blocked offer is flagged put same = rw (same, put, append_assoc out (blocked_line program (i + 1) offer) (blocked_lines program (i + 1 + 1) (drop (i + 1) picks) (drop (i + 1) flags))) (rw (drop_at picks i offer is, drop_at flags i false flagged) at so_far)

  pub step_admitted : i < length picks → slice_get flags i ≡ Some true → {after : List ℕ} → after ≡ out → after ++ blocked_lines program (i + 1 + 1) (drop (i + 1) picks) (drop (i + 1) flags) ≡ whole
  step_admitted within flagged same = let (offer, is) = item_at picks i within in rw same (rw (drop_at picks i offer is, drop_at flags i true flagged) at so_far)

  pub end_blocked : length picks ≤ i → out ≡ whole
  end_blocked over = rw (drop_of_length-le picks over, append-nil out) at so_far
