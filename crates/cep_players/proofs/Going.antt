-- Turns, rounds and whole runs, where they are played.
use Rattle.std.proofs.Common.{◌≡◌, inl, inr, ℕ, zero, suc, ◌+◌, ◌<◌, ◌≤◌, Bool, true, false, List, [], ◌∷◌, ◌++◌, length, length-append, take, Option, Some, append_assoc, append-nil, refl, sym, ap, ◌∙◌, arith, map, None}
use Rattle.cep_players.proofs.BlockedLines.{slice_get, drop, drop_of_length-le, did_map, did_same, did_then, drop_at, holds_at, item_at, Configuration, Turned, Done, Over, Event, Did, Multiset, Rule, Parts, Offer, IsOffer, own_group, IsGroupedRule, IsProgram, Position, EndWord, admitted, IsOfferDone, AreOffersDone, Settings, position_of, IsPlaced, Acts, WouldPass, IsActed, IsMoved, DoesOffer, CannotDo, IsOfferActed, IsOfferMoved, BeginsOffer, ActsSome, StopsAct, BeginsActs, turn_left, last_left, events_of_rounds, IsTrue, ◌↔◌, IsSomeAnd, IsAsked, Contains, AllByRecursion, flat_map, flat_map-append, outs, all_weaker, IsState, generator_behind, Deed, start_of, AreAdmitted, offer_lines, end_lines, header, lines_of_deed, Spent, Supply, Turn, whole_supply, EndsAt, LeavesUnheard, supply_with, put_on, left_by, hears_left, put_left, IsForAll, a_turn, of_turn, Hearing, Round, IsListedHere, IsChosenHere, a_round, of_player, of_offer, TurnOrRound, EndOfRounds, choose_line, part_events, hearing_events, blocked_lines, round_question_events, round_events, last_part_events, DialogueInRounds, IsRunInRounds, AllChoose, OneDoesNot, ChooseSome, PlayersLaws, DoesParts, EndsParts, IsWent, AreActed, AreTurnsAdded, IsWholeInRounds, IsDialogueWith, IsSomeDialogue, IsPut, Short, Joins, Maps, left_then, outs_left, text_then, prefix_left, front_of_front, Stops, DoesTurn, IsTurned, heard_left, all_left}
use Rattle.cep_run.specs.declared.turn.Ended.{Ended}
use Rattle.cep_run.specs.Begun.{BeginsAct, PutsFront, IsQuestionOrTurn}
use Rattle.cep_run.proofs.Turns.{whole_begun}
use Rattle.cep_players.proofs.RoundsThere.{stays_in_stage, then_deeds, order_more, lines_more, passes_stops, question_on, turn_on, goes_from, some_admitted, act_on, hearing_on, listed_on, parts_more, runs_after}
pub use Rattle.cep_round.proofs.Admitted.{as_many_flags, next_admitted, next_blocked}
use Rattle.std.specs.FinMap as finite

-- Offers of a round are done, one after another.

-- One offer
module _ {M : Type 0} (program : Parts) (settings : Settings) (kept : IsProgram program) (offer : Offer) (config : Configuration M) (group : ℕ) (own : group ≡ own_group config.stage) (is : IsOffer program settings.height config.state group offer) (offers : List Offer) (place : ℕ) (there : slice_get offers place ≡ Some offer) (remain : config.turns < settings.limit) where
  -- what stands at the place is the offer, and its rule is of the stage
  found : (other : Offer) (rule : Rule) → IsPlaced program offers place other rule → (other ≡ offer) × (is.applies.rule ≡ rule) × (rule.group ≡ own_group config.stage)
  found other rule placed = grind (arith, placed.at_place, placed.of_rule, is.applies.numbered, is.in_group.numbered, is.in_group.grouped)

  acts_deed : (next : Position) → next.turns ≡ config.turns + 1 → (come : List ℕ) (events : List Event) (rest : List ℕ) → Acts program settings.height offers place (position_of config) next come events rest → DoesOffer program settings offer (position_of config) next come events rest
  acts_deed next counted come events rest acts =
      let same = found acts.offer acts.rule acts.placed in
      record {
        deed = record { before = position_of config; offer = acts.offer; rule = acts.rule; proofs = acts.proofs; after = next };
        here = refl;
        leads = refl;
        of_offer = same.0;
        lawful = record { step = record { numbered = acts.placed.of_rule; values = rw (same.1, ← same.0) at is.applies.values; in_turn = inl same.2; proved = acts.proved; steps = acts.steps }; counted = counted };
        remain = remain;
        written = acts.written;
        untaken = acts.untaken;
      }

  acts_fail : (word : EndWord) (come : List ℕ) (events : List Event) (rest : List ℕ) → WouldPass program offers place word (position_of config) come events rest → CannotDo program settings.limit offer (position_of config) word come events rest
  acts_fail word come events rest fails =
      let same = found fails.offer fails.rule fails.placed in
      let stops = passes_stops program settings.limit (position_of config) fails.rule offer fails.passed remain (rw same.0 at fails.passes) in
      record { rule = fails.rule; numbered = rw same.0 at fails.placed.of_rule; stops = rw fails.named stops; unwritten = fails.unwritten; untaken = fails.untaken }

  pub acts_begin : (come : List ℕ) (events : List Event) (rest : List ℕ) → BeginsAct program settings.height offers place (position_of config) come events rest → BeginsOffer program settings offer (position_of config) come events rest
  acts_begin come events rest (inl nothing) = inl nothing
  acts_begin come events rest (inr on) = inr (record { next = on.next; more = on.more; does = acts_deed on.next on.counted come (events ++ on.more) rest on.acts })

  module _ {C : Type 0} (talk : C → Option (List Event)) (left : C → Option (List ℕ)) (old new : C) where
    pub offer_acted : (turned : Turned M) → IsActed talk left old new program settings.height offers place config turned → IsOfferActed talk left old new program settings offer config turned
    offer_acted (Done next) acted = did_map talk left old new _ _ (acts_deed (position_of next) acted.1) acted.0
    offer_acted (Over last) acted = did_map talk left old new _ _ (acts_fail last.word) acted.0

    pub offer_moved : (turned : Turned M) → IsActed talk left old new program settings.height offers place config turned → IsMoved program offers place config turned → IsOfferMoved program settings offer config turned
    offer_moved (Done next) acted (other, rule, placed, steps) =
        let (same, one, grouped) = found other rule placed in
        let is_grouped = holds_at (IsGroupedRule _) program.rules other.rule rule kept.grouped placed.of_rule in
        (record { applies = is.applies; step = rw (same, ← one) at steps.step }, steps.stage ∙ sym (stays_in_stage rule config.stage grouped is_grouped.leaves), acted.1, remain)
    offer_moved (Over last) acted moved = acted.1

-- All admitted offers
pub split_admitted : (chosen : List Offer) (flags : List Bool) (i : ℕ) → admitted chosen flags ≡ admitted (take i chosen) (take i flags) ++ admitted (drop i chosen) (drop i flags)
split_admitted chosen flags zero = refl
split_admitted [] flags (suc i) = refl
split_admitted (offer ∷ chosen) [] (suc i) = none (drop i chosen)
  where
    none : (xs : List Offer) → [] ≡ admitted xs []
    none [] = refl
    none (x ∷ xs) = refl
split_admitted (offer ∷ chosen) (true ∷ flags) (suc i) = ap (λ offers. offer ∷ offers) (split_admitted chosen flags i)
split_admitted (offer ∷ chosen) (false ∷ flags) (suc i) = split_admitted chosen flags i

pub next_left : (chosen : List Offer) (flags : List Bool) (i : ℕ) (offer : Offer) → slice_get chosen i ≡ Some offer → slice_get flags i ≡ Some true → admitted (drop i chosen) (drop i flags) ≡ offer ∷ admitted (drop (i + 1) chosen) (drop (i + 1) flags)
next_left chosen flags i offer is flagged = rw (drop_at chosen i offer is, drop_at flags i true flagged) refl

-- one more is done
done_more : (program : Parts) (height : ℕ) (state : Multiset) (prefix : List Offer) (found next : Multiset) (offer : Offer) → AreOffersDone program height state prefix found → IsOfferDone program height found next offer → AreOffersDone program height state (prefix ++ offer ∷ []) next
done_more program height state [] found next offer done is = (next, rw (← done) is, refl)
done_more program height state (first ∷ prefix) found next offer done is = (done.0, done.1, done_more program height done.0 prefix found next offer done.2 is)

module _ (program : Parts) (settings : Settings) (at : Position) (offers : List Offer) where
  pub acts_none : (come : List ℕ) (events : List Event) (rest : List ℕ) → (events ≡ []) × (rest ≡ come) → ActsSome program settings.height at at offers offers come events rest
  acts_none come events rest same = record { deeds = []; done = refl; order = refl; written = same.0; untaken = same.1 }

  module _ (here : Position) (offer : Offer) (later : List Offer) (come middle rest : List ℕ) (first second : List Event) (acts : ActsSome program settings.height at here offers (offer ∷ later) come first middle) where
    acts_more : (next : Position) → DoesOffer program settings offer here next middle second rest → ActsSome program settings.height at next offers later come (first ++ second) rest
    acts_more next does = record {
      deeds = acts.deeds ++ does.deed ∷ [];
      done = then_deeds program settings 0 at acts.deeds here (does.deed ∷ []) next acts.done (does.here, does.lawful, sym does.leads);
      order = order_more acts.deeds does.deed offer later offers acts.order does.of_offer;
      written = rw (acts.written, does.written, lines_more program acts.deeds does.deed) refl;
      untaken = does.untaken ∙ acts.untaken;
    }

    acts_stop : (word : EndWord) → CannotDo program settings.limit offer here word middle second rest → StopsAct program settings at here offers word come (first ++ second) rest
    acts_stop word cannot = grind (arith, later, append-nil)

  -- the next one was refused
  acts_refused : (here : Position) (offer : Offer) (later : List Offer) → here.turns ≤ settings.limit → (come middle rest : List ℕ) (first second : List Event) → ActsSome program settings.height at here offers (offer ∷ later) come first middle
      → BeginsOffer program settings offer here middle second rest → BeginsActs program settings at offers come (first ++ second) rest
  acts_refused here offer later few come middle rest first second acts (inl nothing) = record {
    here = here;
    later = offer ∷ later;
    few = few;
    more = [];
    acts = record { deeds = acts.deeds; done = acts.done; order = acts.order; written = rw (append-nil (first ++ second), nothing.0, append-nil first) acts.written; untaken = nothing.1 ∙ acts.untaken };
  }
  acts_refused here offer later few come middle rest first second acts (inr on) = record {
    here = on.next;
    later = later;
    few = omega (arith, on.does.lawful.counted, ap (λ (p : Position). p.turns) on.does.here, ap (λ (p : Position). p.turns) on.does.leads, on.does.remain);
    more = on.more;
    acts = rw (append_assoc first second on.more) (acts_more here offer later come middle rest first (second ++ on.more) acts on.next on.does);
  }

module _ {C M : Type 0} (talk : C → Option (List Event)) (left : C → Option (List ℕ)) (program : Parts) (settings : Settings) (chosen : List Offer) (flags : List Bool) (start : Configuration M) (old : C) where
  -- The offers before a place were gone through: the admitted ones of them are done.
  pub record GoneTo (i : ℕ) (config : Configuration M) (console : C) : Type 0 where
    pub few : config.turns ≤ settings.limit
    pub moved : AreOffersDone program settings.height start.state (admitted (take i chosen) (take i flags)) config.state
    pub stage : config.stage ≡ start.stage
    pub counted : config.turns ≡ start.turns + length (admitted (take i chosen) (take i flags))
    pub so_far : Did talk left old console (ActsSome program settings.height (position_of start) (position_of config) (admitted chosen flags) (admitted (drop i chosen) (drop i flags)))

  pub gone_nowhere : start.turns ≤ settings.limit → GoneTo 0 start old
  gone_nowhere few = record { few = few; moved = refl; stage = refl; counted = omega arith; so_far = did_map talk left old old _ _ (acts_none program settings (position_of start) (admitted chosen flags)) (did_same talk left old old refl refl) }

  module _ (i : ℕ) (config : Configuration M) (console : C) (gone : GoneTo i config console) where
    -- all were gone through
    pub gone_all : length chosen ≤ i → (config.turns ≡ start.turns + length (admitted chosen flags)) × Did talk left old console (ActsSome program settings.height (position_of start) (position_of config) (admitted chosen flags) [])
    gone_all over = grind (arith, admitted chosen flags, admitted (take i chosen) (take i flags), split_admitted chosen flags i, drop_of_length-le chosen over, append-nil (admitted (take i chosen) (take i flags)))

    -- the next one is blocked
    pub gone_past : i < length chosen → slice_get flags i ≡ Some false → GoneTo (i + 1) config console
    gone_past within flagged =
        let there = item_at chosen i within in
        let same = next_blocked chosen flags i flagged in
        record { few = gone.few; moved = rw same gone.moved; stage = gone.stage; counted = rw same gone.counted; so_far = rw (drop_at chosen i there.0 there.1, drop_at flags i false flagged) at gone.so_far }

    -- the next one is admitted
    module _ (new : C) (offer : Offer) (there : slice_get chosen i ≡ Some offer) (flagged : slice_get flags i ≡ Some true) where
      abbrev later : List Offer
      later = admitted (drop (i + 1) chosen) (drop (i + 1) flags)

      waiting : Did talk left old console (ActsSome program settings.height (position_of start) (position_of config) (admitted chosen flags) (offer ∷ later))
      waiting = rw (next_left chosen flags i offer there flagged) at gone.so_far

      pub gone_on : (next : Configuration M) → IsOfferMoved program settings offer config (Done next) → IsOfferActed talk left console new program settings offer config (Done next) → GoneTo (i + 1) next new
      gone_on next (done, stage, counted, remain) acted =
          let more = next_admitted chosen flags i offer there flagged in
          record {
            few = omega (arith, counted, remain);
            moved = rw more (done_more program settings.height start.state (admitted (take i chosen) (take i flags)) config.state next.state offer gone.moved done);
            stage = stage ∙ gone.stage;
            counted = omega (arith, counted, gone.counted, (ap length more ∙ length-append (admitted (take i chosen) (take i flags)) (offer ∷ [])));
            so_far = did_then talk left old console new _ _ _ (λ come first middle second rest acts does. acts_more program settings (position_of start) (admitted chosen flags) (position_of config) offer later come middle rest first second acts (position_of next) does) waiting acted;
          }

      pub gone_out : (last : Ended M) → IsOfferMoved program settings offer config (Over last) → IsOfferActed talk left console new program settings offer config (Over last)
          → Did talk left old new (StopsAct program settings (position_of start) (position_of last.config) (admitted chosen flags) last.word)
      gone_out last same acted = rw same (did_then talk left old console new _ _ _ (λ come first middle second rest acts cannot. acts_stop program settings (position_of start) (admitted chosen flags) (position_of config) offer later come middle rest first second acts last.word cannot) waiting acted)

      pub gone_short : Did talk left console new (BeginsOffer program settings offer (position_of config)) → Did talk left old new (BeginsActs program settings (position_of start) (admitted chosen flags))
      gone_short begun = did_then talk left old console new _ _ _ (λ come first middle second rest acts on. acts_refused program settings (position_of start) (admitted chosen flags) (position_of config) offer later gone.few come middle rest first second acts on) waiting begun

module _ {program : Parts} {settings : Settings} (players : ℕ) {at : Position} (none : IsForAll program settings.height at → ⊥) (spent : Spent) where
  turn_ends : (word : EndWord) (spent' : Spent) → Maps (Stops (choose_line 1) program settings at spent word spent') (EndsParts program settings players at spent word at spent')
  turn_ends word spent' come events rest stops =
      record { end = of_turn stops.asked; ends = (stops.ends, grind arith, refl); written = stops.written; gone = rw stops.written (last_left (choose_line 1) program settings at (supply_with come spent) stops.asked (supply_with rest spent') (left_by program settings at _ stops.ends)) }

  -- what was said before a turn was refused begins some run
  pub turn_refused : PlayersLaws → IsProgram program → 0 < players → IsState program.signature at.spot.state → Maps (Short (λ come. supply_with come spent) (IsQuestionOrTurn (choose_line 1) program settings at)) (Short (λ come. supply_with come spent) (IsRunInRounds program settings players at))
  turn_refused laws kept some is_state = whole_begun (IsRunInRounds program settings players at) (choose_line 1) program settings at spent
      (λ from question to asks. question_on program settings players laws kept some at from is_state question to asks none (goes_from program settings players laws kept some at))
      (λ from turn is. turn_on program settings players laws kept some at from is_state turn is none (goes_from program settings players laws kept some at))

-- not all choose at once, by the code's test
pub not_for_all : (program : Parts) (height : ℕ) (at : Position) (group : ℕ) (all : Bool) → IsAsked program height at.spot.state at.spot.stage group → (IsTrue all ↔ (IsSomeAnd (slice_get program.stages at.spot.stage) (λ stage. stage.interactive ≡ true) × (group ≡ own_group at.spot.stage))) → all ≡ false
    → IsForAll program height at → ⊥
not_for_all program height at group all asked iff is for_all = grind arith

-- what a turn comes to
pub turn_went : {C M : Type 0} (talk : C → Option (List Event)) (left : C → Option (List ℕ)) (old new : C) {program : Parts} (settings : Settings) (players : ℕ) (config : Configuration M) → (IsForAll program settings.height (position_of config) → ⊥) → config.turns < settings.limit
    → (counts : Deed → Type 0) (uncounted : Type 0) (offers : List Offer) (spent spent' : Spent) (turned : Turned M) → IsTurned talk left old new (choose_line 1) program settings counts uncounted offers config spent spent' turned → IsWent talk left old new program settings players config spent spent' turned
turn_went talk left old new {program} settings players config none remain counts uncounted offers spent spent' (Done next) (does, counted, few) = (
  did_map talk left old new _ _ (λ come events rest (does : DoesTurn (choose_line 1) program settings counts offers (position_of config) spent (position_of next) spent' come events rest). record {
    parts = a_turn does.turn ∷ [];
    done = (does.is, none, (sym does.after, sym does.left));
    written = does.written ∙ sym (append-nil (part_events program (a_turn does.turn)));
    gone = rw (does.written, sym (ap (λ (s : Supply). s.come) does.left)) (turn_left (choose_line 1) program settings (position_of config) (supply_with come spent) does.turn does.is);
  }) does,
  omega (arith, counted),
  omega (arith, counted, remain),
)
turn_went talk left old new settings players config none remain counts uncounted offers spent spent' (Over last) (stops, same, still) = rw same (did_map talk left old new _ _ (turn_ends players none spent last.word spent') stops)

module _ {program : Parts} {settings : Settings} {at : Position} {offers : List Offer} (listed : IsListedHere program settings at offers) (players : ℕ) (spent : Spent) (laws : PlayersLaws) (kept : IsProgram program) (some : 0 < players) (is_state : IsState program.signature at.spot.state) where
  abbrev Begins : List ℕ → List Event → List ℕ → Type 0
  Begins = Short (λ come. supply_with come spent) (IsRunInRounds program settings players at)

  pub listing_refused : Maps (PutsFront (offer_lines program 1 offers)) Begins
  listing_refused come events rest put =
      let (more, written) = put_on (offer_lines program 1 offers) come events rest put in
      (front_of_front _ _ events more (rw written (listed_on program settings players laws kept some at spent is_state offers listed (goes_from program settings players laws kept some at) come)), put_left (offer_lines program 1 offers) come events rest put)

  pub choosing_refused : Joins (IsPut (offer_lines program 1 offers)) (Short (λ come. come) (ChooseSome players offers spent)) Begins
  choosing_refused come first middle second rest put (begun, left) =
      (rw put.0 (hearing_on program settings players laws kept some at spent is_state offers listed (goes_from program settings players laws kept some at) come second (rw (sym put.1) begun)), text_then (offer_lines program 1 offers) come first middle second rest put left)

  module _ (spent' : Spent) where
    -- one did not choose
    pub round_cut : (word : EndWord) → Joins (IsPut (offer_lines program 1 offers)) (OneDoesNot players offers word spent spent') (EndsParts program settings players at spent word at spent')
    round_cut word come first middle second rest put stops = record {
      end = of_player offers stops.hearings stops.last stops.choice;
      ends = (record { listed = listed; fewer = stops.fewer; between = stops.between; before = rw (sym put.1) stops.before; heard = stops.heard }, stops.cut_off, refl);
      written = rw (put.0, stops.written) refl;
      gone = text_then (offer_lines program 1 offers) come first middle second rest put (rw stops.written (left_then middle (hearing_events 1 stops.hearings) stops.between.come _ rest (heard_left offers spent laws.within 1 (length offers) _ stops.hearings stops.between stops.before)
          (text_then (choose_line (length stops.hearings + 1)) _ _ stops.between.come stops.last rest (refl, refl) (hears_left (length offers) stops.heard.0))));
    }

    module _ (chosen : List Offer) where
      abbrev Chosen : List ℕ → List Event → List ℕ → Type 0
      Chosen = AllChoose players offers chosen spent spent'

      pub admitting_refused : Joins (IsPut (offer_lines program 1 offers)) Chosen Begins
      admitting_refused come first middle second rest put all = choosing_refused come first middle second rest put (record { more = []; left = rest; whole = inl (chosen, spent', rw (append-nil second) all) }, all_left offers spent laws.within players chosen spent' middle second rest all)

      module _ (flags : List Bool) (flagged : AreAdmitted program at.spot.state finite.empty chosen flags) where
        abbrev round_of : List Hearing → List Deed → Round
        round_of hearings deeds = record { offers = offers; hearings = hearings; chosen = chosen; flags = flags; deeds = deeds }

        abbrev blocked : List ℕ
        blocked = blocked_lines program 1 chosen flags

        -- all chose, and it was said who is blocked
        abbrev AreTold : List ℕ → List Event → List ℕ → Type 0
        AreTold come events rest = (choosing : List Event) × Chosen come choosing rest × (events ≡ choosing ++ outs blocked)

        -- so the round was asked
        pub record IsAskedOfAll (come : List ℕ) (events : List Event) (rest : List ℕ) : Type 0 where
          pub hearings : List Hearing
          pub choice : (deeds : List Deed) → IsChosenHere program settings players at (supply_with come spent) (round_of hearings deeds) (supply_with rest spent')
          pub written : events ≡ round_question_events program (round_of hearings [])
          pub gone : LeavesUnheard come events rest

        asked_of_all : Joins (IsPut (offer_lines program 1 offers)) AreTold IsAskedOfAll
        asked_of_all come first middle second rest put (choosing, all, written) = record {
          hearings = all.hearings;
          choice = λ deeds. record { listed = listed; of_each = all.of_each; heard = rw (sym put.1) all.heard; chosen = all.chosen; flagged = flagged };
          written = rw (put.0, written, all.written) refl;
          gone = text_then (offer_lines program 1 offers) come first middle second rest put (rw written (left_then middle choosing rest (outs blocked) rest (all_left offers spent laws.within players chosen spent' middle choosing rest all) (outs_left blocked rest _ rest (refl, refl))));
        }

        pub did_ask : {C : Type 0} (talk : C → Option (List Event)) (left : C → Option (List ℕ)) (old one two new : C) → Did talk left old one (IsPut (offer_lines program 1 offers)) → Did talk left one two Chosen → Did talk left two new (IsPut blocked) → Did talk left old new IsAskedOfAll
        did_ask talk left old one two new listing all told = did_then talk left old one new _ AreTold _ asked_of_all listing (did_then talk left one two new _ _ AreTold (λ come first middle second rest all told. (first, rw told.1 all, rw told.0 refl)) all told)

        -- the round is done
        round_goes : (next : Position) → next.turns ≤ settings.limit → Joins IsAskedOfAll (ActsSome program settings.height at next (admitted chosen flags) []) (DoesParts program settings players at spent next spent')
        round_goes next few come first middle second rest is acts = record {
          parts = a_round (round_of is.hearings acts.deeds) next (supply_with rest spent') ∷ [];
          done = (record { choice = rw acts.untaken (is.choice acts.deeds); done = acts.done; all = sym (acts.order ∙ append-nil (map (λ deed. deed.offer) acts.deeds)); remain = few }, (refl, refl));
          written = rw (is.written, acts.written) (sym (append-nil (round_events program (round_of is.hearings acts.deeds))));
          gone = left_then come first middle second rest is.gone (outs_left _ middle second rest (acts.written, acts.untaken));
        }

        -- an admitted offer cannot be done
        round_stops : (here : Position) (word : EndWord) → Joins IsAskedOfAll (StopsAct program settings at here (admitted chosen flags) word) (EndsParts program settings players at spent word here spent')
        round_stops here word come first middle second rest is stops =
            let acts = stops.acts in record {
              end = of_offer (round_of is.hearings acts.deeds);
              ends = (rw acts.untaken (is.choice acts.deeds), record { done = acts.done; next = stops.next; rule = stops.rule; later = stops.later; in_order = acts.order; of_rule = stops.numbered; stops = stops.stops });
              written = rw (is.written, acts.written) refl;
              gone = left_then come first middle second rest is.gone (outs_left _ middle second rest (acts.written, acts.untaken));
            }

        -- what was said before a call was refused begins some run
        pub acting_refused : Joins IsAskedOfAll (BeginsActs program settings at (admitted chosen flags)) Begins
        acting_refused come first middle second rest is begun =
            let acts = begun.acts in
            let on = act_on program settings players laws kept some at (supply_with come spent) (supply_with rest spent') is_state (round_of is.hearings acts.deeds) (rw acts.untaken (is.choice acts.deeds))
            (goes_from program settings players laws kept some at) begun.later acts.deeds begun.here acts.done acts.order begun.few in (
              front_of_front _ _ (first ++ second) begun.more (rw (append_assoc first second begun.more, is.written, acts.written) on),
              left_then come first middle second rest is.gone (prefix_left (flat_map (lines_of_deed program) acts.deeds) middle second begun.more rest acts.written acts.untaken),
            )

        -- a prefix of the lines of blocked offers: nothing is done after all of them
        telling_refused : Joins Chosen (PutsFront blocked) (Short (λ come. come) AreTold)
        telling_refused come first middle second rest all put =
            let (more, written) = put_on blocked middle second rest put in
            (record { more = more; left = middle; whole = (first, all, rw (append_assoc first second more, written) refl) }, left_then come first middle second rest (all_left offers spent laws.within players chosen spent' come first middle all) (put_left blocked middle second rest put))

        blocking_refused : Joins (IsPut (offer_lines program 1 offers)) (Short (λ come. come) AreTold) Begins
        blocking_refused come first middle second rest put (begun, left) =
            let none : BeginsActs program settings at (admitted chosen flags) begun.left [] begun.left = record { here = at; later = admitted chosen flags; few = omega (arith, listed.remain); more = []; acts = acts_none program settings at (admitted chosen flags) begun.left [] begun.left (refl, refl) } in
            let on = (acting_refused come (first ++ (second ++ begun.more)) begun.left [] begun.left (asked_of_all come first middle (second ++ begun.more) begun.left put begun.whole) none).0 in
            (front_of_front _ _ (first ++ second) begun.more (rw (append_assoc first second begun.more) (rw (append-nil (first ++ (second ++ begun.more))) at on)), text_then (offer_lines program 1 offers) come first middle second rest put left)

        pub did_tell_some : {C : Type 0} (talk : C → Option (List Event)) (left : C → Option (List ℕ)) (old one two new : C) → Did talk left old one (IsPut (offer_lines program 1 offers)) → Did talk left one two Chosen → Did talk left two new (PutsFront blocked) → Did talk left old new Begins
        did_tell_some talk left old one two new listing all put = did_then talk left old one new _ _ _ blocking_refused listing (did_then talk left one two new _ _ _ telling_refused all put)

-- what a round comes to
module _ {C M : Type 0} (talk : C → Option (List Event)) (left : C → Option (List ℕ)) (old between new : C) {program : Parts} {settings : Settings} (config : Configuration M) {offers : List Offer} (listed : IsListedHere program settings (position_of config) offers)
    (players : ℕ) (spent : Spent) (laws : PlayersLaws) (kept : IsProgram program) (some : 0 < players) (is_state : IsState program.signature config.state) (spent' : Spent) (chosen : List Offer) (flags : List Bool) (flagged : AreAdmitted program config.state finite.empty chosen flags)
    (picked : (length chosen ≡ players) × AllByRecursion (Contains offers) chosen) (asked : Did talk left old between (IsAskedOfAll listed players spent laws kept some is_state spent' chosen flags flagged)) where
  pub round_acted : (turned : Turned M) → AreActed talk left between new program settings (admitted chosen flags) config turned → AreTurnsAdded settings (admitted chosen flags) config turned → IsWent talk left old new program settings players config spent spent' turned
  round_acted (Done next) acted counted =
      let many = some_admitted laws.bags program settings.height config.state (own_group config.stage) chosen flags (all_weaker _ _ chosen listed.offered.no_other picked.1) flagged (omega (arith, picked.0, some)) in
      (did_then talk left old between new _ _ _ (round_goes listed players spent laws kept some is_state spent' chosen flags flagged (position_of next) counted.1) asked acted, omega (arith, many, counted.0), counted.1)
  round_acted (Over last) acted counted = did_then talk left old between new _ _ _ (round_stops listed players spent laws kept some is_state spent' chosen flags flagged (position_of last.config) last.word) asked acted

-- the run ends before a turn or a round
pub ends_before : {C M : Type 0} (talk : C → Option (List Event)) (left : C → Option (List ℕ)) (console : C) (program : Parts) (settings : Settings) (players : ℕ) (config : Configuration M) (spent : Spent) (word : EndWord)
    → ((from to : Supply) → to ≡ from → EndsAt program settings (position_of config) from word None to) → IsWent talk left console console program settings players config spent spent (Over (record { config = config; word = word }))
ends_before talk left console program settings players config spent word ends = did_map talk left console console _ _
    (λ come events rest same. record { end = of_turn None; ends = (ends (supply_with come spent) (supply_with rest spent) (ap (λ bytes. supply_with bytes spent) same.1), tt, refl); written = same.0; gone = outs_left [] come events rest same }) (did_same talk left console console refl refl)

-- nothing was spent yet
abbrev pub unspent : Spent
unspent = record { taken = 0; drawn = 0; draw = generator_behind 0 0 }

-- Turn after turn and round after round

module _ (program : Parts) (settings : Settings) (players : ℕ) (start : Position) where
  -- nothing is done yet
  pub no_parts : (spent : Spent) → spent.taken ≡ 0 → spent.drawn ≡ 0 → Maps (λ come events rest. (events ≡ []) × (rest ≡ come)) (DoesParts program settings players start unspent start spent)
  no_parts spent untaken undrawn come events rest same = record { parts = []; done = (refl, λ i. record { come = same.1 i; taken = untaken i; drawn = undrawn i }); written = same.0; gone = outs_left [] come events rest same }

  module _ (here : Position) (spent : Spent) where
    -- one turn or round more
    pub parts_then : (next : Position) (spent' : Spent) → Joins (DoesParts program settings players start unspent here spent) (DoesParts program settings players here spent next spent') (DoesParts program settings players start unspent next spent')
    parts_then next spent' come first middle second rest one other = record {
      parts = one.parts ++ other.parts;
      done = parts_more program settings players start (whole_supply come) one.parts here (supply_with middle spent) other.parts next (supply_with rest spent') one.done other.done;
      written = rw (one.written, other.written, flat_map-append (part_events program) one.parts other.parts) refl;
      gone = left_then come first middle second rest one.gone other.gone;
    }

    -- and then the run ends
    pub parts_end : (word : EndWord) (last : Position) (spent' : Spent) → Joins (DoesParts program settings players start unspent here spent) (EndsParts program settings players here spent word last spent') (IsWholeInRounds program settings players start word last)
    parts_end word last spent' come first middle second rest one ends = record {
      parts = one.parts;
      end = ends.end;
      left = supply_with rest spent';
      run = record { here = here; between = supply_with middle spent; done = one.done; ends = ends.ends };
      written = rw (one.written, ends.written) refl;
      rest_is = refl;
      gone = left_then come first middle second rest one.gone ends.gone;
    }

    -- or goes on somehow
    pub parts_refused : Joins (DoesParts program settings players start unspent here spent) (Short (λ come. supply_with come spent) (IsRunInRounds program settings players here)) (Short whole_supply (IsRunInRounds program settings players start))
    parts_refused come first middle second rest one (begun, left) =
        (rw one.written (runs_after program settings players start (whole_supply come) one.parts here (supply_with middle spent) second one.done begun), left_then come first middle second rest one.gone left)

module _ (program : Parts) (settings : Settings) (players : ℕ) where
  -- between the header and the last lines
  abbrev pub Framed : EndWord → Position → List ℕ → List Event → List ℕ → Type 0
  Framed word last come run rest = IsDialogueWith program settings players word come (outs (header program settings.height) ++ (run ++ outs (end_lines program.signature word last.spot.state))) rest

  pub dialogue_there : ((come : List ℕ) → (parts : List TurnOrRound) × (end : EndOfRounds) × (word : EndWord) × (last : Position) × (events : List Event) × (rest : List ℕ) × DialogueInRounds program settings players come parts end word last events rest)
      → (come : List ℕ) → (run : List Event) × (rest : List ℕ) × IsSomeDialogue program settings players come (outs (header program settings.height) ++ run) rest
  dialogue_there there come = let (parts, end, word, last, events, rest, is) = there come in (events_of_rounds program parts end word last, rest, (word, (parts, end, last, rw (sym is.whole) is)))

  module _ (start : Position) (at : start ≡ start_of program) where
    pub dialogue_made : (word : EndWord) (last : Position) (come : List ℕ) (run : List Event) (rest : List ℕ) → IsWholeInRounds program settings players start word last come run rest → Framed word last come run rest
    dialogue_made word last come run rest whole =
        let lines = outs (end_lines program.signature word last.spot.state) in
        (whole.parts, whole.end, last, record { left = whole.left; run = rw (sym at) whole.run; whole = rw (whole.written, append_assoc (flat_map (part_events program) whole.parts) (last_part_events program whole.end) lines) refl; rest_is = whole.rest_is })

    pub run_made : (come : List ℕ) (run : List Event) (left : Supply) → IsRunInRounds program settings players start (whole_supply come) run left → IsSomeDialogue program settings players come (outs (header program settings.height) ++ run) left.come
    run_made come run left (parts, end, word, last, is, said) = (word, (parts, end, last, record { left = left; run = rw (sym at) is; whole = rw said refl; rest_is = refl }))
