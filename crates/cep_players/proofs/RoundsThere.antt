-- What is done in rounds are deeds; a run in rounds is there from every position, and what is written tells its deeds.
use Rattle.std.proofs.Common.{◌≡◌, ℕ, ◌-◌, ◌%◌, Bool, List, [], ◌∷◌, ◌++◌, map, append_assoc, append-nil, Some, IsSome, ◌↔◌, refl, sym, ap, ◌∙◌, arith, Contains, ◌⊎◌, inl, inr, zero, suc, ◌+◌, ◌<◌, ◌≤◌, true, false, length, Option, None}
use Rattle.std.proofs.lemmas.List.{map-append, length-map}
use Rattle.std.proofs.lemmas.Bool.{cases_lt}
use Rattle.std.proofs.lemmas.Slice.Zip.{AllZip-long}
use Rattle.cep_rule.specs.Steps.{AreProofs, stage_after}
use Rattle.cep_players.proofs.BlockedLines.{slice_get, AllByRecursion, flat_map, flat_map-append, all_at, all_of, contains_first, contains_left, contains_right, holds_at, map_last, ProofTree, IsDerivable, quiet_here, outs, AtomTree, Multiset, Rule, Parts, Offer, IsState, Applies, IsInGroup, IsOffer, own_group, IsQuiet, Step, IsTypedRule, IsDividedRule, IsGroupedRule, IsProgram, Position, Deed, AreDeeds, EndWord, lines_of_deed, Quiet, AreAdmitted, admitted, IsRound, AreOffersDone, Settings, Supply, RoundsAreLawful, Hearing, HaveChosen, Round, IsRoundDone, TurnOrRound, a_turn, a_round, AreTurnsAndRounds, AreTogether, all_done, EndOfRounds, done_before, EndsInRounds, RunsInRounds, contains_at, all_from_places, offer_lines, left_by, deeds_counted, generator_behind, Event, count_of, IsContained, IsAsked, start_of, Limit, Passes, used_with, Turns, end_lines, header, Spent, whole_supply, Question, Turn, IsQuestion, IsTurn, AreTurns, EndsAt, supply_with, limit_word, BeginsSome, PlayersLaws, IsForAll, IsListedHere, IsChosenHere, of_turn, of_player, of_offer, CannotBeDone, hearing_events, blocked_lines, turn_question_events, round_question_events, round_events, part_events, last_part_events, DialogueInRounds, ChooseSome, IsRunInRounds, front_of_front, codes, decimal, IsOfferOf, applied_has_text, AreRemarks, TellDeeds, TellRun, Choice, Hears, chosen, AreHeard, none_chose, choose_on}
use Rattle.cep_round.proofs.Admitted.{each_admitted}
use Rattle.cep_base.specs.declared.console.Event.TheVariants.{Out}
use Rattle.cep_term.specs.BagLaws.{BagLaws}
use Rattle.cep_run.proofs.RunThere.{interactive_or_not}
use Rattle.cep_run.specs.Dialogue.{written_bytes}
use Rattle.cep_players.specs.Dialogues.{choose_line, blocked_line}
use Rattle.cep_text.specs.Texts.{offer_text}
use Rattle.cep_log.specs.Transcript.{IsOneLine}
use Rattle.cep_run.proofs.Transcribed.{written_both, written_outs, no_remarks, both_remarks, said_both, said_outs, line_remark, heard_remarks, both_one, numbered_remark, offers_remarks, question_remarks}
use Rattle.std.specs.FinMap as finite

-- What is done in rounds are deeds, and within a round each admitted offer can be done where those before it were.

-- offers that were chosen are offers of the list
pub chosen_are : (P : Offer → Type 0) (offers : List Offer) → ((k : ℕ) (offer : Offer) → slice_get offers k ≡ Some offer → P offer) → (hearings : List Hearing) (picks : List Offer) → HaveChosen offers hearings picks → AllByRecursion P picks
chosen_are P offers each (hearing ∷ hearings) (offer ∷ picks) have = (each (hearing.place - 1) offer have.0, chosen_are P offers each hearings picks have.1)
chosen_are P offers each hearings picks have = grind arith

-- a rule of a stage's own group leaves no stage
pub stays_in_stage : (rule : Rule) (stage : ℕ) → rule.group ≡ own_group stage → IsSome rule.next ↔ (rule.group % 2 ≡ 1) → stage ≡ stage_after rule stage
stays_in_stage rule stage grouped leaves = grind arith

-- Deeds
module _ (program : Parts) (settings : Settings) (players : ℕ) where
  pub then_deeds : (at : Position) (deeds : List Deed) (between : Position) (more : List Deed) (last : Position) → AreDeeds program settings.height at deeds between → AreDeeds program settings.height between more last → AreDeeds program settings.height at (deeds ++ more) last
  then_deeds at [] between more last done later = rw (← done) later
  then_deeds at (deed ∷ deeds) between more last done later = (done.0, done.1, then_deeds deed.after deeds between more last done.2 later)

  parts_deeds : (at : Position) (from : Supply) (parts : List TurnOrRound) (last : Position) (to : Supply) → AreTurnsAndRounds program settings players at from parts last to → AreDeeds program settings.height at (all_done parts) last
  parts_deeds at from [] last to done = done.0
  parts_deeds at from (a_turn turn ∷ parts) last to done = (done.0.here, done.0.does, parts_deeds turn.deed.after turn.left parts last to done.2)
  parts_deeds at from (a_round round here left ∷ parts) last to done = then_deeds at round.deeds here (all_done parts) last done.0.done (parts_deeds here left parts last to done.1)

  end_deeds : (at : Position) (from : Supply) (word : EndWord) (end : EndOfRounds) (last : Position) (to : Supply) → EndsInRounds program settings players at from word end last to → AreDeeds program settings.height at (done_before end) last
  end_deeds at from word end last to ends = grind arith

  pub run_deeds : (at : Position) (from : Supply) (parts : List TurnOrRound) (end : EndOfRounds) (word : EndWord) (last : Position) (to : Supply) → RunsInRounds program settings players at from parts end word last to → AreDeeds program settings.height at (all_done parts ++ done_before end) last
  run_deeds at from parts end word last to run = then_deeds at (all_done parts) run.here (done_before end) last (parts_deeds at from parts run.here run.between run.done) (end_deeds run.here run.between word end last to run.ends)

  end_quiet : (at : Position) (from : Supply) (end : EndOfRounds) (last : Position) (to : Supply) → EndsInRounds program settings players at from Quiet end last to → IsQuiet program settings.height last.spot.state last.spot.stage
  end_quiet at from end last to ends = grind (arith, quiet_here)

  pub run_quiet : (at : Position) (from : Supply) (parts : List TurnOrRound) (end : EndOfRounds) (word : EndWord) (last : Position) (to : Supply) → RunsInRounds program settings players at from parts end word last to → word ≡ Quiet → IsQuiet program settings.height last.spot.state last.spot.stage
  run_quiet at from parts end word last to run is = end_quiet run.here run.between end last to (rw is at run.ends)

-- a deed more does an offer more, and writes its lines
pub order_more : (deeds : List Deed) (deed : Deed) (offer : Offer) (later all : List Offer) → all ≡ map (λ deed. deed.offer) deeds ++ offer ∷ later → deed.offer ≡ offer → all ≡ map (λ deed. deed.offer) (deeds ++ deed ∷ []) ++ later
order_more deeds deed offer later all order same = rw (map_last (λ (d : Deed). d.offer) deeds deed, append_assoc (map (λ (d : Deed). d.offer) deeds) (deed.offer ∷ []) later, same) order

pub lines_more : (program : Parts) (deeds : List Deed) (deed : Deed) → outs (flat_map (lines_of_deed program) (deeds ++ deed ∷ [])) ≡ outs (flat_map (lines_of_deed program) deeds) ++ outs (lines_of_deed program deed)
lines_more program deeds deed = rw (flat_map-append (lines_of_deed program) deeds (deed ∷ []), append-nil (lines_of_deed program deed), map-append Out (flat_map (lines_of_deed program) deeds) (lines_of_deed program deed)) refl

module _ (laws : RoundsAreLawful) (program : Parts) (height : ℕ) where
  derivable : (proofs : List ProofTree) (atoms : List AtomTree) → AreProofs program height proofs atoms → AllByRecursion (IsDerivable program height) atoms
  derivable (proof ∷ proofs) (a ∷ atoms) are = (record { proof = proof; proves = are.0; low = are.1 }, derivable proofs atoms are.2)
  derivable proofs atoms are = grind arith

  -- deeds are offers that are done one after another
  pub deeds_done : (at : Position) (deeds : List Deed) (last : Position) → AreDeeds program height at deeds last → AreOffersDone program height at.spot.state (map (λ deed. deed.offer) deeds) last.spot.state
  deeds_done at [] last done = ap (λ (p : Position). p.spot.state) done
  deeds_done at (deed ∷ deeds) last done =
      let step = done.1.step in
      let move : Step program.signature deed.rule deed.offer.values at.spot.state deed.after.spot.state = rw (← done.0) step.steps.step in
      let applies : Applies program height at.spot.state deed.offer = record {
        rule = deed.rule;
        numbered = step.numbered;
        values = step.values;
        contained = laws.needed program.signature deed.rule deed.offer.values at.spot.state deed.after.spot.state move;
        derivable = derivable deed.proofs _ step.proved;
      } in
      (deed.after.spot.state, record { applies = applies; step = move }, deeds_done deed.after deeds last done.2)

  module _ (kept : IsProgram program) where
    -- deeds lead from states to states
    pub deeds_states : (at : Position) (deeds : List Deed) (last : Position) → IsState program.signature at.spot.state → AreDeeds program height at deeds last → IsState program.signature last.spot.state
    deeds_states at [] last is done = rw done is
    deeds_states at (deed ∷ deeds) last is done =
        let step = done.1.step in
        let typed = holds_at (IsTypedRule program.signature) program.rules deed.offer.rule deed.rule kept.typed_rules step.numbered in
        let divided = holds_at (IsDividedRule program.signature) program.rules deed.offer.rule deed.rule kept.divided_rules step.numbered in
        deeds_states deed.after deeds last (laws.lead program.signature deed.rule deed.offer.values deed.before.spot.state deed.after.spot.state typed divided step.values (rw done.0 is) step.steps.fit step.steps.step) done.2

    -- deeds of a stage's own offers stay in the stage
    deeds_stay : (stage : ℕ) (at : Position) (deeds : List Deed) (last : Position) → at.spot.stage ≡ stage → AllByRecursion (IsInGroup program (own_group stage)) (map (λ deed. deed.offer) deeds) → AreDeeds program height at deeds last → last.spot.stage ≡ stage
    deeds_stay stage at [] last here grouped done = rw done here
    deeds_stay stage at (deed ∷ deeds) last here grouped done =
        let step = done.1.step in
        let own : deed.rule.group ≡ own_group stage = cc (grouped.0.numbered, step.numbered, grouped.0.grouped) in
        let is_grouped = holds_at (IsGroupedRule _) program.rules deed.offer.rule deed.rule kept.grouped step.numbered in
        deeds_stay stage deed.after deeds last (step.steps.stage ∙ rw (done.0, here) (sym (stays_in_stage deed.rule stage own is_grouped.leaves))) grouped.1 done.2

    module _ (state : Multiset) (group : ℕ) (picks : List Offer) (flags : List Bool) (are : AllByRecursion (IsOffer program height state group) picks) (flagged : AreAdmitted program state finite.empty picks flags) where
      admitted_is : (offer : Offer) → Contains (admitted picks flags) offer → IsOffer program height state group offer
      admitted_is offer there = all_at (IsOffer program height state group) (admitted picks flags) offer (each_admitted (IsOffer program height state group) picks flags are) there

      -- the next admitted offer is one where it comes
      pub next_offer : (prefix later : List Offer) (offer : Offer) (found : Multiset) → admitted picks flags ≡ prefix ++ offer ∷ later → AreOffersDone program height state prefix found → IsOffer program height found group offer
      next_offer prefix later offer found order done = grind (arith, admitted_is offer (rw order (contains_right prefix (offer ∷ later) offer (contains_first offer later))))

    -- and so it is after deeds, which stay in the stage
    pub next_is_offer : (at : Position) (picks : List Offer) (flags : List Bool) → AreAdmitted program at.spot.state finite.empty picks flags → AllByRecursion (IsOffer program height at.spot.state (own_group at.spot.stage)) picks
        → (deeds : List Deed) (here : Position) → AreDeeds program height at deeds here → (offer : Offer) (later : List Offer) → admitted picks flags ≡ map (λ deed. deed.offer) deeds ++ offer ∷ later → IsOffer program height here.spot.state (own_group here.spot.stage) offer
    next_is_offer at picks flags flagged are deeds here done offer later order =
        let group = own_group at.spot.stage in
        let before = map (λ (deed : Deed). deed.offer) deeds in
        let grouped = all_of (IsInGroup program group) before (λ o there. (admitted_is at.spot.state group picks flags are flagged o (rw order (contains_left before (offer ∷ later) o there))).in_group) in
        rw (deeds_stay at.spot.stage at deeds here refl grouped done) (next_offer at.spot.state group picks flags are flagged before later offer here.spot.state order (deeds_done at deeds here done))

-- each round of a dialogue ends where its admitted offers lead together
module _ (laws : RoundsAreLawful) (program : Parts) (settings : Settings) (players : ℕ) (kept : IsProgram program) (ends : (at last : Position) (from to : Supply) (round : Round) → IsState program.signature at.spot.state → IsRoundDone program settings players at from round last to → IsRound program round.chosen round.flags at.spot.state last.spot.state) where
  pub together : (at : Position) (from : Supply) (parts : List TurnOrRound) (last : Position) (to : Supply) → IsState program.signature at.spot.state → AreTurnsAndRounds program settings players at from parts last to → AreTogether program at parts
  together at from [] last to is done = tt
  together at from (a_turn turn ∷ parts) last to is done = together turn.deed.after turn.left parts last to (deeds_states laws program settings.height kept at (turn.deed ∷ []) turn.deed.after is (done.0.here, done.0.does, refl)) done.2
  together at from (a_round round here left ∷ parts) last to is done = (ends at here from left round is done.0, together here left parts last to (deeds_states laws program settings.height kept at round.deeds here is done.0.done) done.1)

-- From every position a run in rounds is there, whatever is typed; and it goes on from what is said so far.

-- whether all choose at once, where a group is asked
for_all_or_not : (program : Parts) (height : ℕ) (at : Position) (group : ℕ) → IsAsked program height at.spot.state at.spot.stage group → (IsForAll program height at × (group ≡ own_group at.spot.stage)) ⊎ (IsForAll program height at → ⊥)
for_all_or_not program height at group asked = grind (arith, interactive_or_not (slice_get program.stages at.spot.stage))

-- a limit that is passed is a reason for which an offer cannot be done
pub passes_stops : (program : Parts) (most : ℕ) (at : Position) (rule : Rule) (offer : Offer) (passed : Limit) → at.turns < most → Passes program.signature rule offer.values at.spot.state passed → CannotBeDone program most at rule offer.values (limit_word passed)
passes_stops program most at rule offer passed remain passes = grind arith

-- Which offers are admitted can be told
all_or_not : {A : Type 0} (P : A → Type 0) → ((x : A) → P x ⊎ (P x → ⊥)) → (xs : List A) → AllByRecursion P xs ⊎ (AllByRecursion P xs → ⊥)
all_or_not P decide [] = inl tt
all_or_not P decide (x ∷ xs) = grind (arith, decide x, all_or_not P decide xs)

contained_or_not : BagLaws → (few many : Multiset) → IsContained few many ⊎ (IsContained few many → ⊥)
contained_or_not laws few many = elim (all_or_not (λ (e : AtomTree × ℕ). e.1 ≤ count_of many e.0) (λ e. grind arith) (finite.entries few)) [
  | inl all ↦ inl (λ a. elim (cases_lt 0 (count_of few a)) [
    | inr none ↦ omega (arith, none)
    | inl some ↦ (let there = laws.entry_there few a some in holds_at (λ (e : AtomTree × ℕ). e.1 ≤ count_of many e.0) (finite.entries few) there.0 (a, count_of few a) all there.1)
  ])
  | inr fails ↦ inr (λ contained. fails (all_from_places _ (finite.entries few) (λ k e there. rw (laws.entry_counted few k e.0 e.1 there) at (contained e.0))))
]

flags_there : BagLaws → (program : Parts) (state used : Multiset) (offers : List Offer) → (flags : List Bool) × AreAdmitted program state used offers flags
flags_there laws program state used [] = ([], tt)
flags_there laws program state used (offer ∷ offers) = elim (contained_or_not laws (used_with program used offer) state) [
  | inl within ↦ (let later = flags_there laws program state (used_with program used offer) offers in (true ∷ later.0, (within, later.1)))
  | inr outside ↦ (let later = flags_there laws program state used offers in (false ∷ later.0, (outside, later.1)))
]

-- of offers that apply one at least is admitted, as the first one is
pub some_admitted : BagLaws → (program : Parts) (height : ℕ) (state : Multiset) (group : ℕ) (picks : List Offer) (flags : List Bool) → AllByRecursion (IsOffer program height state group) picks → AreAdmitted program state finite.empty picks flags → 0 < length picks → 0 < length (admitted picks flags)
some_admitted laws program height state group (offer ∷ picks) (false ∷ flags) are flagged many = grind (arith, are.0.applies)
some_admitted laws program height state group picks flags are flagged many = grind arith

module _ (program : Parts) (settings : Settings) (players : ℕ) where
  -- these events begin a run in rounds from here
  abbrev pub Begins : Position → Supply → List Event → Type 0
  Begins at from events = BeginsSome (IsRunInRounds program settings players at) from events

  pub parts_more : (at : Position) (from : Supply) (parts : List TurnOrRound) (here : Position) (between : Supply) (more : List TurnOrRound) (last : Position) (to : Supply) → AreTurnsAndRounds program settings players at from parts here between → AreTurnsAndRounds program settings players here between more last to
      → AreTurnsAndRounds program settings players at from (parts ++ more) last to
  parts_more at from [] here between more last to done later = rw (← done.0, ← done.1) later
  parts_more at from (a_turn turn ∷ parts) here between more last to done later = (done.0, done.1, parts_more turn.deed.after turn.left parts here between more last to done.2 later)
  parts_more at from (a_round round after left ∷ parts) here between more last to done later = (done.0, parts_more after left parts here between more last to done.1 later)

  -- a run goes on after turns and rounds that were done
  pub runs_after : (at : Position) (from : Supply) (parts : List TurnOrRound) (here : Position) (between : Supply) (events : List Event) → AreTurnsAndRounds program settings players at from parts here between → Begins here between events
      → Begins at from (flat_map (part_events program) parts ++ events)
  runs_after at from parts here between events done begun =
      let (later, end, word, last, run, is) = begun.whole in
      let said = flat_map (part_events program) parts in
      let more = parts_more at from parts here between later run.here run.between done run.done in
      let stop = last_part_events program end ++ outs (end_lines program.signature word last.spot.state) in
      record {
        more = begun.more;
        left = begun.left;
        whole = (parts ++ later, end, word, last, record { here = run.here; between = run.between; done = more; ends = run.ends }, rw (append_assoc said events begun.more, is, flat_map-append (part_events program) parts later, append_assoc said (flat_map (part_events program) later) stop) refl);
      }

  -- a run ends here
  ends_here : (at : Position) (from : Supply) (word : EndWord) (end : EndOfRounds) (last : Position) (to : Supply) → EndsInRounds program settings players at from word end last to → Begins at from (last_part_events program end)
  ends_here at from word end last to ends = record { more = outs (end_lines program.signature word last.spot.state); left = to; whole = ([], end, word, last, record { here = at; between = from; done = (refl, refl); ends = ends }, refl) }

  module _ (laws : PlayersLaws) (kept : IsProgram program) (some : 0 < players) where
    abbrev Goes : Position → Type 0
    Goes at = (here : Position) (from : Supply) → at.turns < here.turns → here.turns ≤ settings.limit → IsState program.signature here.spot.state → Begins here from []

    -- A round of which some deeds are done
    module _ (at : Position) (from to : Supply) (is_state : IsState program.signature at.spot.state) (round : Round) (choice : IsChosenHere program settings players at from round to) (next : Goes at) where
      abbrev so_far : List Deed → Round
      so_far deeds = record round { deeds = deeds }

      chosen_here : (deeds : List Deed) → IsChosenHere program settings players at from (so_far deeds) to
      chosen_here deeds = record { listed = choice.listed; of_each = choice.of_each; heard = choice.heard; chosen = choice.chosen; flagged = choice.flagged }

      are_offers : AllByRecursion (IsOffer program settings.height at.spot.state (own_group at.spot.stage)) round.chosen
      are_offers = chosen_are _ round.offers (λ k offer there. choice.listed.offered.no_other offer (contains_at round.offers k offer there)) round.hearings round.chosen choice.chosen

      -- a round that was done leads on
      goes_on : (deeds : List Deed) (here : Position) → AreDeeds program settings.height at deeds here → admitted round.chosen round.flags ≡ map (λ deed. deed.offer) deeds → at.turns < here.turns
      goes_on deeds here done order =
          let many = AllZip-long _ round.hearings round.chosen choice.chosen in
          let are = some_admitted laws.bags program settings.height at.spot.state (own_group at.spot.stage) round.chosen round.flags are_offers choice.flagged (omega (arith, many, choice.of_each, some)) in
          omega (arith, are, ap length order, length-map deeds (λ (deed : Deed). deed.offer), deeds_counted program settings.height at deeds here done)

      pub act_on : (later : List Offer) (deeds : List Deed) (here : Position) → AreDeeds program settings.height at deeds here → admitted round.chosen round.flags ≡ map (λ deed. deed.offer) deeds ++ later → here.turns ≤ settings.limit → Begins at from (round_events program (so_far deeds))
      act_on [] deeds here done order few =
          let all : admitted round.chosen round.flags ≡ map (λ deed. deed.offer) deeds = order ∙ append-nil (map (λ deed. deed.offer) deeds) in
          let on = next here to (goes_on deeds here done all) few (deeds_states laws.rounds program settings.height kept at deeds here is_state done) in
          let events = round_events program (so_far deeds) in
          rw (append-nil (events ++ []), append-nil events) at (runs_after at from (a_round (so_far deeds) here to ∷ []) here to [] (record { choice = chosen_here deeds; done = done; all = sym all; remain = few }, (refl, refl)) on)
      act_on (offer ∷ later) deeds here done order few =
          let state = deeds_states laws.rounds program settings.height kept at deeds here is_state done in
          let is = next_is_offer laws.rounds program settings.height kept at round.chosen round.flags choice.flagged are_offers deeds here done offer later order in
          let stops : (rule : Rule) (word : EndWord) → slice_get program.rules offer.rule ≡ Some rule → CannotBeDone program settings.limit here rule offer.values word → Begins at from (round_events program (so_far deeds)) =
          λ rule word numbered cannot. ends_here at from word (of_offer (so_far deeds)) here to (chosen_here deeds, record { done = done; next = offer; rule = rule; later = later; in_order = order; of_rule = numbered; stops = cannot }) in
          elim (cases_lt here.turns settings.limit) [
            | inr full ↦ stops is.applies.rule Turns is.applies.numbered (let e : here.turns ≡ settings.limit = omega (arith, few, full) in e)
            | inl remain ↦ elim (laws.can_be_done program settings.height here (own_group here.spot.stage) offer kept state (inl (refl, (offer, is))) is) [
              | inr passes ↦ stops passes.0 (limit_word passes.1) passes.2 (passes_stops program settings.limit here passes.0 offer passes.1 remain passes.3)
              | inl (deed, starts, same, lawful) ↦ (
                  let done' = then_deeds program settings players at deeds here (deed ∷ []) deed.after done (starts, lawful, refl) in
                  let on = act_on later (deeds ++ deed ∷ []) deed.after done' (order_more deeds deed offer later (admitted round.chosen round.flags) order same) (omega (arith, lawful.counted, ap (λ (p : Position). p.turns) starts, remain)) in
                  front_of_front (IsRunInRounds program settings players at) from (round_events program (so_far deeds)) (outs (lines_of_deed program deed))
                  (rw (lines_more program deeds deed, ← append_assoc (round_question_events program round) (outs (flat_map (lines_of_deed program) deeds)) (outs (lines_of_deed program deed))) at on)
                  )
            ]
          ]

    -- A round whose offers are listed
    module _ (at : Position) (spent : Spent) (is_state : IsState program.signature at.spot.state) (offers : List Offer) (listed : IsListedHere program settings at offers) (next : Goes at) where
      abbrev Listed : List ℕ → List Event → Type 0
      Listed come events = Begins at (supply_with come spent) (outs (offer_lines program 1 offers) ++ events)

      -- all players chose, or one did not
      chosen_on : (come : List ℕ) (events : List Event) (rest : List ℕ) → ChooseSome players offers spent come events rest → Listed come events
      chosen_on come events rest (inl (picks, new, all)) =
          let flags = flags_there laws.bags program at.spot.state finite.empty picks in
          let round : Round = record { offers = offers; hearings = all.hearings; chosen = picks; flags = flags.0; deeds = [] } in
          let on = act_on at (supply_with come spent) (supply_with rest new) is_state round (record { listed = listed; of_each = all.of_each; heard = all.heard; chosen = all.chosen; flagged = flags.1 }) next (admitted picks flags.0) [] at refl refl (omega (arith, listed.remain)) in
          let blocked = outs (blocked_lines program 1 picks flags.0) in
          let lines = outs (offer_lines program 1 offers) in
          front_of_front (IsRunInRounds program settings players at) (supply_with come spent) (lines ++ events) blocked
          (rw (append-nil (round_question_events program round), ← append_assoc lines (hearing_events 1 all.hearings) blocked, ← all.written) at on)
      chosen_on come events rest (inr (word, new, stops)) =
          rw stops.written (ends_here at (supply_with come spent) word (of_player offers stops.hearings stops.last stops.choice) at (supply_with rest new)
          (record { listed = listed; fewer = stops.fewer; between = stops.between; before = stops.before; heard = stops.heard }, stops.cut_off, refl))

      -- a prefix of what is heard was heard
      pub hearing_on : (come : List ℕ) (events : List Event) → BeginsSome (ChooseSome players offers spent) come events → Listed come events
      hearing_on come events begun =
          front_of_front (IsRunInRounds program settings players at) (supply_with come spent) (outs (offer_lines program 1 offers) ++ events) begun.more
          (rw (append_assoc (outs (offer_lines program 1 offers)) events begun.more) (chosen_on come (events ++ begun.more) begun.left begun.whole))

      -- the offers were written
      pub listed_on : (come : List ℕ) → Begins at (supply_with come spent) (outs (offer_lines program 1 offers))
      listed_on come = rw (append-nil (outs (offer_lines program 1 offers))) at (hearing_on come [] (choose_on offers spent laws.heard laws.within players players 0 (omega arith) [] spent come come [] (none_chose offers spent come [] come (refl, refl))))

    -- A turn, and a question
    pub turn_on : (at : Position) (from : Supply) → IsState program.signature at.spot.state → (turn : Turn) → IsTurn program settings at from turn → (IsForAll program settings.height at → ⊥) → Goes at → Begins at from (part_events program (a_turn turn))
    turn_on at from is_state turn is none next =
        let one = is.does.counted in
        let start = ap (λ (p : Position). p.turns) is.here in
        let state = deeds_states laws.rounds program settings.height kept at (turn.deed ∷ []) turn.deed.after is_state (is.here, is.does, refl) in
        let on = next turn.deed.after turn.left (omega (arith, one, start)) (omega (arith, one, start, is.asks.remain)) state in
        let events = part_events program (a_turn turn) in
        rw (append-nil (events ++ []), append-nil events) at (runs_after at from (a_turn turn ∷ []) turn.deed.after turn.left [] (is, none, (refl, refl)) on)

    pub question_on : (at : Position) (from : Supply) → IsState program.signature at.spot.state → (question : Question) (to : Supply) → IsQuestion program settings at from question to → (IsForAll program settings.height at → ⊥) → Goes at
        → Begins at from (turn_question_events program question.offers question.how)
    question_on at from is_state question to asks none next = elim (laws.lead_on program settings at from question to kept is_state asks) [
      | inr out ↦ ends_here at from out.0 (of_turn (Some question)) at to (out.1, none, refl)
      | inl (turn, is, same) ↦ front_of_front (IsRunInRounds program settings players at) from (turn_question_events program question.offers question.how) (outs (lines_of_deed program turn.deed)) (rw same at (turn_on at from is_state turn is none next))
    ]

    -- Whole runs
    from_question : (at : Position) (from : Supply) → IsState program.signature at.spot.state → (question : Question) (to : Supply) → IsQuestion program settings at from question to → Goes at → Begins at from []
    from_question at from is_state question to asks next = elim (for_all_or_not program settings.height at question.group asks.asked) [
      | inr none ↦ front_of_front (IsRunInRounds program settings players at) from [] (turn_question_events program question.offers question.how) (question_on at from is_state question to asks none next)
      | inl (all, own) ↦ (
          let spent : Spent = record { taken = from.taken; drawn = from.drawn; draw = generator_behind 0 0 } in
          let listed : IsListedHere program settings at question.offers = record { remain = asks.remain; for_all = all; offered = rw own at asks.offered; few = asks.few } in
          front_of_front (IsRunInRounds program settings players at) from [] (outs (offer_lines program 1 question.offers)) (listed_on at spent is_state question.offers listed next from.come)
          )
    ]

    by_turns : (at : Position) (from : Supply) → IsState program.signature at.spot.state → Goes at → (turns : List Turn) (last : Position) (between : Supply) → AreTurns program settings at from turns last between → (word : EndWord) (asked : Option Question) (to : Supply)
        → EndsAt program settings last between word asked to → Begins at from []
    by_turns at from is_state next [] last between done word None to ends = ends_here at from word (of_turn None) at to (rw (← done.0, ← done.1) ends, tt, refl)
    by_turns at from is_state next [] last between done word (Some question) to ends = from_question at from is_state question to (left_by program settings at from (rw (done.0, done.1) at ends)) next
    by_turns at from is_state next (turn ∷ turns) last between done word asked to ends = from_question at from is_state turn.question turn.left done.0.asks next

    one_step : (at : Position) (from : Supply) → IsState program.signature at.spot.state → at.turns ≤ settings.limit → Goes at → Begins at from []
    one_step at from is_state few next = let (turns, ending, to, run) = laws.runs program settings at from kept is_state few in by_turns at from is_state next turns run.last run.between run.done ending.word ending.question to run.ends

    run_within : (most : ℕ) (at : Position) (from : Supply) → IsState program.signature at.spot.state → at.turns ≤ settings.limit → settings.limit ≤ at.turns + most → Begins at from []
    run_within zero at from is_state few fuel = one_step at from is_state few (λ here later more within state. absurd (omega (arith, more, within, fuel)))
    run_within (suc most) at from is_state few fuel = one_step at from is_state few (λ here later more within state. run_within most here later state within (omega (arith, more, fuel)))

    pub goes_from : (at : Position) → Goes at
    goes_from at here from more within state = run_within settings.limit here from state within (omega arith)

    pub dialogue_there : (come : List ℕ) → (parts : List TurnOrRound) × (end : EndOfRounds) × (word : EndWord) × (last : Position) × (events : List Event) × (rest : List ℕ) × DialogueInRounds program settings players come parts end word last events rest
    dialogue_there come =
        let run = run_within settings.limit (start_of program) (whole_supply come) kept.start (omega arith) (omega arith) in
        let (parts, end, word, last, is, said) = run.whole in
        let head = outs (header program settings.height) in
        (parts, end, word, last, head ++ run.more, run.left.come, record { left = run.left; run = is; whole = ap (λ es. head ++ es) said; rest_is = refl })

-- What is written of a run in rounds tells its deeds, with remarks between them: lines that a transcript passes over.

-- Deeds are told, with remarks or none before each, and at the end.
abbrev TellThen : Parts → List Deed → List ℕ → Type 0
TellThen program [] bytes = AreRemarks bytes
TellThen program (deed ∷ deeds) bytes = (remarks : List ℕ) × (later : List ℕ) × AreRemarks remarks × TellThen program deeds later × (bytes ≡ remarks ++ (lines_of_deed program deed ++ later))

module _ (program : Parts) where
  remarks_then : (bytes : List ℕ) (deeds : List Deed) (later : List ℕ) → AreRemarks bytes → TellThen program deeds later → TellThen program deeds (bytes ++ later)
  remarks_then bytes [] later passed then = both_remarks bytes later passed then
  remarks_then bytes (deed ∷ deeds) later passed then = (bytes ++ then.0, then.1, both_remarks bytes then.0 passed then.2, then.3, rw then.4 (sym (append_assoc bytes then.0 (lines_of_deed program deed ++ then.1))))

  deeds_then : (done more : List Deed) (later : List ℕ) → TellThen program more later → TellThen program (done ++ more) (flat_map (lines_of_deed program) done ++ later)
  deeds_then [] more later then = then
  deeds_then (deed ∷ done) more later then = ([], flat_map (lines_of_deed program) done ++ later, no_remarks [] refl, deeds_then done more later then, append_assoc (lines_of_deed program deed) (flat_map (lines_of_deed program) done) later)

  part_then : (asked : List Event) (done more : List Deed) (later : List Event) → AreRemarks (written_bytes asked) → TellThen program more (written_bytes later) → TellThen program (done ++ more) (written_bytes ((asked ++ outs (flat_map (lines_of_deed program) done)) ++ later))
  part_then asked done more later passed then = grind (arith, flat_map, lines_of_deed, append_assoc, outs, written_both, written_outs, remarks_then, deeds_then)

  -- the remarks at the end stand apart
  apart : (deeds : List Deed) (bytes : List ℕ) → TellThen program deeds bytes → (told : List ℕ) × (remarks : List ℕ) × TellDeeds program deeds told × AreRemarks remarks × (bytes ≡ told ++ remarks)
  apart [] bytes then = ([], bytes, refl, then, refl)
  apart (deed ∷ deeds) bytes then =
      let later = apart deeds then.1 then.3 in
      let lines = lines_of_deed program deed in
      (then.0 ++ (lines ++ later.0), later.1, (then.0, later.0, then.2, later.2, refl), later.3, cc (then.4, later.4, append_assoc then.0 (lines ++ later.0) later.1, append_assoc lines later.0 later.1))

  module _ (numbers : (number : ℕ) → IsOneLine (decimal number)) (offers_one : (offer : Offer) → IsOfferOf program offer → IsOneLine (offer_text program offer)) where
    choose_remark : (player : ℕ) → AreRemarks (choose_line player)
    unfolding choose_line
    choose_remark player = line_remark (codes "? choose " ++ decimal player) (both_one (codes "? choose ") (decimal player) (grind arith) (numbers player)) refl

    blocked_remarks : (player : ℕ) (offers : List Offer) (flags : List Bool) → AllByRecursion (IsOfferOf program) offers → AreRemarks (blocked_lines program player offers flags)
    unfolding blocked_line
    blocked_remarks player [] flags all = no_remarks [] refl
    blocked_remarks player (offer ∷ offers) [] all = no_remarks [] refl
    blocked_remarks player (offer ∷ offers) (true ∷ flags) all = blocked_remarks (player + 1) offers flags all.1
    blocked_remarks player (offer ∷ offers) (false ∷ flags) all = both_remarks (blocked_line program player offer) (blocked_lines program (player + 1) offers flags) (numbered_remark program numbers offers_one (codes "? blocked ") player offer (grind arith) all.0 refl) (blocked_remarks (player + 1) offers flags all.1)

    -- a player is asked and heard, and what follows are remarks
    hearing_remarks : (n player : ℕ) (events later : List Event) {come rest : List ℕ} {taken taken' : ℕ} {choice : Choice} → Hears n come taken events choice rest taken' → AreRemarks (written_bytes later) → AreRemarks (written_bytes (outs (choose_line player) ++ (events ++ later)))
    hearing_remarks n player events later hears are = said_both (outs (choose_line player)) (events ++ later) (said_outs (choose_line player) (choose_remark player)) (said_both events later (heard_remarks n hears) are)

    hearings_remarks : (n player : ℕ) (from : Supply) (hearings : List Hearing) (to : Supply) → AreHeard n from hearings to → AreRemarks (written_bytes (hearing_events player hearings))
    hearings_remarks n player from [] to heard = no_remarks [] refl
    hearings_remarks n player from (hearing ∷ hearings) to heard = hearing_remarks n player hearing.events (hearing_events (player + 1) hearings) heard.1.0 (hearings_remarks n (player + 1) heard.0 hearings to heard.2)

    module _ (settings : Settings) (players : ℕ) (at : Position) (from : Supply) where
      listed_remarks : (offers : List Offer) (later : List Event) → IsListedHere program settings at offers → AreRemarks (written_bytes later) → AreRemarks (written_bytes (outs (offer_lines program 1 offers) ++ later))
      listed_remarks offers later is are =
          said_both (outs (offer_lines program 1 offers)) later
          (said_outs _ (offers_remarks program numbers offers_one 1 offers (all_of (IsOfferOf program) offers (λ offer there. applied_has_text program settings.height at.spot.state offer (is.offered.no_other offer there).applies)))) are

      round_remarks : (round : Round) (to : Supply) → IsChosenHere program settings players at from round to → AreRemarks (written_bytes (round_question_events program round))
      round_remarks round to is =
          let blocked = blocked_lines program 1 round.chosen round.flags in
          let picked = chosen_are (IsOfferOf program) round.offers (λ k offer there. applied_has_text program settings.height at.spot.state offer (is.listed.offered.no_other offer (contains_at round.offers k offer there)).applies) round.hearings round.chosen is.chosen in
          listed_remarks round.offers (hearing_events 1 round.hearings ++ outs blocked) is.listed
          (said_both (hearing_events 1 round.hearings) (outs blocked) (hearings_remarks (length round.offers) 1 from round.hearings to is.heard) (said_outs blocked (blocked_remarks 1 round.chosen round.flags picked)))

      end_then : (word : EndWord) (end : EndOfRounds) (last : Position) (to : Supply) → EndsInRounds program settings players at from word end last to → TellThen program (done_before end) (written_bytes (last_part_events program end))
      end_then word (of_turn None) last to ends = no_remarks [] refl
      end_then word (of_turn (Some asked)) last to ends = question_remarks program numbers offers_one (choose_line 1) (choose_remark 1) settings at from asked to (left_by program settings at from ends.0)
      end_then word (of_player offers hearings events choice) last to ends =
          listed_remarks offers _ ends.0.listed (said_both (hearing_events 1 hearings) _ (hearings_remarks (length offers) 1 from hearings ends.0.between ends.0.before)
          (said_both (outs (choose_line (length hearings + 1))) events (said_outs _ (choose_remark (length hearings + 1))) (heard_remarks (length offers) ends.0.heard.0)))
      end_then word (of_offer round) last to ends =
          rw (append-nil (round_question_events program round ++ outs (flat_map (lines_of_deed program) round.deeds)), append-nil round.deeds)
          at (part_then (round_question_events program round) round.deeds [] [] (round_remarks round to ends.0) (no_remarks [] refl))

    parts_then : (settings : Settings) (players : ℕ) (at : Position) (from : Supply) (parts : List TurnOrRound) (last : Position) (to : Supply) (more : List Deed) (later : List Event) → AreTurnsAndRounds program settings players at from parts last to → TellThen program more (written_bytes later)
        → TellThen program (all_done parts ++ more) (written_bytes (flat_map (part_events program) parts ++ later))
    parts_then settings players at from [] last to more later done then = then
    parts_then settings players at from (a_turn turn ∷ parts) last to more later done then =
        let rest = flat_map (part_events program) parts in
        let asked = turn_question_events program turn.question.offers turn.question.how in
        let one = part_then asked (turn.deed ∷ []) (all_done parts ++ more) (rest ++ later) (question_remarks program numbers offers_one (choose_line 1) (choose_remark 1) settings at from turn.question turn.left done.0.asks) (parts_then settings players turn.deed.after turn.left parts last to more later done.2 then) in
        rw (append_assoc (asked ++ outs (lines_of_deed program turn.deed)) rest later) (rw (append-nil (lines_of_deed program turn.deed)) at one)
    parts_then settings players at from (a_round round here left ∷ parts) last to more later done then =
        rw (append_assoc (round_question_events program round ++ outs (flat_map (lines_of_deed program) round.deeds)) (flat_map (part_events program) parts) later, append_assoc round.deeds (all_done parts) more)
        (part_then (round_question_events program round) round.deeds (all_done parts ++ more) (flat_map (part_events program) parts ++ later) (round_remarks settings players at from round left done.0.choice) (parts_then settings players here left parts last to more later done.1 then))

    pub run_told : (settings : Settings) (players : ℕ) (come : List ℕ) (parts : List TurnOrRound) (end : EndOfRounds) (word : EndWord) (last : Position) (events : List Event) (rest : List ℕ) → DialogueInRounds program settings players come parts end word last events rest
        → TellRun program settings.height (all_done parts ++ done_before end) word last.spot.state (written_bytes events)
    run_told settings players come parts end word last events rest said =
        let run = said.run in
        let head = header program settings.height in
        let steps = flat_map (part_events program) parts in
        let stop = last_part_events program end in
        let ended = end_lines program.signature word last.spot.state in
        let then = apart (all_done parts ++ done_before end) (written_bytes (steps ++ stop)) (parts_then settings players (start_of program) (whole_supply come) parts run.here run.between (done_before end) stop run.done
        (end_then settings players run.here run.between word end last said.left run.ends)) in
        let all : written_bytes events ≡ head ++ (written_bytes (steps ++ stop) ++ ended) = rw (said.whole, ← append_assoc steps stop (outs ended), written_both (outs head) ((steps ++ stop) ++ outs ended), written_outs head, written_both (steps ++ stop) (outs ended), written_outs ended) refl in
        record { told = then.0; remarks = then.1; tell = then.2; passed = then.3; whole = all ∙ ap (λ bytes. head ++ bytes) (ap (λ bytes. bytes ++ ended) then.4 ∙ append_assoc then.0 then.1 ended) }
