-- Each way through a turn is a turn of a run, or the end of one, and what a deed says can be written.
use Rattle.std.proofs.Common.{◌≡◌, ℕ, suc, ◌+◌, ◌*◌, ◌<◌, ◌≤◌, List, [], ◌∷◌, ◌++◌, length, append_assoc, get_or, inl, inr, refl, sym, ap, ◌∙◌, subst, arith, Option, None, Some, Bool, true, false}
use Rattle.std.specs.Prelude.{slice_get, All, IsSomeAnd, IsTrue, ◌↔◌, IfSome}
use Rattle.std.specs.List.{AllByRecursion}
use Rattle.cep_log.specs.Holding.{lines_of_deed}
use Rattle.cep_step.specs.Deeds.{Position, Deed}
use Rattle.cep_step.specs.declared.limit.Limit.{Limit}
use Rattle.cep_step.specs.declared.change.Change.{Change}
use Rattle.cep_step.specs.declared.weighing.Weighed.{Weighed}
use Rattle.std.proofs.lemmas.List.{append-nil, get_or_default}
use Rattle.std.proofs.lemmas.Option.{slice_get_within, get_or_from_slice_get}
use Rattle.cep_base.specs.declared.limits.TheConstants.{MOST_OFFERS}
use Rattle.cep_base.specs.declared.console.Event.{Event}
use Rattle.cep_base.specs.Talk.{outs, Did}
use Rattle.cep_base.proofs.Lists.{holds_at, some_same}
use Rattle.cep_term.specs.Multiset.{Multiset, gathered}
use Rattle.cep_term.specs.Tree.{AtomTree}
use Rattle.cep_base.proofs.Did.{did_same, did_map, did_then}
use Rattle.cep_rule.specs.declared.rule.Rule.{Rule}
use Rattle.cep_rule.specs.declared.parts.Parts.{Parts}
use Rattle.cep_rule.specs.declared.offer.Offer.{Offer}
use Rattle.cep_rule.specs.Offers.{Applies, AreOffers, IsOffer}
use Rattle.cep_rule.specs.Stages.{IsAsked}
use Rattle.cep_rule.specs.Steps.{StepsTo, AreProofs}
use Rattle.cep_rule.specs.Typing.{AreValues}
use Rattle.cep_rule.specs.Matching.{offers_of, AreListed, RoseBy}
use Rattle.cep_rule.specs.Shapes.{IsOfferOf, IsProofOf}
use Rattle.cep_rule.specs.Instances.{taken_by, added_by}
use Rattle.cep_offer.specs.Leaving.{LeavesAlone}
use Rattle.cep_step.specs.Changes.{IsChangeOf, changed}
use Rattle.cep_rule.specs.Derivations.{ProofTree, Proves}
use Rattle.cep_rule.specs.Program.{IsProgram}
use Rattle.cep_machine.specs.Configuration.{Configuration, spot_of}
use Rattle.cep_machine.specs.Asking.{asked_offers, IsAskedIn}
use Rattle.cep_machine.specs.Stepping.{IsWeighedAt}
use Rattle.cep_run.specs.declared.choice.Choice.{Choice}
use Rattle.cep_run.specs.declared.choice.Choice.TheVariants.{Place}
use Rattle.cep_run.specs.declared.settings.Settings.{Settings}
use Rattle.cep_run.specs.declared.turn.Turned.{Turned}
use Rattle.cep_run.specs.declared.deciding.Spent.{Spent}
use Rattle.cep_lines.specs.declared.end_word.EndWord.{EndWord}
use Rattle.cep_lines.specs.declared.end_word.EndWord.TheVariants.{Offers}
use Rattle.cep_lines.specs.Lines.{step_lines, expected_listing, deed_lines}
use Rattle.cep_run.specs.declared.turn.Turned.TheVariants.{Done, Over}
use Rattle.cep_run.specs.Deciding.{Supply, How}
use Rattle.cep_run.specs.Costs.{Edits, IsDeedCost}
use Rattle.cep_run.specs.Dialogue.{asked_events}
use Rattle.cep_run.specs.Run.{Question, Turn, IsQuestion, IsChosen, IsTurn, EndsAt, offers_end}
use Rattle.cep_run.specs.Fronts.{BeginsSome}
use Rattle.cep_run.specs.Begun.{PutsFront, SettlesSome, BeginsAct, IsQuestionOrTurn}
use Rattle.cep_run.proofs.TurnSteps.{lawful_step, limit_end}
use Rattle.cep_run.specs.Turn.{position_of, supply_with, IsOfferedHere, Settles, IsPlaced, AreStepLines, Acts, WouldPass, limit_word, IsActed, IsMoved, RoseByAct, DoesTurn, Stops, IsTurned}
use Rattle.cep_run.proofs.Framed.{front_of_front, put_on, Short, Joins, Maps, left_then, settles_left, act_left}
use Rattle.cep_step.specs.declared.weighing.Weighed.TheVariants as weighing

-- Each way through a turn is a turn of a run, or the end of one.

module _ (program : Parts) (height : ℕ) (state : Multiset) (group : ℕ) (offers : List Offer) (are : AreOffers program height state group offers) where
  -- what stands at a place of the offers is one
  is_offer : (k : ℕ) (offer : Offer) → slice_get offers k ≡ Some offer → IsOffer program height state group offer
  is_offer k offer at = are.no_other offer (k, slice_get_within offers k offer at, get_or_from_slice_get offers k offer offer at)

  -- and each has a text
  pub offers_have_texts : All (IsOfferOf program) offers
  offers_have_texts k d h =
      let offer = get_or offers k d in
      let applies = (are.no_other offer (k, h, get_or_default offers k offer d h)).applies in
      subst (λ o. IsSomeAnd o (λ rule. AreValues program.signature.cons rule.kinds offer.values)) (sym applies.numbered) applies.values

-- what is offered here is some
pub some_offers : {program : Parts} {settings : Settings} {at : Position} {group : ℕ} {offers : List Offer} → IsOfferedHere program settings at group offers → 0 < length offers
some_offers here = elim here.asked [ inl own ↦ let there = here.offered.each own.1.0 own.1.1 in omega (arith, there.1) | inr leaving ↦ let there = here.offered.each leaving.2.0 leaving.2.1 in omega (arith, there.1) ]

-- the group that is asked has a list
pub group_listed : (lists : List (List Offer)) (stage group : ℕ) → IsAskedIn lists stage group → 2 * stage + 1 < length lists → group < length lists
group_listed lists stage group arg3 low = grind arith

-- what is asked, by the lists of a matcher, whatever view of it is counted
module _ {M : Type 0} (height_held : M → ℕ) (state_held : M → Multiset) (offers_held : M → List (List Offer)) (program : Parts) (settings : Settings) (config : Configuration M) (group : ℕ)
    (height : height_held config.matcher ≡ settings.height) (exact : AreListed program (height_held config.matcher) (state_held config.matcher) (offers_held config.matcher))
    (same : state_held config.matcher ≡ config.state) (two : 2 * config.stage + 1 < length (offers_held config.matcher)) (listed : IsAskedIn (offers_held config.matcher) config.stage group) (asked : IsAsked program (height_held config.matcher) config.state config.stage group)
    (remain : config.turns < settings.limit) (seen : M) (view : seen ≡ config.matcher) (ok : Bool) (counted : IsTrue ok ↔ (length (offers_of (offers_held seen) group) ≤ MOST_OFFERS)) where
  are_offers : AreOffers program settings.height config.state group (offers_of (offers_held config.matcher) group)
  are_offers = rw (height, same) at (exact.each group (group_listed (offers_held config.matcher) config.stage group listed two))

  -- its offers are not too many
  pub offered_here : ok ≡ true → IsOfferedHere program settings (position_of config) group (offers_of (offers_held config.matcher) group)
  offered_here set = record { remain = remain; asked = rw height at asked; offered = are_offers; few = rw (sym view) (counted.0 set) }

  -- or they are
  pub crowds_here : ok ≡ false → (from to : Supply) → to ≡ from → EndsAt program settings (position_of config) from Offers None to
  crowds_here clear from to unspent = offers_end remain (rw height at asked) are_offers (rw (sym view) (grind arith)) unspent

-- an offer that a matcher lists applies within the height of the run
pub listed_applies : {program : Parts} {height : ℕ} {state : Multiset} {lists : List (List Offer)} {group : ℕ} (place : ℕ) {offer : Offer} (settings : Settings) → AreListed program height state lists → group < length lists → slice_get (offers_of lists group) place ≡ Some offer → height ≡ settings.height
    → Applies program settings.height state offer
listed_applies {program} {height} {state} {lists} {group} place {offer} settings are listed at same = rw same at (is_offer program height state group (offers_of lists group) (are.each group listed) place offer at).applies

-- What is kept costs nothing.
abbrev pub KeptCostNothing : Edits → Type 0
KeptCostNothing may_edit = (program : Parts) (state : Multiset) (height : ℕ) (used : Multiset) (made : List AtomTree) (taken : Multiset) (added : List AtomTree) (ticks : ℕ) → LeavesAlone program.signature state used made taken added
    → may_edit program state height used made ticks → may_edit program state height taken added ticks

-- What the choice of a place comes to, by what the step by the offer there was weighed to
module _ {M : Type 0} {program : Parts} {lists : List (List Offer)} {offers : List Offer} {place : ℕ} (old : Configuration M) {weighed : Weighed}
    (is : IsWeighedAt program lists place (spot_of old) weighed) (asked : offers ≡ asked_offers lists old.stage) where
  placed : IsPlaced program offers place is.offer is.rule
  placed = record { at_place = rw asked is.offered; of_rule = is.numbered }

  -- the step would pass a limit
  pub limit_acts : {C : Type 0} (talk : C → Option (List Event)) (left : C → Option (List ℕ)) (console : C) (height : ℕ) (passed : Limit) (number : ℕ) → weighed ≡ weighing.Passes passed number
      → IsActed talk left console console program height offers place old (Over (record { config = old; word = limit_word passed }))
  limit_acts talk left console height passed number passes = grind (arith, did_map, placed, did_same talk left console console refl refl)

  -- the step was done
  module _ {change : Change} (within : weighed ≡ weighing.Within change) (new : Configuration M) (spot : spot_of new ≡ changed (spot_of old) change) (counted : new.turns ≡ old.turns + 1) where
    does : IsChangeOf program is.rule is.offer.values (spot_of old) change
    does = rw within at is.is

    leads : StepsTo program is.rule is.offer.values (spot_of old) (spot_of new)
    unfolding does
    leads = rw spot does.leads

    pub done_moves : IsMoved program offers place old (Done new)
    done_moves = (is.offer, is.rule, placed, leads)

    -- by this offer, with these lines
    module _ {offer : Offer} (at : slice_get offers place ≡ Some offer) {height : ℕ} {unread : Type 0} {lines : Option (List ℕ)} (has : AreStepLines program height offer unread lines) where
      same_offer : is.offer ≡ offer
      same_offer = some_same is.offer offer (sym is.offered ∙ (ap (λ xs. slice_get xs place) (sym asked) ∙ at))

      same_rule : is.rule ≡ has.rule
      same_rule = some_same is.rule has.rule (sym is.numbered ∙ rw same_offer has.numbered)

      abbrev text : List ℕ
      text = step_lines program offer has.proofs has.rule.next ++ expected_listing program.signature new.turns new.state

      acts : (come : List ℕ) (events : List Event) (rest : List ℕ) → (events ≡ outs text) × (rest ≡ come) → Acts program height offers place (position_of old) (position_of new) come events rest
      unfolding deed_lines
      acts come events rest told = record {
        offer = offer;
        rule = has.rule;
        proofs = has.proofs;
        placed = record { at_place = at; of_rule = has.numbered };
        proved = has.proved;
        steps = rw (same_offer, same_rule) at leads;
        written = told.0;
        untaken = told.1;
      }

      pub done_acts : {C : Type 0} (talk : C → Option (List Event)) (left : C → Option (List ℕ)) (console after : C) → Did talk left console after (λ come events rest. (events ≡ outs text) × (rest ≡ come)) → IsActed talk left console after program height offers place old (Done new)
      done_acts talk left console after told = (did_map talk left console after _ _ acts told, counted)

      -- and the writing of its lines was refused
      pub cut_acts : {C : Type 0} (talk : C → Option (List Event)) (left : C → Option (List ℕ)) (console after : C) → Did talk left console after (PutsFront text) → Did talk left console after (BeginsAct program height offers place (position_of old))
      cut_acts talk left console after begun =
          did_map talk left console after _ _
          (λ come events rest cut.
          let (more, whole) = put_on text come events rest cut in
          inr (record { next = position_of new; counted = counted; more = more; acts = acts come (events ++ more) rest (whole, cut.untaken) })) begun

      -- the counter rose by one for each backward premise, and then by what the edit may tick
      pub done_rose : (may_edit : Edits) → KeptCostNothing may_edit → (at_height high : ℕ) → high ≡ at_height → (ticks between ticks' : ℕ) → ((rule : Rule) → slice_get program.rules offer.rule ≡ Some rule → between ≡ ticks + length rule.backs)
          → RoseBy (may_edit program old.state high change.taken change.added) between ticks' → RoseByAct may_edit program at_height offers place old (Done new) ticks ticks'
      done_rose may_edit kept at_height high same ticks between ticks' proved edited other rule placed_there =
          let one : offer ≡ other = some_same offer other (sym at ∙ placed_there.at_place) in
          let rules : is.rule ≡ rule = some_same is.rule rule (sym is.numbered ∙ rw (same_offer, one) placed_there.of_rule) in
          let allowed = rw same at (kept program old.state high change.taken change.added (gathered (taken_by program.signature is.rule is.offer.values)) (added_by program.signature is.rule is.offer.values) edited.ticks does.leaves edited.allows) in
          let first = proved rule (rw one placed_there.of_rule) in
          let later = edited.risen in
          record { ticks = edited.ticks + length rule.backs; allows = record { edit = edited.ticks; allowed = rw (same_offer, one, rules) at allowed; sum = refl }; risen = omega (arith, first, later) }

-- a question with this choice ends a run with this word
abbrev pub EndsBy : Parts → Settings → Position → Choice → EndWord → Type 0
EndsBy program settings at choice word = (from : Supply) (question : Question) (to : Supply) → IsQuestion program settings at from question to → question.choice ≡ choice → EndsAt program settings at from word (Some question) to

-- a run ends before a question
pub ends_unasked : {C : Type 0} (talk : C → Option (List Event)) (left : C → Option (List ℕ)) (console : C) (asking : List ℕ) (program : Parts) (settings : Settings) (at : Position) (spent : Spent) (word : EndWord)
    → ((from to : Supply) → to ≡ from → EndsAt program settings at from word None to) → Did talk left console console (Stops asking program settings at spent word spent)
ends_unasked talk left console asking program settings at spent word ends = grind (arith, did_map, did_same talk left console console refl refl)

module _ (asking : List ℕ) {program : Parts} {settings : Settings} {at : Position} {group : ℕ} {offers : List Offer} (here : IsOfferedHere program settings at group offers) (spent : Spent) where
  abbrev Settled : Choice → Spent → List ℕ → List Event → List ℕ → Type 0
  Settled choice spent' = Settles asking program settings.seed at.spot.stage group offers spent choice spent'

  -- what is said of a question or a turn, or a prefix of it
  abbrev Begins : List ℕ → List Event → List ℕ → Type 0
  Begins = Short (λ come. supply_with come spent) (IsQuestionOrTurn asking program settings at)

  -- a question that was decided
  abbrev answered : How → Choice → Question
  answered how choice = record { group = group; offers = offers; how = how; choice = choice }

  is_answered : (choice : Choice) (spent' : Spent) (come : List ℕ) (events : List Event) (rest : List ℕ) (settles : Settled choice spent' come events rest) → IsQuestion program settings at (supply_with come spent) (answered settles.how choice) (supply_with rest spent')
  is_answered choice spent' come events rest settles = record { remain = here.remain; asked = here.asked; offered = here.offered; few = here.few; decided = settles.decides }

  -- the choice is not made
  pub unmade_turn : (choice : Choice) (word : EndWord) (spent' : Spent) → EndsBy program settings at choice word → Maps (Settled choice spent') (Stops asking program settings at spent word spent')
  unmade_turn choice word spent' ends come events rest settles = record { asked = Some (answered settles.how choice); ends = ends _ (answered settles.how choice) _ (is_answered choice spent' come events rest settles) refl; written = settles.whole }

  -- the decision was refused
  pub decision_refused : Maps (Short (λ come. come) (SettlesSome asking program settings.seed at.spot.stage group offers spent)) Begins
  decision_refused come events rest (begun, left) =
      let (choice, spent', settles) = begun.whole in
      (record { more = begun.more; left = supply_with begun.left spent'; whole = inl (answered settles.how choice, is_answered choice spent' come (events ++ begun.more) begun.left settles, settles.whole) }, left)

  module _ (spent' : Spent) (place : ℕ) (come : List ℕ) (first : List Event) (between : List ℕ) (second : List Event) (rest : List ℕ) (settles : Settled (Place (place + 1)) spent' come first between) where
    abbrev placed_for : Question
    placed_for = answered settles.how (Place (place + 1))

    asks : rest ≡ between → IsQuestion program settings at (supply_with come spent) placed_for (supply_with rest spent')
    asks same = rw same (is_answered (Place (place + 1)) spent' come first between settles)

    is_chosen : {offer : Offer} {rule : Rule} → IsPlaced program offers place offer rule → IsChosen program placed_for offer rule
    is_chosen placed = record { place = place; chosen = refl; at_place = placed.at_place; of_rule = placed.of_rule }

    -- one turn is done
    done_turn : (counts : Deed → Type 0) (new : Position) → new.turns ≡ at.turns + 1 → (acts : Acts program settings.height offers place at new between second rest) → counts (record { before = at; offer = acts.offer; rule = acts.rule; proofs = acts.proofs; after = new })
        → DoesTurn asking program settings counts offers at spent new spent' come (first ++ second) rest
    done_turn counts new counted acts counts_it =
        let step = lawful_step program settings at _ placed_for _ (asks acts.untaken) acts.offer acts.rule acts.proofs new.spot (is_chosen acts.placed) acts.proved acts.steps in
        record {
          turn = record { question = placed_for; deed = record { before = at; offer = acts.offer; rule = acts.rule; proofs = acts.proofs; after = new }; left = supply_with rest spent' };
          is = record { here = refl; asks = asks acts.untaken; chosen = is_chosen acts.placed; does = record { step = step; counted = counted } };
          after = refl;
          left = refl;
          listed = refl;
          counted = counts_it;
          written = rw (settles.whole, acts.written) refl;
        }

    -- the step passes a limit
    failed_turn : (word : EndWord) → WouldPass program offers place word at between second rest → Stops asking program settings at spent word spent' come (first ++ second) rest
    failed_turn word fails = record {
      asked = Some placed_for;
      ends = rw fails.named (limit_end program settings at _ _ placed_for fails.offer fails.rule (asks fails.untaken) (is_chosen fails.placed) fails.passed fails.passes);
      written = rw (fails.unwritten, append-nil first) settles.whole;
    }

  -- the step was refused
  act_begins : (spent' : Spent) (place : ℕ) (come : List ℕ) (first : List Event) (between : List ℕ) (second : List Event) (rest : List ℕ) → Settled (Place (place + 1)) spent' come first between → BeginsAct program settings.height offers place at between second rest
      → BeginsSome (IsQuestionOrTurn asking program settings at) (supply_with come spent) (first ++ second)
  act_begins spent' place come first between second rest settles (inl nothing) =
      record { more = []; left = supply_with between spent'; whole = rw (nothing.0, append-nil first, append-nil first) (inl (answered settles.how (Place (place + 1)), is_answered (Place (place + 1)) spent' come first between settles, settles.whole)) }
  act_begins spent' place come first between second rest settles (inr on) =
      let does = done_turn spent' place come first between (second ++ on.more) rest settles (λ deed. Unit {0}) on.next on.counted on.acts tt in
      record { more = on.more; left = does.turn.left; whole = inr (does.turn, does.is, append_assoc first second on.more ∙ does.written) }

  pub act_refused : (spent' : Spent) (place : ℕ) → Joins (Settled (Place (place + 1)) spent') (BeginsAct program settings.height offers place at) Begins
  act_refused spent' place come first between second rest settles begun = (
    act_begins spent' place come first between second rest settles begun,
    left_then come first between second rest (settles_left asking program settings.seed at.spot.stage group offers spent (Place (place + 1)) spent' come first between settles) (act_left program settings.height offers place at between second rest begun),
  )

-- what a question or a turn says begins a whole, if each does
pub whole_begun : {B : Type 0} (P : Supply → List Event → B → Type 0) (asking : List ℕ) (program : Parts) (settings : Settings) (at : Position) (spent : Spent)
    → ((from : Supply) (question : Question) (to : Supply) → IsQuestion program settings at from question to → BeginsSome P from (asked_events asking program question.offers question.how))
    → ((from : Supply) (turn : Turn) → IsTurn program settings at from turn → BeginsSome P from (asked_events asking program turn.question.offers turn.question.how ++ outs (lines_of_deed program turn.deed)))
    → Maps (Short (λ come. supply_with come spent) (IsQuestionOrTurn asking program settings at)) (Short (λ come. supply_with come spent) P)
whole_begun P asking program settings at spent questions turns come events rest arg11 = grind (arith, front_of_front, asks)

-- what the choice of a place comes to is what the turn comes to
pub turn_acted : {C M : Type 0} (talk : C → Option (List Event)) (left : C → Option (List ℕ)) (old between new : C) (asking : List ℕ) {program : Parts} {settings : Settings} (config : Configuration M) {group : ℕ} {offers : List Offer} (here : IsOfferedHere program settings (position_of config) group offers)
    (spent spent' : Spent) (place : ℕ) → Did talk left old between (Settles asking program settings.seed config.stage group offers spent (Place (place + 1)) spent') → (may_edit : Edits) (steps steps' : ℕ) (turned : Turned M) → IsActed talk left between new program settings.height offers place config turned
    → RoseByAct may_edit program settings.height offers place config turned steps steps' → IsTurned talk left old new asking program settings (λ deed. RoseBy (IsDeedCost may_edit program settings.height deed) steps steps') (steps' ≡ steps) offers config spent spent' turned
turn_acted talk left old between new asking {program} {settings} config here spent spent' place settled may_edit steps steps' (Done next) (acted, counted) rose =
    let counts = λ (deed : Deed). RoseBy (IsDeedCost may_edit program settings.height deed) steps steps' in
    (did_then talk left old between new _ _ _ (λ come first middle second rest settles acts. done_turn asking here spent spent' place come first middle second rest settles counts (position_of next) counted acts (rose acts.offer acts.rule acts.placed)) settled acted, counted, here.few)
turn_acted talk left old between new asking config here spent spent' place settled may_edit steps steps' (Over last) (acted, same) rose =
    (did_then talk left old between new _ _ _ (λ come first middle second rest settles. failed_turn asking here spent spent' place come first middle second rest settles last.word) settled acted, same, rose)

-- What a deed says can be written.

-- an offer that applies has a text
pub applied_has_text : (program : Parts) (height : ℕ) (state : Multiset) (offer : Offer) → Applies program height state offer → IsOfferOf program offer
applied_has_text program height state offer applies = subst (λ o. IsSomeAnd o (λ rule. AreValues program.signature.cons rule.kinds offer.values)) (sym applies.numbered) applies.values

-- the stage that a rule of the program leads to is one of its stages
pub next_in_range : (program : Parts) (n : ℕ) (rule : Rule) → IsProgram program → slice_get program.rules n ≡ Some rule → IfSome rule.next (λ stage. stage < length program.stages)
next_in_range program n rule kept numbered = holds_at (λ (r : Rule). IfSome r.next (λ stage. stage < length program.stages)) program.rules n rule kept.in_range.next_stages numbered

-- what proves premises has the program's shape
pub all_of_shape : ((program : Parts) (proof : ProofTree) (a : AtomTree) → Proves program proof a → IsProofOf program proof) → (program : Parts) (height : ℕ) (proofs : List ProofTree) (atoms : List AtomTree) → AreProofs program height proofs atoms → AllByRecursion (IsProofOf program) proofs
all_of_shape shapes program height (proof ∷ proofs) (a ∷ atoms) are = grind (arith, all_of_shape shapes program height proofs atoms are.2)
all_of_shape shapes program height proofs atoms are = grind arith
