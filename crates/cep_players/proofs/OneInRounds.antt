-- What is typed determines a dialogue in rounds but for the derivations of what is done.
use Rattle.std.proofs.Common.{◌≡◌, ℕ, ◌<◌, ◌≤◌, ◌^◌, Bool, List, [], ◌∷◌, ◌++◌, map, length, Option, None, Some, append-nil, refl, sym, ap, ◌∙◌, arith}
use Rattle.cep_players.proofs.BlockedLines.{slice_get, deeds_counted, Event, Tree, Multiset, Rule, Parts, Offer, AreOffers, own_group, Step, Position, Deed, IsDeed, AreDeeds, start_of, Limit, Passes, EndWord, Quiet, Choice, Place, Settings, Hears, Supply, whole_supply, Question, AreAdmitted, admitted, Hearing, IsHeard, AreHeard, HaveChosen, Round, IsListedHere, IsChosenHere, IsRoundDone, TurnOrRound, a_turn, a_round, AreTurnsAndRounds, EndOfRounds, of_turn, of_player, of_offer, unproved_round, unproved_part, unproved_end, IsCutOff, CannotBeDone, StopsInRound, StopsAtPlayer, EndsInRounds, RunsInRounds, DialogueInRounds}
use Rattle.cep_base.specs.declared.limits.TheConstants.{MOST_OFFERS}
use Rattle.cep_rule.specs.declared.signature.Signature.{Signature}
use Rattle.std.specs.FinMap as finite
use Rattle.cep_step.specs.declared.limit.Limit.TheVariants as limit
use Rattle.cep_run.proofs.OneDialogue as one

one_word : (program : Parts) (most : ℕ) (at : Position) (next : Offer) (rule rule' : Rule) (word word' : EndWord) → slice_get program.rules next.rule ≡ Some rule → slice_get program.rules next.rule ≡ Some rule'
    → CannotBeDone program most at rule next.values word → CannotBeDone program most at rule' next.values word' → word ≡ word'
one_word program most at next rule rule' word word' of_rule of_rule' stops stops' = grind arith

-- two ends of runs are the same but for derivations
record SameEnd (end end' : EndOfRounds) (word word' : EndWord) (last last' : Position) (to to' : Supply) : Type 0 where
  ends : unproved_end end ≡ unproved_end end'
  words : word ≡ word'
  lasts : last ≡ last'
  lefts : to ≡ to'

module _ (one_list : (program : Parts) (height : ℕ) (state : Multiset) (group : ℕ) (one other : List Offer) → AreOffers program height state group one → AreOffers program height state group other → one ≡ other)
    (one_step : (signature : Signature) (rule : Rule) (values : List Tree) (old one other : Multiset) → Step signature rule values old one → Step signature rule values old other → one ≡ other)
    (one_choice : (n taken many many' : ℕ) (come rest rest' : List ℕ) (events events' : List Event) (choice choice' : Choice) → n < 2 ^ 32 → Hears n come taken events choice rest many → Hears n come taken events' choice' rest' many' → (events ≡ events') × (choice ≡ choice') × (rest ≡ rest') × (many ≡ many'))
    (one_flags : (program : Parts) (state used : Multiset) (offers : List Offer) (one other : List Bool) → AreAdmitted program state used offers one → AreAdmitted program state used offers other → one ≡ other)
    (program : Parts) (settings : Settings) (players : ℕ) where
  module _ (n : ℕ) (few : n ≤ MOST_OFFERS) where
    one_heard : (from : Supply) (events events' : List Event) (choice choice' : Choice) (to to' : Supply) → IsHeard n from events choice to → IsHeard n from events' choice' to' → (events ≡ events') × (choice ≡ choice') × (to ≡ to')
    one_heard from events events' choice choice' to to' is is' = grind (arith, from.taken, to.taken, to'.taken, from.come, to.come, to'.come, is.0, is'.0, is.1, is'.1)

    same_heard : (from : Supply) (hearings hearings' : List Hearing) (to to' : Supply) → AreHeard n from hearings to → AreHeard n from hearings' to' → length hearings ≡ length hearings' → (hearings ≡ hearings') × (to ≡ to')
    same_heard from [] [] to to' are are' same = (refl, are ∙ sym are')
    same_heard from (hearing ∷ hearings) (hearing' ∷ hearings') to to' are are' same =
        let one = one_heard from hearing.events hearing'.events (Place hearing.place) (Place hearing'.place) are.0 are'.0 are.1 are'.1 in
        let later = same_heard are.0 hearings hearings' to to' are.2 (rw one.2 are'.2) (omega (arith, same)) in
        let places : hearing.place ≡ hearing'.place = cc (one.1) in
        (λ i. record { events = one.0 i; place = places i } ∷ later.0 i, later.1)
    same_heard from hearings hearings' to to' are are' same = absurd cc

    -- no more players choose than before one of whom no choice is heard
    no_more_heard : (from : Supply) (hearings hearings' : List Hearing) (between to to' : Supply) (events : List Event) (choice : Choice) (word : EndWord) → AreHeard n from hearings between → IsHeard n between events choice to → IsCutOff choice word → AreHeard n from hearings' to' → length hearings' ≤ length hearings
    no_more_heard from hearings [] between to to' events choice word are is cut are' = omega arith
    no_more_heard from [] (hearing' ∷ hearings') between to to' events choice word are is cut are' = grind (arith, one_heard)
    no_more_heard from (hearing ∷ hearings) (hearing' ∷ hearings') between to to' events choice word are is cut are' =
        let one = one_heard from hearing.events hearing'.events (Place hearing.place) (Place hearing'.place) are.0 are'.0 are.1 are'.1 in
        omega (arith, no_more_heard are.0 hearings hearings' between to to' events choice word are.2 is cut (rw one.2 are'.2))

    one_heard_player : (from : Supply) (hearings hearings' : List Hearing) (between between' to to' : Supply) (events events' : List Event) (choice choice' : Choice) (word word' : EndWord)
        → AreHeard n from hearings between → AreHeard n from hearings' between' → IsHeard n between events choice to → IsHeard n between' events' choice' to' → IsCutOff choice word → IsCutOff choice' word'
        → (hearings ≡ hearings') × (events ≡ events') × (choice ≡ choice') × (word ≡ word') × (to ≡ to')
    one_heard_player from hearings hearings' between between' to to' events events' choice choice' word word' are are' is is' cut cut' =
        let fewer = no_more_heard from hearings hearings' between to between' events choice word are is cut are' in
        let more = no_more_heard from hearings' hearings between' to' between events' choice' word' are' is' cut' are in
        let before = same_heard from hearings hearings' between between' are are' (omega (arith, fewer, more)) in
        let one = one_heard between events events' choice choice' to to' is (rw before.1 is') in
        (before.0, one.0, one.1, grind (arith, cut, cut', one.1), one.2)

  one_chosen : (offers : List Offer) (hearings : List Hearing) (chosen chosen' : List Offer) → HaveChosen offers hearings chosen → HaveChosen offers hearings chosen' → chosen ≡ chosen'
  one_chosen offers (hearing ∷ hearings) (offer ∷ chosen) (offer' ∷ chosen') have have' = cc (have.0, have'.0, one_chosen offers hearings chosen chosen' have.1 have'.1)
  one_chosen offers hearings chosen chosen' have have' = grind arith

  -- What is done
  abbrev bare : Deed → Deed
  bare deed = record deed { proofs = [] }

  done_or_stops : (deed : Deed) (at : Position) (rule : Rule) (word : EndWord) → deed.before ≡ at → IsDeed program settings.height deed → deed.after.turns ≤ settings.limit → slice_get program.rules deed.offer.rule ≡ Some rule → CannotBeDone program settings.limit at rule deed.offer.values word → ⊥
  done_or_stops deed at rule word here is within of_rule stops =
      let passes : (passed : Limit) → Passes program.signature deed.rule deed.offer.values deed.before.spot.state passed → ⊥ = λ passed. one.done_or_passes one_list one_step program settings deed.rule deed.offer.values deed.before.spot deed.after.spot passed is.step.steps in
      let same : rule ≡ deed.rule = cc (of_rule, is.step.numbered) in
      let stops' : CannotBeDone program settings.limit deed.before deed.rule deed.offer.values word = rw (← same, here) stops in
      grind (arith, is.counted, passes limit.Atom, passes limit.State)

  one_deed : (deed deed' : Deed) → deed.before ≡ deed'.before → deed.offer ≡ deed'.offer → IsDeed program settings.height deed → IsDeed program settings.height deed' → bare deed ≡ bare deed'
  one_deed deed deed' befores offers is is' =
      let rules : deed.rule ≡ deed'.rule = cc (offers, is.step.numbered, is'.step.numbered) in
      let spots = one.one_spot one_list one_step program settings deed.rule deed.offer.values deed.before.spot deed.after.spot deed'.after.spot is.step.steps (rw (rules, offers, befores) is'.step.steps) in
      let turns : deed.after.turns ≡ deed'.after.turns = cc (befores, is.counted, is'.counted) in
      λ i. record { before = befores i; offer = offers i; rule = rules i; proofs = []; after = record { spot = spots i; turns = turns i } }

  -- where deeds stop: no offer is later, or the next one cannot be done
  abbrev Stops : Position → List Offer → EndWord → Type 0
  Stops last [] word = Unit {0}
  Stops last (next ∷ later) word = (rule : Rule) × (slice_get program.rules next.rule ≡ Some rule) × CannotBeDone program settings.limit last rule next.values word

  -- of all offers the first ones are done, and the later ones are not
  abbrev Does : Position → List Deed → Position → List Offer → EndWord → Type 0
  Does at deeds last later word = AreDeeds program settings.height at deeds last × (last.turns ≤ settings.limit) × Stops last later word

  -- of the admitted offers of a round
  abbrev IsDoneTo : Position → Round → Position → List Offer → EndWord → Type 0
  IsDoneTo at round last later word = (admitted round.chosen round.flags ≡ map (λ (it : Deed). it.offer) round.deeds ++ later) × Does at round.deeds last later word

  -- where an offer is done, deeds do not stop before it
  goes_on : (at last last' : Position) (deed : Deed) (deeds : List Deed) (later later' : List Offer) (word word' : EndWord) → Does at [] last later word → Does at (deed ∷ deeds) last' later' word' → later ≡ map (λ (it : Deed). it.offer) (deed ∷ deeds) ++ later' → ⊥
  goes_on at last last' deed deeds later later' word word' does does' same = grind (arith, done_or_stops, deeds_counted, does.0, does.2, does'.0.0, does'.0.1, deed.after, does'.0.2, does'.1)

  one_way : (at : Position) (deeds deeds' : List Deed) (last last' : Position) (later later' : List Offer) (word word' : EndWord) → Does at deeds last later word → Does at deeds' last' later' word'
      → map (λ (it : Deed). it.offer) deeds ++ later ≡ map (λ (it : Deed). it.offer) deeds' ++ later' → (map bare deeds ≡ map bare deeds') × (last ≡ last') × (later ≡ later')
  one_way at [] [] last last' later later' word word' does does' same = (refl, does.0 ∙ sym does'.0, same)
  one_way at (deed ∷ deeds) (deed' ∷ deeds') last last' later later' word word' does does' same =
      let first = one_deed deed deed' (does.0.0 ∙ sym does'.0.0) (cc (same)) does.0.1 does'.0.1 in
      let others = one_way deed.after deeds deeds' last last' later later' word word' (does.0.2, does.1, does.2) (rw (ap (λ (it : Deed). it.after) first) does'.0.2, does'.1, does'.2) (cc (same)) in
      (λ i. first i ∷ others.0 i, others.1, others.2)
  one_way at deeds deeds' last last' later later' word word' does does' same = grind (arith, goes_on)

  module _ (at : Position) (from : Supply) where
    one_listed : (offers offers' : List Offer) → IsListedHere program settings at offers → IsListedHere program settings at offers' → offers ≡ offers'
    one_listed offers offers' listed listed' = one_list program settings.height at.spot.state (own_group at.spot.stage) offers offers' listed.offered listed'.offered

    chosen_or_not : (round : Round) (left : Supply) (offers : List Offer) (hearings : List Hearing) (events : List Event) (choice : Choice) (word : EndWord) (to : Supply) → IsChosenHere program settings players at from round left → StopsAtPlayer program settings players at from offers hearings events choice to → IsCutOff choice word → ⊥
    chosen_or_not round left offers hearings events choice word to here stops cut =
        let heard : AreHeard (length offers) from round.hearings left = rw (one_listed offers round.offers stops.listed here.listed) here.heard in
        omega (arith, no_more_heard (length offers) stops.listed.few from hearings round.hearings stops.between to left events choice word stops.before stops.heard cut heard, here.of_each, stops.fewer)

    one_round : (round round' : Round) (last last' : Position) (to to' : Supply) (later later' : List Offer) (word word' : EndWord) → IsChosenHere program settings players at from round to → IsChosenHere program settings players at from round' to'
        → IsDoneTo at round last later word → IsDoneTo at round' last' later' word' → (unproved_round round ≡ unproved_round round') × (last ≡ last') × (to ≡ to') × (later ≡ later')
    one_round round round' last last' to to' later later' word word' here here' done done' =
        let offers = one_listed round.offers round'.offers here.listed here'.listed in
        let heard = same_heard (length round.offers) here.listed.few from round.hearings round'.hearings to to' here.heard (rw offers here'.heard) (here.of_each ∙ sym here'.of_each) in
        let chosen = one_chosen round.offers round.hearings round.chosen round'.chosen here.chosen (rw (offers, heard.0) here'.chosen) in
        let flags = one_flags program at.spot.state finite.empty round.chosen round.flags round'.flags here.flagged (rw chosen here'.flagged) in
        let way = one_way at round.deeds round'.deeds last last' later later' word word' done.1 done'.1 (sym done.0 ∙ (λ i. admitted (chosen i) (flags i)) ∙ done'.0) in
        (λ i. record { offers = offers i; hearings = heard.0 i; chosen = chosen i; flags = flags i; deeds = way.0 i }, way.1, heard.1, way.2)

    done_to : (round : Round) (last : Position) (to : Supply) → IsRoundDone program settings players at from round last to → IsDoneTo at round last [] Quiet
    done_to round last to is = (sym is.all ∙ sym (append-nil _), (is.done, is.remain, tt))

    stops_at : (round : Round) (word : EndWord) (last : Position) (stops : StopsInRound program settings at round word last) → IsDoneTo at round last (stops.next ∷ stops.later) word
    stops_at round word last stops = (stops.in_order, (stops.done, grind (arith, stops.stops), (stops.rule, stops.of_rule, stops.stops)))

    -- What excludes what
    listed_or_asked : (offers : List Offer) (word : EndWord) (asked : Option Question) (last : Position) (to : Supply) → IsListedHere program settings at offers → EndsInRounds program settings players at from word (of_turn asked) last to → ⊥
    listed_or_asked offers word None last to listed ends = one.offered_or_end one_list one_step program settings from (record { remain = listed.remain; asked = listed.for_all.asked; offered = listed.offered; few = listed.few }) ends.0
    listed_or_asked offers word (Some question) last to listed ends = ends.1 listed.for_all

    end_or_part : (word : EndWord) (end : EndOfRounds) (last : Position) (to : Supply) → EndsInRounds program settings players at from word end last to → (part : TurnOrRound) (parts : List TurnOrRound) (last' : Position) (to' : Supply)
        → AreTurnsAndRounds program settings players at from (part ∷ parts) last' to' → ⊥
    end_or_part word (of_turn asked) last to ends (a_turn turn) parts last' to' done = one.turn_or_end one_list one_step program settings at from turn word asked to done.0 ends.0
    end_or_part word (of_turn asked) last to ends (a_round round here left) parts last' to' done = listed_or_asked round.offers word asked last to done.0.choice.listed ends
    end_or_part word (of_player offers hearings events choice) last to ends (a_round round here left) parts last' to' done = chosen_or_not round left offers hearings events choice word to done.0.choice ends.0 ends.1
    end_or_part word (of_offer stopped) last to ends (a_round round here left) parts last' to' done = cc (one_round stopped round last here to left _ [] word Quiet ends.0 done.0.choice (stops_at stopped word last ends.1) (done_to round here left done.0)).3
    end_or_part word end last to ends part parts last' to' done = grind arith

    one_end : (word word' : EndWord) (end end' : EndOfRounds) (last last' : Position) (to to' : Supply) → EndsInRounds program settings players at from word end last to → EndsInRounds program settings players at from word' end' last' to'
        → SameEnd end end' word word' last last' to to'
    one_end word word' (of_turn asked) (of_turn asked') last last' to to' ends ends' = grind (arith, one.one_end one_list one_step program settings at from word word' asked asked' to to' ends.0 ends'.0)
    one_end word word' (of_turn asked) (of_player offers' hearings' events' choice') last last' to to' ends ends' = absurd (listed_or_asked offers' word asked last to ends'.0.listed ends)
    one_end word word' (of_turn asked) (of_offer round') last last' to to' ends ends' = absurd (listed_or_asked round'.offers word asked last to ends'.0.listed ends)
    one_end word word' (of_player offers hearings events choice) (of_turn asked') last last' to to' ends ends' = absurd (listed_or_asked offers word' asked' last' to' ends.0.listed ends')
    one_end word word' (of_offer round) (of_turn asked') last last' to to' ends ends' = absurd (listed_or_asked round.offers word' asked' last' to' ends.0.listed ends')
    one_end word word' (of_player offers hearings events choice) (of_offer round') last last' to to' ends ends' = absurd (chosen_or_not round' to' offers hearings events choice word to ends'.0 ends.0 ends.1)
    one_end word word' (of_offer round) (of_player offers' hearings' events' choice') last last' to to' ends ends' = absurd (chosen_or_not round to offers' hearings' events' choice' word' to' ends.0 ends'.0 ends'.1)
    one_end word word' (of_player offers hearings events choice) (of_player offers' hearings' events' choice') last last' to to' ends ends' =
        let stops = ends.0 in
        let listed = one_listed offers offers' stops.listed ends'.0.listed in
        let stops' = rw (← listed) at ends'.0 in
        let one = one_heard_player (length offers) stops.listed.few from hearings hearings' stops.between stops'.between to to' events events' choice choice' word word' stops.before stops'.before stops.heard stops'.heard ends.1 ends'.1 in
        record { ends = cc (listed, one.0, one.1, one.2); words = one.3; lasts = ends.2 ∙ sym ends'.2; lefts = one.4 }
    one_end word word' (of_offer round) (of_offer round') last last' to to' ends ends' =
        let stops = ends.1 in
        let stops' = ends'.1 in
        let one = one_round round round' last last' to to' _ _ word word' ends.0 ends'.0 (stops_at round word last stops) (stops_at round' word' last' stops') in
        let next : stops.next ≡ stops'.next = cc (one.3) in
        record {
          ends = ap (λ it. of_offer it) one.0;
          words = one_word program settings.limit last stops.next stops.rule stops'.rule word word' stops.of_rule (rw next stops'.of_rule) stops.stops (rw (next, one.1) stops'.stops);
          lasts = one.1;
          lefts = one.2;
        }

  -- Whole runs
  ends_here : (at : Position) (from : Supply) (end : EndOfRounds) (word : EndWord) (last : Position) (to : Supply) → RunsInRounds program settings players at from [] end word last to → EndsInRounds program settings players at from word end last to
  ends_here at from end word last to run = rw (← run.done.0, ← run.done.1) run.ends

  one_run_of : (at : Position) (from : Supply) (parts parts' : List TurnOrRound) (end end' : EndOfRounds) (word word' : EndWord) (last last' : Position) (to to' : Supply) → RunsInRounds program settings players at from parts end word last to → RunsInRounds program settings players at from parts' end' word' last' to'
      → (map unproved_part parts ≡ map unproved_part parts') × SameEnd end end' word word' last last' to to'
  one_run_of at from [] [] end end' word word' last last' to to' run run' = (refl, one_end at from word word' end end' last last' to to' (ends_here at from end word last to run) (ends_here at from end' word' last' to' run'))
  one_run_of at from [] (part' ∷ parts') end end' word word' last last' to to' run run' = absurd (end_or_part at from word end last to (ends_here at from end word last to run) part' parts' run'.here run'.between run'.done)
  one_run_of at from (part ∷ parts) [] end end' word word' last last' to to' run run' = absurd (end_or_part at from word' end' last' to' (ends_here at from end' word' last' to' run') part parts run.here run.between run.done)
  one_run_of at from (a_turn turn ∷ parts) (a_round round' here' left' ∷ parts') end end' word word' last last' to to' run run' = absurd (run.done.1 run'.done.0.choice.listed.for_all)
  one_run_of at from (a_round round here left ∷ parts) (a_turn turn' ∷ parts') end end' word word' last last' to to' run run' = absurd (run'.done.1 run.done.0.choice.listed.for_all)
  one_run_of at from (a_turn turn ∷ parts) (a_turn turn' ∷ parts') end end' word word' last last' to to' run run' =
      let same = one.one_turn one_list one_step program settings at from turn turn' run.done.0 run'.done.0 in
      let later = one_run_of turn.deed.after turn.left parts parts' end end' word word' last last' to to' (record { here = run.here; between = run.between; done = run.done.2; ends = run.ends })
      (record { here = run'.here; between = run'.between; done = rw (same.afters, same.lefts) run'.done.2; ends = run'.ends }) in
      (λ i. a_turn (same.turns i) ∷ later.0 i, later.1)
  one_run_of at from (a_round round here left ∷ parts) (a_round round' here' left' ∷ parts') end end' word word' last last' to to' run run' =
      let is = run.done.0 in
      let is' = run'.done.0 in
      let same = one_round at from round round' here here' left left' [] [] Quiet Quiet is.choice is'.choice (done_to at from round here left is) (done_to at from round' here' left' is') in
      let later = one_run_of here left parts parts' end end' word word' last last' to to' (record { here = run.here; between = run.between; done = run.done.1; ends = run.ends })
      (record { here = run'.here; between = run'.between; done = rw (same.1, same.2) run'.done.1; ends = run'.ends }) in
      (λ i. a_round (same.0 i) (same.1 i) (same.2 i) ∷ later.0 i, later.1)

  pub one_dialogue : (come rest rest' : List ℕ) (parts parts' : List TurnOrRound) (end end' : EndOfRounds) (word word' : EndWord) (last last' : Position) (events events' : List Event) → DialogueInRounds program settings players come parts end word last events rest → DialogueInRounds program settings players come parts' end' word' last' events' rest'
      → (map unproved_part parts ≡ map unproved_part parts') × (unproved_end end ≡ unproved_end end') × (word ≡ word') × (last ≡ last') × (rest ≡ rest')
  one_dialogue come rest rest' parts parts' end end' word word' last last' events events' said said' = grind (arith, one_run_of (start_of program) (whole_supply come) parts parts' end end' word word' last last' said.left said'.left said.run said'.run)
