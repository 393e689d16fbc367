-- What is typed and the seed determine the run, and a run is told in one way but for its derivations.
use Rattle.std.proofs.Common.{◌≡◌, ◌⊎◌, ℕ, ◌<◌, ◌^◌, List, [], ◌∷◌, length, map, inl, inr, refl, sym, ap, ◌∙◌, subst, arith, Option, None, Some}
use Rattle.cep_term.specs.Tree.{Tree}
use Rattle.cep_term.specs.Multiset.{Multiset}
use Rattle.cep_step.specs.Deeds.{Position, start_of}
use Rattle.cep_step.specs.declared.limit.Limit.{Limit}
use Rattle.cep_step.specs.Passing.{Passes}
use Rattle.cep_rule.specs.declared.signature.Signature.{Signature}
use Rattle.cep_rule.specs.declared.rule.Rule.{Rule}
use Rattle.cep_rule.specs.declared.parts.Parts.{Parts}
use Rattle.cep_rule.specs.declared.offer.Offer.{Offer}
use Rattle.cep_rule.specs.State.{Fits}
use Rattle.cep_rule.specs.Step.{Step}
use Rattle.cep_rule.specs.Offers.{AreOffers}
use Rattle.cep_rule.specs.Stages.{IsAsked, IsQuiet}
use Rattle.cep_rule.specs.Steps.{Spot, StepsTo, AreProofs}
use Rattle.cep_rule.specs.Derivations.{ProofTree}
use Rattle.cep_run.specs.declared.choice.Choice.{Choice}
use Rattle.cep_run.specs.declared.choice.Choice.TheVariants.{NoMore, NoRoom}
use Rattle.cep_run.specs.declared.settings.Settings.{Settings}
use Rattle.cep_run.proofs.OneReading.{one_hearing}
use Rattle.cep_lines.specs.declared.end_word.EndWord.{EndWord}
use Rattle.cep_lines.specs.declared.end_word.EndWord.TheVariants.{Quiet, Turns, Offers, Input, Typed}
use Rattle.std.specs.List.{AllByRecursion}
use Rattle.cep_run.specs.Deciding.{Supply, How, Decides}
use Rattle.cep_run.specs.Turn.{limit_word, IsOfferedHere}
use Rattle.cep_run.proofs.TurnSteps.{steps_here, counted_here}
use Rattle.cep_base.specs.declared.limits.TheConstants.{MOST_OFFERS}
use Rattle.cep_base.specs.declared.console.Event.{Event}
use Rattle.cep_base.proofs.Lists.{holds_at}
use Rattle.cep_run.specs.Dialogue.{Dialogue}
use Rattle.cep_run.specs.Run.{Question, Turn, Ending, IsQuestion, IsChosen, IsTurn, AreTurns, EndsAt, Run, unproved, whole_supply}
use Rattle.cep_step.specs.declared.limit.Limit.TheVariants as limit

-- What is typed, and the seed, determine the run.

-- a stage asks one group
one_group : (program : Parts) (height : ℕ) (state : Multiset) (stage group other : ℕ) → IsAsked program height state stage group → IsAsked program height state stage other → group ≡ other
one_group program height state stage group other asked asked' = grind arith

-- a stage is quiet, or asks a group
quiet_or_asked : (program : Parts) (height : ℕ) (state : Multiset) (stage group : ℕ) → IsQuiet program height state stage → IsAsked program height state stage group → ⊥
quiet_or_asked program height state stage group none asked = grind arith

pub record SameDecision (how how' : How) (choice choice' : Choice) (to to' : Supply) : Type 0 where
  pub hows : how ≡ how'
  pub choices : choice ≡ choice'
  pub supplies : to ≡ to'

one_decision : (program : Parts) (seed stage group n : ℕ) → n < 2 ^ 32 → (from : Supply) (how how' : How) (choice choice' : Choice) (to to' : Supply) → Decides program seed stage group n from how choice to → Decides program seed stage group n from how' choice' to' → SameDecision how how' choice choice' to to'
one_decision program seed stage group n small from how how' choice choice' to to' is is' = grind (arith, one_hearing)

-- two choices are of the same offer, of the same rule
record SameChoice (offer offer' : Offer) (rule rule' : Rule) : Type 0 where
  offers : offer ≡ offer'
  rules : rule ≡ rule'

-- the offer at a place is one, of one rule
one_choice : (program : Parts) (question : Question) (offer offer' : Offer) (rule rule' : Rule) → IsChosen program question offer rule → IsChosen program question offer' rule' → SameChoice offer offer' rule rule'
one_choice program question offer offer' rule rule' is is' = grind (arith, is.chosen, is'.chosen, is.at_place, is'.at_place, is.of_rule, is'.of_rule)

pub record SameQuestion (question question' : Question) (to to' : Supply) : Type 0 where
  pub questions : question ≡ question'
  pub supplies : to ≡ to'

module _ (one_list : (program : Parts) (height : ℕ) (state : Multiset) (group : ℕ) (one other : List Offer) → AreOffers program height state group one → AreOffers program height state group other → one ≡ other)
    (one_step : (signature : Signature) (rule : Rule) (values : List Tree) (old one other : Multiset) → Step signature rule values old one → Step signature rule values old other → one ≡ other)
    (program : Parts) (settings : Settings) where
  -- the offers of what is asked are one list
  one_asked : (at : Position) (group group' : ℕ) (offers offers' : List Offer)
      → IsAsked program settings.height at.spot.state at.spot.stage group → IsAsked program settings.height at.spot.state at.spot.stage group'
      → AreOffers program settings.height at.spot.state group offers → AreOffers program settings.height at.spot.state group' offers' → offers ≡ offers'
  one_asked at group group' offers offers' asked asked' are are' = one_list program settings.height at.spot.state group offers offers' are (rw (one_group program settings.height at.spot.state at.spot.stage group' group asked' asked) at are')

  -- one question is asked at a position, and it is answered in one way
  pub one_question : (at : Position) (from : Supply) (question question' : Question) (to to' : Supply) → IsQuestion program settings at from question to → IsQuestion program settings at from question' to' → SameQuestion question question' to to'
  one_question at from question question' to to' is is' =
      let groups = one_group program settings.height at.spot.state at.spot.stage question.group question'.group is.asked is'.asked in
      let offers = one_asked at question.group question'.group question.offers question'.offers is.asked is'.asked is.offered is'.offered in
      let same = one_decision program settings.seed at.spot.stage question.group (length question.offers) (omega (arith, is.few)) from question.how question'.how question.choice question'.choice to to' is.decided (rw (groups, offers) is'.decided) in
      record { questions = grind (arith, groups, offers, same.hows, same.choices); supplies = same.supplies }

  -- a step leads to one spot
  pub one_spot : (rule : Rule) (values : List Tree) (old one other : Spot) → StepsTo program rule values old one → StepsTo program rule values old other → one ≡ other
  one_spot rule values old one other is is' = grind (arith, one_step program.signature rule values old.state one.state other.state is.step is'.step, is.stage, is'.stage)

  -- one turn is done at a position, but for its derivations
  pub record SameTurn (turn turn' : Turn) : Type 0 where
    pub turns : unproved turn ≡ unproved turn'
    pub afters : turn.deed.after ≡ turn'.deed.after
    pub lefts : turn.left ≡ turn'.left

  pub one_turn : (at : Position) (from : Supply) (turn turn' : Turn) → IsTurn program settings at from turn → IsTurn program settings at from turn' → SameTurn turn turn'
  one_turn at from turn turn' is is' = grind (arith, one_question, one_choice, one_spot, steps_here, counted_here)

  -- a step that is done passes no limit
  pub done_or_passes : {X : Type 0} (rule : Rule) (values : List Tree) (old new : Spot) (passed : Limit) → StepsTo program rule values old new → Passes program.signature rule values old.state passed → X
  done_or_passes rule values old new limit.Atom is passes = absurd (passes is.fit)
  done_or_passes rule values old new limit.State is passes = absurd (passes.1.2 (subst Fits (one_step program.signature rule values old.state new.state passes.1.0 is.step passes.1.1) is.fits))

  -- a step passes one limit first
  one_limit : (rule : Rule) (values : List Tree) (state : Multiset) (one other : Limit) → Passes program.signature rule values state one → Passes program.signature rule values state other → one ≡ other
  one_limit rule values state one other passes passes' = grind arith

  -- how a run ends without a question: quiet, with all turns done, or with too many offers
  abbrev Unasked : Position → EndWord → Type 0
  Unasked at word =
      ((word ≡ Quiet) × IsQuiet program settings.height at.spot.state at.spot.stage)
      ⊎ (((word ≡ Turns) × ((group : ℕ) × IsAsked program settings.height at.spot.state at.spot.stage group) × (at.turns ≡ settings.limit))
      ⊎ ((word ≡ Offers) × (at.turns < settings.limit) × ((group : ℕ) × (offers : List Offer) × IsAsked program settings.height at.spot.state at.spot.stage group × AreOffers program settings.height at.spot.state group offers × (MOST_OFFERS < length offers))))

  -- and how after one: without a choice, or with one whose step passes a limit
  abbrev Nowhere : Position → Question → EndWord → Type 0
  Nowhere at question word =
      ((word ≡ Input) × (question.choice ≡ NoMore)) ⊎ (((word ≡ Typed) × (question.choice ≡ NoRoom))
      ⊎ ((passed : Limit) × (offer : Offer) × (rule : Rule) × (word ≡ limit_word passed) × IsChosen program question offer rule × Passes program.signature rule offer.values at.spot.state passed))

  abbrev Ways : Position → Supply → EndWord → Option Question → Supply → Type 0
  Ways at from word asked to = ((asked ≡ None) × (to ≡ from) × Unasked at word) ⊎ ((question : Question) × (asked ≡ Some question) × IsQuestion program settings at from question to × Nowhere at question word)

  way : (at : Position) (from : Supply) {word : EndWord} {asked : Option Question} {to : Supply} → EndsAt program settings at from word asked to → Ways at from word asked to
  way at from arg2 = grind arith

  -- where offers are asked about, no run ends unasked
  offered_or_ends : {X : Type 0} {at : Position} {group : ℕ} {offers : List Offer} (word : EndWord) → IsOfferedHere program settings at group offers → Unasked at word → X
  offered_or_ends {at = at} {group = group} word is (inl quiet) = absurd (quiet_or_asked program settings.height at.spot.state at.spot.stage group quiet.1 is.asked)
  offered_or_ends word is (inr (inl over)) = absurd (omega (arith, is.remain, over.2))
  offered_or_ends {at = at} {group = group} {offers = offers} word is (inr (inr many)) = absurd (omega (arith, many.2.4, is.few, ap length (one_asked at group many.2.0 offers many.2.1 is.asked many.2.2 is.offered many.2.3)))

  asked_or_ends : {X : Type 0} (at : Position) (from : Supply) (question : Question) (to : Supply) (word : EndWord) → IsQuestion program settings at from question to → Unasked at word → X
  asked_or_ends at from question to word is ends = offered_or_ends word (record { remain = is.remain; asked = is.asked; offered = is.offered; few = is.few }) ends

  -- nor does it end with no question at all
  pub offered_or_end : {X : Type 0} {at : Position} {group : ℕ} {offers : List Offer} (from : Supply) {word : EndWord} {to : Supply} → IsOfferedHere program settings at group offers → EndsAt program settings at from word None to → X
  offered_or_end {at = at} from {word} is ends = elim (way at from ends) [
    | inl (none, left, unasked) ↦ offered_or_ends word is unasked
    | inr (question, there, asks, nowhere) ↦ absurd (cc there)
  ]

  one_unasked : (at : Position) (word word' : EndWord) → Unasked at word → Unasked at word' → word ≡ word'
  one_unasked at word word' is is' = grind (arith, quiet_or_asked program settings.height at.spot.state at.spot.stage)

  one_nowhere : (at : Position) (question : Question) (word word' : EndWord) → Nowhere at question word → Nowhere at question word' → word ≡ word'
  one_nowhere at question word word' is is' = grind (arith, one_choice, one_limit)

  -- where a turn is done, no run ends
  pub turn_or_end : {X : Type 0} (at : Position) (from : Supply) (turn : Turn) (word : EndWord) (asked : Option Question) (to : Supply) → IsTurn program settings at from turn → EndsAt program settings at from word asked to → X
  turn_or_end {X} at from turn word asked to is ends = by (way at from ends) where
    leads : Nowhere at turn.question word → X
    leads (inl none) = absurd (cc (is.chosen.chosen, none.1))
    leads (inr (inl full)) = absurd (cc (is.chosen.chosen, full.1))
    leads (inr (inr (passed, offer, rule, named, chosen, passes))) =
        let same = one_choice program turn.question offer turn.deed.offer rule turn.deed.rule chosen is.chosen in
        done_or_passes turn.deed.rule turn.deed.offer.values at.spot turn.deed.after.spot passed (steps_here program settings at from turn is) (rw (same.rules, same.offers) at passes)

    by : Ways at from word asked to → X
    by (inl (none, left, unasked)) = asked_or_ends at from turn.question turn.left word is.asks unasked
    by (inr (question, there, asks, nowhere)) = leads (subst (λ (q : Question). Nowhere at q word) (sym (one_question at from turn.question question turn.left to is.asks asks).questions) nowhere)

  -- a run ends at a position in one way
  pub record SameEnd (word word' : EndWord) (asked asked' : Option Question) (to to' : Supply) : Type 0 where
    pub words : word ≡ word'
    pub questions : asked ≡ asked'
    pub supplies : to ≡ to'

  one_way : (at : Position) (from : Supply) (word word' : EndWord) (asked asked' : Option Question) (to to' : Supply) → Ways at from word asked to → Ways at from word' asked' to' → SameEnd word word' asked asked' to to'
  one_way at from word word' asked asked' to to' (inl (none, left, unasked)) (inl (none', left', unasked')) = record { words = one_unasked at word word' unasked unasked'; questions = none ∙ sym none'; supplies = left ∙ sym left' }
  one_way at from word word' asked asked' to to' (inl (none, left, unasked)) (inr (question, there, asks, nowhere)) = asked_or_ends at from question to' word asks unasked
  one_way at from word word' asked asked' to to' (inr (question, there, asks, nowhere)) (inl (none, left, unasked)) = asked_or_ends at from question to word' asks unasked
  one_way at from word word' asked asked' to to' (inr (question, there, asks, nowhere)) (inr (question', there', asks', nowhere')) = grind (arith, one_question, one_nowhere)

  pub one_end : (at : Position) (from : Supply) (word word' : EndWord) (asked asked' : Option Question) (to to' : Supply) → EndsAt program settings at from word asked to → EndsAt program settings at from word' asked' to' → SameEnd word word' asked asked' to to'
  one_end at from word word' asked asked' to to' ends ends' = one_way at from word word' asked asked' to to' (way at from ends) (way at from ends')

  -- what is there after two runs is the same
  pub record SameRun (turns turns' : List Turn) (last last' : Position) (word word' : EndWord) (asked asked' : Option Question) (to to' : Supply) : Type 0 where
    pub turns_are : map unproved turns ≡ map unproved turns'
    pub lasts : last ≡ last'
    pub end : SameEnd word word' asked asked' to to'

  one_run_of : (at : Position) (from : Supply) (turns turns' : List Turn) (last last' : Position) (between between' : Supply) (word word' : EndWord) (asked asked' : Option Question) (to to' : Supply)
      → AreTurns program settings at from turns last between → AreTurns program settings at from turns' last' between'
      → EndsAt program settings last between word asked to → EndsAt program settings last' between' word' asked' to'
      → SameRun turns turns' last last' word word' asked asked' to to'
  one_run_of at from [] [] last last' between between' word word' asked asked' to to' done done' ends ends' = grind (arith, one_end, done.0, done'.0, done.1, done'.1)
  one_run_of at from [] (turn' ∷ turns') last last' between between' word word' asked asked' to to' done done' ends ends' = turn_or_end at from turn' word asked to done'.0 (rw (← done.0, ← done.1) ends)
  one_run_of at from (turn ∷ turns) [] last last' between between' word word' asked asked' to to' done done' ends ends' = turn_or_end at from turn word' asked' to' done.0 (rw (← done'.0, ← done'.1) ends')
  one_run_of at from (turn ∷ turns) (turn' ∷ turns') last last' between between' word word' asked asked' to to' done done' ends ends' =
      let same = one_turn at from turn turn' done.0 done'.0 in
      let later = one_run_of turn.deed.after turn.left turns turns' last last' between between' word word' asked asked' to to' done.1 (rw (same.afters, same.lefts) done'.1) ends ends' in
      record { turns_are = grind (arith, same.turns, later.turns_are); lasts = later.lasts; end = later.end }

  -- one run: the same turns but for derivations, the same ending, and the same supply left
  pub one_run : (at : Position) (from : Supply) (turns turns' : List Turn) (ending ending' : Ending) (to to' : Supply) → Run program settings at from turns ending to → Run program settings at from turns' ending' to' → (map unproved turns ≡ map unproved turns') × (ending ≡ ending') × (to ≡ to')
  one_run at from turns turns' ending ending' to to' run run' = grind (arith, one_run_of)

-- A run is told in one way but for its derivations, and in one way where no rule has a backward premise.

-- nothing is proved of no atoms
no_proofs : (program : Parts) (height : ℕ) (proofs : List ProofTree) → AreProofs program height proofs [] → proofs ≡ []
no_proofs program height [] are = refl
no_proofs program height (proof ∷ proofs) are = absurd are

-- that one run is there, told for any two
abbrev pub IsOneRun : Parts → Settings → Type 0
IsOneRun program settings =
    (at : Position) (from : Supply) (turns turns' : List Turn) (ending ending' : Ending) (to to' : Supply) → Run program settings at from turns ending to → Run program settings at from turns' ending' to' → (map unproved turns ≡ map unproved turns') × (ending ≡ ending') × (to ≡ to')

module _ (program : Parts) (settings : Settings) (one : IsOneRun program settings) where
  pub one_but_proofs : (come : List ℕ) (turns turns' : List Turn) (ending ending' : Ending) (events events' : List Event) (rest rest' : List ℕ)
      → Dialogue program settings come turns ending events rest → Dialogue program settings come turns' ending' events' rest' → (map unproved turns ≡ map unproved turns') × (ending ≡ ending') × (rest ≡ rest')
  one_but_proofs come turns turns' ending ending' events events' rest rest' said said' =
      let same = one (start_of program) (whole_supply come) turns turns' ending ending' said.left said'.left said.run said'.run in
      (same.0, same.1, said.rest_is ∙ ap (λ supply. supply.come) same.2 ∙ sym said'.rest_is)

  module _ (plain : AllByRecursion (λ rule. rule.backs ≡ []) program.rules) where
    -- a turn has no derivations
    bare_turn : (at : Position) (from : Supply) (turn : Turn) → IsTurn program settings at from turn → unproved turn ≡ turn
    bare_turn at from turn is = grind (arith, holds_at, no_proofs)

    bare_turns : (at : Position) (from : Supply) (turns : List Turn) (last : Position) (to : Supply) → AreTurns program settings at from turns last to → map unproved turns ≡ turns
    bare_turns at from [] last to done = refl
    bare_turns at from (turn ∷ turns) last to done = λ i. bare_turn at from turn done.0 i ∷ bare_turns turn.deed.after turn.left turns last to done.1 i

  pub one_whole : (come : List ℕ) (turns turns' : List Turn) (ending ending' : Ending) (events events' : List Event) (rest rest' : List ℕ) → AllByRecursion (λ rule. rule.backs ≡ []) program.rules
      → Dialogue program settings come turns ending events rest → Dialogue program settings come turns' ending' events' rest' → events ≡ events'
  one_whole come turns turns' ending ending' events events' rest rest' plain said said' =
      let same = one (start_of program) (whole_supply come) turns turns' ending ending' said.left said'.left said.run said'.run in
      let run = said.run in
      let run' = said'.run in
      grind (arith, said.whole, said'.whole, same.0, same.1, bare_turns plain (start_of program) (whole_supply come) turns run.last run.between run.done, bare_turns plain (start_of program) (whole_supply come) turns' run'.last run'.between run'.done)
