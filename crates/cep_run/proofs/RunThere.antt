-- A choice, a step, a turn and a run are there, whatever is typed, and what a turn says begins some run.
use Rattle.std.proofs.Common.{◌⊎◌, inl, ℕ, ◌<◌, ◌≤◌, List, [], ◌∷◌, arith, ◌≡◌, inr, ◌+◌, true, Option, refl, sym, ap, ◌∙◌, Some, zero, suc, ◌-◌, length, None, ◌++◌, append_assoc}
use Rattle.std.specs.List.{AllByRecursion, flat_map}
use Rattle.std.specs.Prelude.{slice_get, IsSomeAnd}
use Rattle.std.proofs.lemmas.Bool.{cases_lt, cases_eq}
use Rattle.cep_base.specs.declared.limits.TheConstants.{MOST_NODES, MOST_DEPTH, MOST_COPIES, MOST_STATE_NODES, MOST_OFFERS}
use Rattle.cep_base.proofs.Lists.{holds_at}
use Rattle.cep_term.specs.Tree.{Tree, AtomTree, IsFit, atom_nodes, atom_depth}
use Rattle.cep_term.specs.Multiset.{Multiset, gathered, copies_in, nodes_in_all, IsContained}
use Rattle.cep_rule.specs.declared.signature.Signature.{Signature}
use Rattle.cep_rule.specs.declared.rule.Rule.{Rule}
use Rattle.cep_rule.specs.declared.parts.Parts.{Parts}
use Rattle.cep_rule.specs.declared.offer.Offer.{Offer}
use Rattle.cep_rule.specs.Typing.{AreValues}
use Rattle.cep_rule.specs.Instances.{left_of, taken_by, added_by, full_instances}
use Rattle.cep_rule.specs.State.{IsState, Fits}
use Rattle.cep_rule.specs.Derivations.{ProofTree, IsDerivable}
use Rattle.cep_rule.specs.Offers.{AreOffers, IsOffer}
use Rattle.cep_rule.specs.Step.{Step}
use Rattle.cep_rule.specs.Steps.{MakesFit, AreProofs, Spot, stage_after, IsMachineStep}
use Rattle.cep_rule.specs.Matching.{state_after}
use Rattle.cep_rule.specs.Program.{IsTypedRule, IsDividedRule, IsProgram}
use Rattle.cep_rule.specs.declared.parts.Stage.{Stage}
use Rattle.cep_choice.specs.Draws.{place_drawn}
use Rattle.cep_rule.specs.Stages.{own_group, IsAsked, leaving_group, HasOffer, IsQuiet}
use Rattle.cep_run.specs.declared.choice.Choice.{Choice}
use Rattle.cep_run.specs.declared.choice.Choice.TheVariants.{Place, NoMore, NoRoom}
use Rattle.cep_run.specs.declared.settings.Settings.{Settings}
use Rattle.cep_run.specs.Choice.{IsChoiceWithin}
use Rattle.cep_run.specs.Deciding.{Supply, How, Heard, Lone, Drawn, IsPlayers, Decides}
use Rattle.cep_run.proofs.HearsThere.{hears_there, heard_within}
use Rattle.cep_step.specs.Deeds.{Position, Deed, IsDeed}
use Rattle.cep_step.specs.declared.limit.Limit.{Limit}
use Rattle.cep_step.specs.Passing.{Passes}
use Rattle.cep_log.specs.Holding.{lines_of_deed}
use Rattle.cep_run.proofs.TurnSteps.{in_turn, counted_here, limit_end, steps_here}
use Rattle.cep_run.specs.Turn.{limit_word}
use Rattle.std.proofs.lemmas.Option.{slice_get_within, get_or_from_slice_get}
use Rattle.cep_base.proofs.Elements.{contains_none, contains_first}
use Rattle.cep_base.proofs.Options.{item_at}
use Rattle.cep_base.specs.Talk.{outs}
use Rattle.cep_lines.specs.declared.end_word.EndWord.{EndWord}
use Rattle.cep_lines.specs.declared.end_word.EndWord.TheVariants.{Quiet, Input, Turns, Offers, Typed}
use Rattle.cep_lines.specs.Lines.{end_lines}
use Rattle.cep_run.specs.Run.{Question, Turn, Ending, IsQuestion, IsChosen, IsTurn, EndsAt, quiet_end, turns_end, offers_end, input_end, typed_end, Run}
use Rattle.cep_run.specs.Dialogue.{question_events, last_events, turn_events, events_of}
use Rattle.cep_run.specs.Fronts.{BeginsSome, IsRunOf}
use Rattle.cep_step.specs.declared.limit.Limit.TheVariants as limit

-- Where an offer applies its step is there, and what proves its backward premises is there too.

-- Steps that make fit atoms lead from states to states.
abbrev pub LeadToStates : Type 0
LeadToStates = (signature : Signature) (rule : Rule) (values : List Tree) (old new : Multiset) → IsTypedRule signature rule → IsDividedRule signature rule → AreValues signature.cons rule.kinds values → IsState signature old → MakesFit rule values
    → Step signature rule values old new → IsState signature new

-- Lists of offers are there.
abbrev pub ListsAreThere : Type 0
ListsAreThere = (program : Parts) (height : ℕ) (state : Multiset) (group : ℕ) → IsProgram program → IsState program.signature state → (offers : List Offer) × AreOffers program height state group offers

-- Edits are steps.
abbrev pub EditsAreSteps : Type 0
EditsAreSteps = (signature : Signature) (rule : Rule) (values : List Tree) (state : Multiset) → IsTypedRule signature rule → AreValues signature.cons rule.kinds values → IsState signature state → IsContained (left_of signature rule values) state
    → Step signature rule values state (state_after signature state (gathered (taken_by signature rule values)) (added_by signature rule values))

-- A place that is drawn is one of those among which it is.
abbrev pub PlacesAreWithin : Type 0
PlacesAreWithin = (seed drawn n : ℕ) → 0 < n → (0 < place_drawn seed drawn n) × (place_drawn seed drawn n ≤ n)

-- What runs rest on.
pub record ThereLaws : Type 0 where
  pub lead : LeadToStates
  pub lists : ListsAreThere
  pub edit : EditsAreSteps
  pub places : PlacesAreWithin

pub there_laws : LeadToStates → ListsAreThere → EditsAreSteps → PlacesAreWithin → ThereLaws
there_laws lead lists edit places = record { lead = lead; lists = lists; edit = edit; places = places }

atom_fits_or_not : (a : AtomTree) → IsFit a ⊎ (IsFit a → ⊥)
atom_fits_or_not a = grind (arith, cases_lt MOST_NODES (atom_nodes a), cases_lt MOST_DEPTH (atom_depth a))

pub all_fit_or_not : (atoms : List AtomTree) → AllByRecursion IsFit atoms ⊎ (AllByRecursion IsFit atoms → ⊥)
all_fit_or_not [] = inl tt
all_fit_or_not (a ∷ atoms) = grind (arith, atom_fits_or_not a, all_fit_or_not atoms)

pub state_fits_or_not : (state : Multiset) → Fits state ⊎ (Fits state → ⊥)
state_fits_or_not state = grind (arith, cases_lt MOST_COPIES (copies_in state), cases_lt MOST_STATE_NODES (nodes_in_all state))

-- atoms that are derivable have derivations
pub proofs_there : (program : Parts) (height : ℕ) (atoms : List AtomTree) → AllByRecursion (IsDerivable program height) atoms → (proofs : List ProofTree) × AreProofs program height proofs atoms
proofs_there program height [] all = ([], tt)
proofs_there program height (a ∷ atoms) all = (all.0.proof ∷ (proofs_there program height atoms all.1).0, (all.0.proves, all.0.low, (proofs_there program height atoms all.1).1))

-- Among some offers one choice or another is made, whoever decides.

pub interactive_or_not : (stage : Option Stage) → IsSomeAnd stage (λ it. it.interactive ≡ true) ⊎ (IsSomeAnd stage (λ it. it.interactive ≡ true) → ⊥)
interactive_or_not stage = grind arith

players_or_not : (program : Parts) (stage group n : ℕ) → IsPlayers program stage group n ⊎ (IsPlayers program stage group n → ⊥)
players_or_not program stage group n = grind (arith, interactive_or_not (slice_get program.stages stage), cases_eq group (own_group stage), cases_lt 1 n)

-- a choice among n offers is decided, from this supply, and a place that is chosen is one of n
pub record HasDecision (program : Parts) (seed stage group n : ℕ) (from : Supply) : Type 0 where
  pub how : How
  pub choice : Choice
  pub to : Supply
  pub decides : Decides program seed stage group n from how choice to
  pub within : IsChoiceWithin n choice

pub decision_there : ThereLaws → (program : Parts) (seed stage group n : ℕ) (from : Supply) → 0 < n → HasDecision program seed stage group n from
decision_there laws program seed stage group n from some = elim (players_or_not program stage group n) [
  | inl players ↦ (
      let heard = hears_there n from.come from.taken in
      record { how = Heard heard.events; choice = heard.choice; to = record { come = heard.rest; taken = heard.all; drawn = from.drawn }; decides = (players, heard.hears, refl); within = heard.within }
      )
  | inr others ↦ elim (cases_eq n 1) [
    | inl alone ↦ record { how = Lone; choice = Place 1; to = from; decides = (others, alone, refl, refl); within = ((omega arith), (omega (arith, alone))) }
    | inr several ↦ (
        let place = laws.places seed from.drawn n some in
        record { how = Drawn; choice = Place (place_drawn seed from.drawn n); to = record from { drawn = from.drawn + 1 }; decides = (others, (omega (arith, some, several)), refl, refl); within = place }
        )
  ]
]

-- An offer of the group that is asked can be done, or passes a limit.

pub offer_done : EditsAreSteps → (program : Parts) (height : ℕ) (at : Position) (group : ℕ) (offer : Offer) → IsProgram program → IsState program.signature at.spot.state → IsAsked program height at.spot.state at.spot.stage group → IsOffer program height at.spot.state group offer
    → ((deed : Deed) × (deed.before ≡ at) × (deed.offer ≡ offer) × IsDeed program height deed) ⊎ ((rule : Rule) × (passed : Limit) × (slice_get program.rules offer.rule ≡ Some rule) × Passes program.signature rule offer.values at.spot.state passed)
offer_done edits program height at group offer kept is_state asked is =
    let signature = program.signature in
    let applies = is.applies in
    let in_group = is.in_group in
    let rule = applies.rule in
    let values = offer.values in
    let state = at.spot.state in
    let typed = holds_at (IsTypedRule signature) program.rules offer.rule rule kept.typed_rules applies.numbered in
    let next = state_after signature state (gathered (taken_by signature rule values)) (added_by signature rule values) in
    let step : Step signature rule values state next = edits signature rule values state typed applies.values is_state applies.contained in
    let proofs = proofs_there program height (full_instances values rule.backs) applies.derivable in
    let same : in_group.rule ≡ rule = cc (applies.numbered, in_group.numbered) in
    elim (all_fit_or_not (full_instances values rule.right)) [
      | inr large ↦ inr (rule, limit.Atom, applies.numbered, large)
      | inl fit ↦ elim (state_fits_or_not next) [
        | inr full ↦ inr (rule, limit.State, applies.numbered, (fit, (next, step, full)))
        | inl fits ↦ (
            let spot : Spot = record { stage = stage_after rule at.spot.stage; state = next } in
            let machine : IsMachineStep program height at.spot spot offer rule proofs.0 = record {
              numbered = applies.numbered;
              values = applies.values;
              in_turn = in_turn program height state at.spot.stage group rule.group (ap (λ (r : Rule). r.group) (sym same) ∙ in_group.grouped) asked;
              proved = proofs.1;
              steps = record { fit = fit; step = step; fits = fits; stage = refl };
            } in
            inl (record { before = at; offer = offer; rule = rule; proofs = proofs.0; after = record { spot = spot; turns = at.turns + 1 } }, refl, refl, record { step = machine; counted = refl })
            )
      ]
    ]

-- From every position a run is there, whatever is typed.

module _ (laws : ThereLaws) (program : Parts) (settings : Settings) (kept : IsProgram program) where
  -- the stage asks a group, which has some offers
  record AsksSome (state : Multiset) (stage : ℕ) : Type 0 where
    group : ℕ
    offers : List Offer
    asked : IsAsked program settings.height state stage group
    offered : AreOffers program settings.height state group offers
    some : 0 < length offers

  offered_or_not : (state : Multiset) (group : ℕ) (offers : List Offer) → AreOffers program settings.height state group offers → (HasOffer program settings.height state group × (0 < length offers)) ⊎ (HasOffer program settings.height state group → ⊥)
  offered_or_not state group [] are = inr (λ has. contains_none has.0 (are.each has.0 has.1))
  offered_or_not state group (offer ∷ offers) are = inl ((offer, are.no_other offer (contains_first offer offers)), (omega arith))

  asks_or_quiet : (state : Multiset) (stage : ℕ) → IsState program.signature state → AsksSome state stage ⊎ IsQuiet program settings.height state stage
  asks_or_quiet state stage is_state =
      let own = laws.lists program settings.height state (own_group stage) kept is_state in
      let leaving = laws.lists program settings.height state (leaving_group stage) kept is_state in
      elim (offered_or_not state (own_group stage) own.0 own.1) [
        | inl some ↦ inl (record { group = own_group stage; offers = own.0; asked = inl (refl, some.0); offered = own.1; some = some.1 })
        | inr none ↦ elim (offered_or_not state (leaving_group stage) leaving.0 leaving.1) [
          | inl some ↦ inl (record { group = leaving_group stage; offers = leaving.0; asked = inr (refl, none, some.0); offered = leaving.1; some = some.1 })
          | inr quiet ↦ inr (none, quiet)
        ]
      ]

  -- a turn is done here, and leads to a state
  record HasTurn (at : Position) (from : Supply) : Type 0 where
    turn : Turn
    is : IsTurn program settings at from turn
    state : IsState program.signature turn.deed.after.spot.state

  -- a question that is asked here leads to a turn, and to a state; or to the end of the run
  pub record LeadsOn (at : Position) (from : Supply) (question : Question) : Type 0 where
    pub turn : Turn
    pub is : IsTurn program settings at from turn
    pub state : IsState program.signature turn.deed.after.spot.state
    pub of_question : turn.question ≡ question

  pub record LeadsOut (at : Position) (from : Supply) (question : Question) (left : Supply) : Type 0 where
    pub word : EndWord
    pub ends : EndsAt program settings at from word (Some question) left

  -- a run ends here
  record HasEnd (at : Position) (from : Supply) : Type 0 where
    word : EndWord
    asked : Option Question
    to : Supply
    ends : EndsAt program settings at from word asked to

  -- a turn leads from a state to a state
  state_behind : (at : Position) (from : Supply) (turn : Turn) → IsTurn program settings at from turn → IsState program.signature at.spot.state → IsState program.signature turn.deed.after.spot.state
  state_behind at from turn is is_state = grind (arith, steps_here, holds_at)

  module _ (at : Position) (from : Supply) (is_state : IsState program.signature at.spot.state) (question : Question) (left : Supply) (asks : IsQuestion program settings at from question left) where
    -- the step by an offer that is chosen is done, or it passes a limit
    step_or_end : (place : ℕ) (offer : Offer) → question.choice ≡ Place (place + 1) → slice_get question.offers place ≡ Some offer → IsOffer program settings.height at.spot.state question.group offer → LeadsOn at from question ⊎ LeadsOut at from question left
    step_or_end place offer is at_place is_offer = elim (offer_done laws.edit program settings.height at question.group offer kept is_state asks.asked is_offer) [
      | inl done ↦ (
          let turn : Turn = record { question = question; deed = done.0; left = left } in
          let goes : IsTurn program settings at from turn = record { here = done.1; asks = asks; chosen = record { place = place; chosen = is; at_place = rw done.2 at_place; of_rule = done.3.step.numbered }; does = done.3 } in
          inl (record { turn = turn; is = goes; state = state_behind at from turn goes is_state; of_question = refl }))
      | inr passes ↦
          let chosen : IsChosen program question offer passes.0 = record { place = place; chosen = is; at_place = at_place; of_rule = passes.2 } in
          inr (record { word = limit_word passes.1; ends = limit_end program settings at from left question offer passes.0 asks chosen passes.1 passes.3 })
    ]

    pub by_choice : (choice : Choice) → question.choice ≡ choice → IsChoiceWithin (length question.offers) choice → LeadsOn at from question ⊎ LeadsOut at from question left
    by_choice NoMore is within = inr (record { word = Input; ends = input_end asks is })
    by_choice NoRoom is within = inr (record { word = Typed; ends = typed_end asks is })
    by_choice (Place place) is within =
        let there = item_at question.offers (place - 1) (omega (arith, within.0, within.1)) in
        let is_offer : IsOffer program settings.height at.spot.state question.group there.0 = asks.offered.no_other there.0 (place - 1, slice_get_within question.offers (place - 1) there.0 there.1, get_or_from_slice_get question.offers (place - 1) there.0 there.0 there.1) in
        step_or_end (place - 1) there.0 (is ∙ ap Place (omega (arith, within.0))) there.1 is_offer

  turn_or_end : (at : Position) (from : Supply) → IsState program.signature at.spot.state → at.turns ≤ settings.limit → HasTurn at from ⊎ HasEnd at from
  turn_or_end at from is_state within = elim (asks_or_quiet at.spot.state at.spot.stage is_state) [
    | inr quiet ↦ inr (record { word = Quiet; asked = None; to = from; ends = quiet_end quiet refl })
    | inl asked ↦ elim (cases_lt at.turns settings.limit) [
      | inr done ↦ inr (record { word = Turns; asked = None; to = from; ends = turns_end asked.asked (omega (arith, within, done)) refl })
      | inl remain ↦ elim (cases_lt MOST_OFFERS (length asked.offers)) [
        | inl many ↦ inr (record { word = Offers; asked = None; to = from; ends = offers_end remain asked.asked asked.offered many refl })
        | inr few ↦ (
            let decision = decision_there laws program settings.seed at.spot.stage asked.group (length asked.offers) from asked.some in
            let question : Question = record { group = asked.group; offers = asked.offers; how = decision.how; choice = decision.choice } in
            elim (by_choice at from is_state question decision.to (record { remain = remain; asked = asked.asked; offered = asked.offered; few = few; decided = decision.decides }) decision.choice refl decision.within) [
              | inl on ↦ inl (record { turn = on.turn; is = on.is; state = on.state })
              | inr out ↦ inr (record { word = out.word; asked = Some question; to = decision.to; ends = out.ends })
            ]
            )
      ]
    ]
  ]

  pub record HasRun (at : Position) (from : Supply) : Type 0 where
    pub turns : List Turn
    pub ending : Ending
    pub to : Supply
    pub run : Run program settings at from turns ending to

  ends_here : (at : Position) (from : Supply) → HasEnd at from → HasRun at from
  ends_here at from end = record { turns = []; ending = record { word = end.word; state = at.spot.state; question = end.asked }; to = end.to; run = record { last = at; between = from; done = (refl, refl); ends = end.ends; state = refl } }

  goes_on : (at : Position) (from : Supply) (turn : Turn) → IsTurn program settings at from turn → HasRun turn.deed.after turn.left → HasRun at from
  goes_on at from turn is later = record { turns = turn ∷ later.turns; ending = later.ending; to = later.to; run = record { last = later.run.last; between = later.run.between; done = (is, later.run.done); ends = later.run.ends; state = later.run.state } }

  run_within : (most : ℕ) (at : Position) (from : Supply) → IsState program.signature at.spot.state → at.turns ≤ settings.limit → settings.limit ≤ at.turns + most → HasRun at from
  run_within zero at from is_state within few = elim (turn_or_end at from is_state within) [ inr end ↦ ends_here at from end | inl turn ↦ absurd (omega (arith, few, turn.is.asks.remain)) ]
  run_within (suc most) at from is_state within few = elim (turn_or_end at from is_state within) [
    | inr end ↦ ends_here at from end
    | inl turn ↦ (
        let counted = counted_here program settings at from turn.turn turn.is in
        goes_on at from turn.turn turn.is (run_within most turn.turn.deed.after turn.turn.left turn.state (omega (arith, turn.is.asks.remain, counted)) (omega (arith, few, counted)))
        )
  ]

  pub run_there : (at : Position) (from : Supply) → IsState program.signature at.spot.state → at.turns ≤ settings.limit → HasRun at from
  run_there at from is_state within = run_within settings.limit at from is_state within (omega arith)

  pub runs_there : (at : Position) (from : Supply) → IsState program.signature at.spot.state → at.turns ≤ settings.limit → (turns : List Turn) × (ending : Ending) × (to : Supply) × Run program settings at from turns ending to
  runs_there at from is_state within = let there = run_there at from is_state within in (there.turns, there.ending, there.to, there.run)

-- What a question says, and what a turn says, begins some run.

-- a place that is decided on is one of n
decided_within : ThereLaws → (program : Parts) (seed stage group n : ℕ) (from : Supply) (how : How) (choice : Choice) (to : Supply) → Decides program seed stage group n from how choice to → IsChoiceWithin n choice
decided_within laws program seed stage group n from how choice to decides = grind (arith, heard_within)

module _ (laws : ThereLaws) (program : Parts) (settings : Settings) (kept : IsProgram program) where
  turn_on : (at : Position) (from : Supply) (turn : Turn) → IsTurn program settings at from turn → IsState program.signature turn.deed.after.spot.state → BeginsSome (IsRunOf program settings at) from (turn_events program turn)
  turn_on at from turn is state =
      let later = run_there laws program settings kept turn.deed.after turn.left state (omega (arith, is.asks.remain, (counted_here program settings at from turn is))) in
      let run : Run program settings at from (turn ∷ later.turns) later.ending later.to = record { last = later.run.last; between = later.run.between; done = (is, later.run.done); ends = later.run.ends; state = later.run.state } in
      let end = last_events program later.ending.question ++ outs (end_lines program.signature later.ending.word later.ending.state) in
      record {
        more = events_of program later.turns later.ending;
        left = later.to;
        whole = (turn ∷ later.turns, later.ending, run, sym (append_assoc (turn_events program turn) (flat_map (turn_events program) later.turns) end));
      }

  pub turn_begins : (at : Position) (from : Supply) (turn : Turn) → IsState program.signature at.spot.state → IsTurn program settings at from turn → BeginsSome (IsRunOf program settings at) from (turn_events program turn)
  turn_begins at from turn is_state is = turn_on at from turn is (state_behind laws program settings kept at from turn is is_state)

  pub question_begins : (at : Position) (from : Supply) (question : Question) (to : Supply) → IsState program.signature at.spot.state → IsQuestion program settings at from question to → BeginsSome (IsRunOf program settings at) from (question_events program question)
  question_begins at from question to is_state asks =
      let within = decided_within laws program settings.seed at.spot.stage question.group (length question.offers) from question.how question.choice to asks.decided in
      elim (by_choice laws program settings kept at from is_state question to asks question.choice refl within) [
        | inl on ↦ (
            let front = turn_on at from on.turn on.is on.state in
            let steps = outs (lines_of_deed program on.turn.deed) in
            let said : question_events program question ++ (steps ++ front.more) ≡ turn_events program on.turn ++ front.more =
            sym (append_assoc (question_events program question) steps front.more) ∙ ap (λ (asked : Question). (question_events program asked ++ steps) ++ front.more) (sym on.of_question) in
            record { more = steps ++ front.more; left = front.left; whole = (front.whole.0, front.whole.1, front.whole.2, said ∙ front.whole.3) }
            )
        | inr out ↦ (
            let ending : Ending = record { word = out.word; state = at.spot.state; question = Some question } in
            let run : Run program settings at from [] ending to = record { last = at; between = from; done = (refl, refl); ends = out.ends; state = refl } in
            record { more = outs (end_lines program.signature out.word at.spot.state); left = to; whole = ([], ending, run, refl) }
            )
      ]

  -- a question leads to a turn, or to the end
  pub question_leads : (at : Position) (from : Supply) (question : Question) (to : Supply) → IsState program.signature at.spot.state → IsQuestion program settings at from question to
      → ((turn : Turn) × IsTurn program settings at from turn × (turn.question ≡ question)) ⊎ ((word : EndWord) × EndsAt program settings at from word (Some question) to)
  question_leads at from question to is_state asks =
      let within = decided_within laws program settings.seed at.spot.stage question.group (length question.offers) from question.how question.choice to asks.decided in
      elim (by_choice laws program settings kept at from is_state question to asks question.choice refl within) [
        | inl on ↦ inl (on.turn, on.is, on.of_question)
        | inr out ↦ inr (out.word, out.ends)
      ]
