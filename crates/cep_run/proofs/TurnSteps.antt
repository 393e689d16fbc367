-- What is done in turns are lawful deeds, and these are counted.
use Rattle.std.proofs.Common.{◌≡◌, ◌⊎◌, ℕ, ◌+◌, List, [], ◌∷◌, length, sym, ◌∙◌, ap, subst, arith, Option, None, Some}
use Rattle.std.proofs.lemmas.Option.{slice_get_within, get_or_from_slice_get}
use Rattle.cep_term.specs.Multiset.{Multiset}
use Rattle.cep_rule.specs.declared.rule.Rule.{Rule}
use Rattle.cep_rule.specs.declared.parts.Parts.{Parts}
use Rattle.cep_rule.specs.declared.offer.Offer.{Offer}
use Rattle.cep_rule.specs.Instances.{full_instances}
use Rattle.cep_rule.specs.Derivations.{ProofTree}
use Rattle.cep_rule.specs.Offers.{IsOffer}
use Rattle.cep_rule.specs.Typing.{AreValues}
use Rattle.cep_rule.specs.Stages.{IsAsked, IsQuiet, HasOffer, own_group, leaving_group}
use Rattle.cep_rule.specs.Steps.{Spot, StepsTo, AreProofs, IsMachineStep}
use Rattle.cep_lines.specs.declared.end_word.EndWord.{EndWord}
use Rattle.cep_lines.specs.declared.end_word.EndWord.TheVariants.{Quiet}
use Rattle.cep_step.specs.declared.limit.Limit.{Limit}
use Rattle.cep_step.specs.Passing.{Passes}
use Rattle.cep_step.specs.Deeds.{Position, Deed, AreDeeds}
use Rattle.cep_run.specs.declared.settings.Settings.{Settings}
use Rattle.cep_run.specs.Deciding.{Supply}
use Rattle.cep_run.specs.Turn.{limit_word}
use Rattle.cep_run.specs.Run.{Question, Turn, deeds_of, IsQuestion, IsChosen, IsTurn, AreTurns, EndsAt, atom_end, state_end}
use Rattle.cep_step.specs.declared.limit.Limit.TheVariants as limit

-- a rule of the group that is asked is of the stage, or leaves it where nothing of its own applies
pub in_turn : (program : Parts) (height : ℕ) (state : Multiset) (stage group of : ℕ) → of ≡ group → IsAsked program height state stage group → (of ≡ own_group stage) ⊎ ((of ≡ leaving_group stage) × ¬ HasOffer program height state (own_group stage))
in_turn program height state stage group of same arg7 = grind arith

-- the step by an offer that is chosen is one of the machine
pub lawful_step : (program : Parts) (settings : Settings) (at : Position) (from : Supply) (question : Question) (to : Supply) → IsQuestion program settings at from question to
    → (offer : Offer) (rule : Rule) (proofs : List ProofTree) (new : Spot) → IsChosen program question offer rule → AreProofs program settings.height proofs (full_instances offer.values rule.backs) → StepsTo program rule offer.values at.spot new
    → IsMachineStep program settings.height at.spot new offer rule proofs
lawful_step program settings at from question to asks offer rule proofs new chosen proved steps =
    let k = chosen.place in
    let offers = question.offers in
    let is_offer : IsOffer program settings.height at.spot.state question.group offer = asks.offered.no_other offer (k, slice_get_within offers k offer chosen.at_place, get_or_from_slice_get offers k offer offer chosen.at_place) in
    let applies = is_offer.applies in
    let in_group = is_offer.in_group in
    let one : applies.rule ≡ rule = cc (applies.numbered, chosen.of_rule) in
    let other : in_group.rule ≡ rule = cc (in_group.numbered, chosen.of_rule) in
    record {
      numbered = chosen.of_rule;
      values = subst (λ (rule : Rule). AreValues program.signature.cons rule.kinds offer.values) one applies.values;
      in_turn = in_turn program settings.height at.spot.state at.spot.stage question.group rule.group (ap (λ (rule : Rule). rule.group) (sym other) ∙ in_group.grouped) asks.asked;
      proved = proved;
      steps = steps;
    }

module _ (program : Parts) (settings : Settings) where
  -- the deed of a turn begins where the turn does
  pub steps_here : (at : Position) (from : Supply) (turn : Turn) → IsTurn program settings at from turn → StepsTo program turn.deed.rule turn.deed.offer.values at.spot turn.deed.after.spot
  steps_here at from turn is = subst (λ (here : Position). StepsTo program turn.deed.rule turn.deed.offer.values here.spot turn.deed.after.spot) is.here is.does.step.steps

  pub counted_here : (at : Position) (from : Supply) (turn : Turn) → IsTurn program settings at from turn → turn.deed.after.turns ≡ at.turns + 1
  counted_here at from turn is = is.does.counted ∙ ap (λ (here : Position). here.turns + 1) is.here

  pub turn_deeds : (at : Position) (from : Supply) (turns : List Turn) (last : Position) (to : Supply) → AreTurns program settings at from turns last to → AreDeeds program settings.height at (deeds_of turns) last
  turn_deeds at from [] last to done = done.0
  turn_deeds at from (turn ∷ turns) last to done = (done.0.here, done.0.does, turn_deeds turn.deed.after turn.left turns last to done.1)

  -- a run ends quiet only where nothing applies
  pub quiet_here : (at : Position) (from : Supply) {word : EndWord} {asked : Option Question} {to : Supply} → word ≡ Quiet → EndsAt program settings at from word asked to → IsQuiet program settings.height at.spot.state at.spot.stage
  quiet_here at from same arg3 = grind arith

  -- what is left after a run ended: all that was there, or what its last question leaves
  abbrev pub LeftBy : Position → Supply → Option Question → Supply → Type 0
  LeftBy at from None to = to ≡ from
  LeftBy at from (Some question) to = IsQuestion program settings at from question to

  pub left_by : (at : Position) (from : Supply) {word : EndWord} {asked : Option Question} {to : Supply} → EndsAt program settings at from word asked to → LeftBy at from asked to
  left_by at from arg2 = grind arith

  -- a run ends where a step by the offer that is chosen passes a limit
  pub limit_end : (at : Position) (from to : Supply) (question : Question) (offer : Offer) (rule : Rule) → IsQuestion program settings at from question to → IsChosen program question offer rule → (passed : Limit) → Passes program.signature rule offer.values at.spot.state passed
      → EndsAt program settings at from (limit_word passed) (Some question) to
  limit_end at from to question offer rule asks chosen limit.Atom passes = atom_end asks chosen passes
  limit_end at from to question offer rule asks chosen limit.State passes = state_end asks chosen passes

pub deeds_counted : (program : Parts) (height : ℕ) (at : Position) (deeds : List Deed) (last : Position) → AreDeeds program height at deeds last → last.turns ≡ at.turns + length deeds
deeds_counted program height at (deed ∷ deeds) last done = grind (arith, deeds_counted program height deed.after deeds last done.2, deed.after, done.1.counted)
deeds_counted program height at deeds last done = grind arith
