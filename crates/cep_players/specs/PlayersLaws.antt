-- Private.
-- The laws that runs in rounds rest on.
use Rattle.std.specs.Prelude.{◌≡◌, ◌⊎◌, ℕ, ◌≤◌, Bool, List, Some, slice_get}
use Rattle.std.specs.FinMap as finite
use Rattle.cep_base.specs.declared.console.Event.{Event}
use Rattle.cep_term.specs.Tree.{Tree}
use Rattle.cep_term.specs.BagLaws.{BagLaws}
use Rattle.cep_term.specs.Multiset.{Multiset, IsContained}
use Rattle.cep_rule.specs.declared.signature.Signature.{Signature}
use Rattle.cep_rule.specs.declared.rule.Rule.{Rule}
use Rattle.cep_rule.specs.declared.parts.Parts.{Parts}
use Rattle.cep_rule.specs.declared.offer.Offer.{Offer}
use Rattle.cep_rule.specs.Typing.{AreValues}
use Rattle.cep_rule.specs.Instances.{left_of}
use Rattle.cep_rule.specs.State.{IsState}
use Rattle.cep_rule.specs.Offers.{IsOffer}
use Rattle.cep_rule.specs.Stages.{IsAsked}
use Rattle.cep_rule.specs.Step.{Step}
use Rattle.cep_rule.specs.Steps.{MakesFit}
use Rattle.cep_rule.specs.Program.{IsTypedRule, IsDividedRule, IsProgram}
use Rattle.cep_step.specs.Deeds.{Position, Deed, IsDeed}
use Rattle.cep_step.specs.declared.limit.Limit.{Limit}
use Rattle.cep_step.specs.Passing.{Passes}
use Rattle.cep_round.specs.Rounds.{AreAdmitted, admitted}
use Rattle.cep_round.specs.Orders.{KeepHeights}
use Rattle.cep_lines.specs.declared.end_word.EndWord.{EndWord}
use Rattle.cep_run.specs.declared.choice.Choice.{Choice}
use Rattle.cep_run.specs.declared.settings.Settings.{Settings}
use Rattle.cep_run.specs.Choice.{Hears, IsChoiceWithin}
use Rattle.cep_run.specs.Deciding.{Supply}
use Rattle.cep_run.specs.Fronts.{LeavesUnheard}
use Rattle.cep_run.specs.Run.{Question, Turn, Ending, IsQuestion, IsTurn, EndsAt, Run}

-- That whatever is typed some choice is heard.
abbrev pub ChoicesAreHeard : Type 0
ChoicesAreHeard = (n taken : ℕ) (come : List ℕ) → (events : List Event) × (choice : Choice) × (rest : List ℕ) × (many : ℕ) × Hears n come taken events choice rest many

-- That a place that is heard is one of those there are, and what was heard is gone.
abbrev pub ChoicesAreWithin : Type 0
ChoicesAreWithin = (n taken many : ℕ) (come rest : List ℕ) (events : List Event) (choice : Choice) → Hears n come taken events choice rest many → IsChoiceWithin n choice × LeavesUnheard come events rest

-- what rounds rest on: steps lead to states, what is needed is there, and admitted offers go on applying
pub record RoundsAreLawful : Type 0 where
  pub lead : (signature : Signature) (rule : Rule) (values : List Tree) (old new : Multiset) → IsTypedRule signature rule → IsDividedRule signature rule → AreValues signature.cons rule.kinds values → IsState signature old → MakesFit rule values → Step signature rule values old new → IsState signature new
  pub needed : (signature : Signature) (rule : Rule) (values : List Tree) (old new : Multiset) → Step signature rule values old new → IsContained (left_of signature rule values) old
  pub heights : (program : Parts) (state : Multiset) (offers : List Offer) (flags : List Bool) → IsProgram program → AreAdmitted program state finite.empty offers flags → KeepHeights program state (admitted offers flags)

-- What runs in rounds rest on: runs of one player are there, choices are heard, and offers can be done.
pub record PlayersLaws : Type 0 where
  pub bags : BagLaws
  pub rounds : RoundsAreLawful
  pub heard : ChoicesAreHeard
  pub within : ChoicesAreWithin
  pub runs : (program : Parts) (settings : Settings) (at : Position) (from : Supply) → IsProgram program → IsState program.signature at.spot.state → at.turns ≤ settings.limit → (turns : List Turn) × (ending : Ending) × (to : Supply) × Run program settings at from turns ending to
  pub can_be_done : (program : Parts) (height : ℕ) (at : Position) (group : ℕ) (offer : Offer) → IsProgram program → IsState program.signature at.spot.state → IsAsked program height at.spot.state at.spot.stage group → IsOffer program height at.spot.state group offer
      → ((deed : Deed) × (deed.before ≡ at) × (deed.offer ≡ offer) × IsDeed program height deed) ⊎ ((rule : Rule) × (passed : Limit) × (slice_get program.rules offer.rule ≡ Some rule) × Passes program.signature rule offer.values at.spot.state passed)
  pub lead_on : (program : Parts) (settings : Settings) (at : Position) (from : Supply) (question : Question) (to : Supply) → IsProgram program → IsState program.signature at.spot.state → IsQuestion program settings at from question to
      → ((turn : Turn) × IsTurn program settings at from turn × (turn.question ≡ question)) ⊎ ((word : EndWord) × EndsAt program settings at from word (Some question) to)
