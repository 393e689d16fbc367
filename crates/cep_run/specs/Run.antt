-- A run: turn after turn, each a step of the machine, until it ends for a named reason. No byte
-- that is written is spoken of here.
use Rattle.std.specs.Prelude.{◌≡◌, ℕ, ◌+◌, ◌<◌, ◌≤◌, List, [], ◌∷◌, length, map, Option, None, Some, slice_get}
use Rattle.cep_base.specs.declared.limits.TheConstants.{MOST_OFFERS}
use Rattle.cep_term.specs.Multiset.{Multiset}
use Rattle.cep_rule.specs.declared.rule.Rule.{Rule}
use Rattle.cep_rule.specs.declared.parts.Parts.{Parts}
use Rattle.cep_rule.specs.declared.offer.Offer.{Offer}
use Rattle.cep_rule.specs.Offers.{AreOffers}
use Rattle.cep_rule.specs.Stages.{IsAsked, IsQuiet}
use Rattle.cep_step.specs.declared.limit.Limit.TheVariants as limit
use Rattle.cep_step.specs.Passing.{Passes}
use Rattle.cep_run.specs.declared.choice.Choice.{Choice}
use Rattle.cep_run.specs.declared.choice.Choice.TheVariants.{Place, NoMore, NoRoom}
use Rattle.cep_lines.specs.declared.end_word.EndWord.{EndWord}
use Rattle.cep_lines.specs.declared.end_word.EndWord.TheVariants.{Quiet, Input, Turns, Offers, Typed, Atom, State}
use Rattle.cep_run.specs.declared.settings.Settings.{Settings}
use Rattle.cep_run.specs.Deciding.{Supply, How, Decides}
use Rattle.cep_step.specs.Deeds.{Position, Deed, IsDeed}

-- the supply with which a run begins, where these bytes are to come
abbrev pub whole_supply : List ℕ → Supply
whole_supply come = record { come = come; taken = 0; drawn = 0 }

-- A question: the group that is asked, its offers, how one of them was decided on, and the choice.
pub record Question : Type 0 where
  pub group : ℕ
  pub offers : List Offer
  pub how : How
  pub choice : Choice

-- A turn: its question and the deed that was decided on, and the supply that it leaves.
pub record Turn : Type 0 where
  pub question : Question
  pub deed : Deed
  pub left : Supply

-- what was done in turns
abbrev pub deeds_of : List Turn → List Deed
deeds_of turns = map (λ turn. turn.deed) turns

-- the turn without its derivations
abbrev pub unproved : Turn → Turn
unproved turn = record turn { deed = record turn.deed { proofs = [] } }

-- How a run ended: the word, the last state, and the last question where it led to no step.
pub record Ending : Type 0 where
  pub word : EndWord
  pub state : Multiset
  pub question : Option Question

-- The question is asked here: turns remain, the stage asks the group, the offers are those of it
-- and not too many, and the choice is decided.
pub record IsQuestion (program : Parts) (settings : Settings) (at : Position) (from : Supply)
    (question : Question) (to : Supply) : Type 0 where
  pub remain : at.turns < settings.limit
  pub asked : IsAsked program settings.height at.spot.state at.spot.stage question.group
  pub offered : AreOffers program settings.height at.spot.state question.group question.offers
  pub few : length question.offers ≤ MOST_OFFERS
  pub decided : Decides program settings.seed at.spot.stage question.group
      (length question.offers) from question.how question.choice to

-- The choice is this offer, which stands at a place, counted from 0, and this is its rule.
pub record IsChosen (program : Parts) (question : Question) (offer : Offer)
    (rule : Rule) : Type 0 where
  pub place : ℕ
  pub chosen : question.choice ≡ Place (place + 1)
  pub at_place : slice_get question.offers place ≡ Some offer
  pub of_rule : slice_get program.rules offer.rule ≡ Some rule

-- One turn is done from a position with a supply: its question is asked here, the choice is the
-- offer of its deed, and the deed is lawful.
pub record IsTurn (program : Parts) (settings : Settings) (at : Position) (from : Supply)
    (turn : Turn) : Type 0 where
  pub here : turn.deed.before ≡ at
  pub asks : IsQuestion program settings at from turn.question turn.left
  pub chosen : IsChosen program turn.question turn.deed.offer turn.deed.rule
  pub does : IsDeed program settings.height turn.deed

-- Turns are done one after another, from a position with a supply to the last of them.
abbrev pub AreTurns : Parts → Settings → Position → Supply → List Turn → Position → Supply → Type 0
AreTurns program settings at from [] last to = (last ≡ at) × (to ≡ from)
AreTurns program settings at from (turn ∷ turns) last to =
    IsTurn program settings at from turn × AreTurns program settings turn.deed.after turn.left
    turns last to

-- how many offers were listed in turns
abbrev pub offers_listed : List Turn → ℕ
offers_listed [] = 0
offers_listed (turn ∷ turns) = length turn.question.offers + offers_listed turns

-- A run ends at a position: with a word, maybe after a last question, and with the supply that is
-- left then.
pub data EndsAt (program : Parts) (settings : Settings) (at : Position) (from : Supply) : EndWord
    → Option Question → Supply → Type 0 where
  -- no rule applies
  quiet_end : {to : Supply} → IsQuiet program settings.height at.spot.state at.spot.stage
      → to ≡ from
      → EndsAt program settings at from Quiet None to
  -- a group is asked, and all turns are done
  turns_end : {to : Supply} {group : ℕ} → IsAsked program settings.height at.spot.state
      at.spot.stage group
      → at.turns ≡ settings.limit → to ≡ from → EndsAt program settings at from Turns None to
  -- a group is asked, and turns remain, but its offers are too many
  offers_end : {to : Supply} {group : ℕ} {offers : List Offer} → at.turns < settings.limit
      → IsAsked program settings.height at.spot.state at.spot.stage group
      → AreOffers program settings.height at.spot.state group offers → MOST_OFFERS < length offers
      → to ≡ from → EndsAt program settings at from Offers None to
  -- a question is asked, and no more is typed
  input_end : {to : Supply} {question : Question} → IsQuestion program settings at from question to
      → question.choice ≡ NoMore → EndsAt program settings at from Input (Some question) to
  -- a question is asked, and no more may be typed
  typed_end : {to : Supply} {question : Question} → IsQuestion program settings at from question to
      → question.choice ≡ NoRoom → EndsAt program settings at from Typed (Some question) to
  -- a question is asked, and the step by the offer that is chosen passes the limit of an atom
  atom_end : {to : Supply} {question : Question} {offer : Offer} {rule : Rule}
      → IsQuestion program settings at from question to → IsChosen program question offer rule
      → Passes program.signature rule offer.values at.spot.state limit.Atom
      → EndsAt program settings at from Atom (Some question) to
  -- a question is asked, and the step by the offer that is chosen passes the limit of a state
  state_end : {to : Supply} {question : Question} {offer : Offer} {rule : Rule}
      → IsQuestion program settings at from question to → IsChosen program question offer rule
      → Passes program.signature rule offer.values at.spot.state limit.State
      → EndsAt program settings at from State (Some question) to

-- A run from a position with a supply: its turns, how it ended, and the supply that is left.
pub record Run (program : Parts) (settings : Settings) (at : Position) (from : Supply)
    (turns : List Turn) (ending : Ending) (to : Supply) : Type 0 where
  pub last : Position
  pub between : Supply
  pub done : AreTurns program settings at from turns last between
  pub ends : EndsAt program settings last between ending.word ending.question to
  pub state : ending.state ≡ last.spot.state
