-- How a log can come about by play: what is typed for its steps, and what it has to keep to.
use Rattle.std.specs.Prelude.{◌≡◌, ℕ, ◌+◌, ◌<◌, ◌≤◌, true, List, [], ◌∷◌, ◌++◌, length, map, Some, IsSomeAnd, slice_get, decimal}
use Rattle.std.specs.List.{AllByRecursion}
use Rattle.cep_base.specs.declared.console.Event.{Event}
use Rattle.cep_base.specs.declared.limits.TheConstants.{MOST_OFFERS, MOST_TYPED}
use Rattle.cep_rule.specs.declared.parts.Parts.{Parts}
use Rattle.cep_rule.specs.declared.offer.Offer.{Offer}
use Rattle.cep_rule.specs.Offers.{AreOffers}
use Rattle.cep_rule.specs.Stages.{IsAsked}
use Rattle.cep_rule.specs.Steps.{Spot, start_spot}
use Rattle.cep_choice.specs.Draws.{place_drawn}
use Rattle.cep_lines.specs.Lines.{line}
use Rattle.cep_lines.specs.declared.end_word.EndWord.{EndWord}
use Rattle.cep_lines.specs.declared.end_word.EndWord.TheVariants.{Quiet, Input, Turns, Offers, Typed, Atom, State}
use Rattle.cep_log.specs.declared.log.Log.{Log}
use Rattle.cep_log.specs.declared.log.LogStep.{LogStep}
use Rattle.cep_log.specs.Legal.{IsLegalStep}
use Rattle.cep_log.specs.Holding.{HoldsDeeds}
use Rattle.cep_run.specs.declared.settings.Settings.{Settings}
use Rattle.cep_run.specs.Deciding.{IsPlayers}
use Rattle.cep_run.specs.Run.{Turn, Ending, deeds_of, unproved}
use Rattle.cep_run.specs.Dialogue.{Dialogue}

-- what is typed for the offer at a place, which is counted from 1: its decimal, as a line
abbrev pub typed_for : ℕ → List ℕ
typed_for place = line (decimal place)

-- How the offer at a place among n comes to be the one that is done: what is typed for it, and how
-- many words of the seed were drawn before it and after it.
pub data Decision (program : Parts) (seed stage group n place drawn : ℕ) : List ℕ → ℕ → Type 0 where
  -- the player decides, and types its line
  by_player : {typed : List ℕ} {drawn' : ℕ} → IsPlayers program stage group n
      → typed ≡ typed_for place → drawn' ≡ drawn
      → Decision program seed stage group n place drawn typed drawn'
  -- it is the only one, and nobody is asked
  alone : {typed : List ℕ} {drawn' : ℕ} → ¬ IsPlayers program stage group n → n ≡ 1
      → typed ≡ [] → drawn' ≡ drawn
      → Decision program seed stage group n place drawn typed drawn'
  -- the seed decides, and its next word stands for this place
  by_seed : {typed : List ℕ} {drawn' : ℕ} → ¬ IsPlayers program stage group n → 1 < n
      → place ≡ place_drawn seed drawn n → typed ≡ [] → drawn' ≡ drawn + 1
      → Decision program seed stage group n place drawn typed drawn'

-- A group is asked at a spot, these are its offers, and they are not too many for a run.
pub record IsPosed (program : Parts) (height : ℕ) (spot : Spot) (group : ℕ) (offers : List Offer)
    : Type 0 where
  pub asked : IsAsked program height spot.state spot.stage group
  pub are : AreOffers program height spot.state group offers
  pub few : length offers ≤ MOST_OFFERS

-- These bytes are typed for an offer at a spot: it stands at a place among those that are asked
-- about, and is decided on by them.
pub record IsTypedFor (program : Parts) (settings : Settings) (spot : Spot) (offer : Offer)
    (drawn : ℕ) (typed : List ℕ) (drawn' : ℕ) : Type 0 where
  pub group : ℕ
  pub offers : List Offer
  pub posed : IsPosed program settings.height spot group offers
  pub place : ℕ
  pub there : slice_get offers place ≡ Some offer
  pub decided : Decision program settings.seed spot.stage group (length offers) (place + 1)
      drawn typed drawn'

-- These bytes are typed for steps that are legal one after another, from a spot to the last one: the
-- bytes of each, in order.
abbrev pub AreTypedFor : Parts → Settings → Spot → List LogStep → ℕ → List ℕ → Spot → Type 0
AreTypedFor program settings spot [] drawn typed last = (typed ≡ []) × (last ≡ spot)
AreTypedFor program settings spot (step ∷ steps) drawn typed last =
    (new : Spot) × (first others : List ℕ) × (drawn' : ℕ)
    × IsLegalStep program settings.height spot new step
    × IsTypedFor program settings spot step.offer drawn first drawn'
    × AreTypedFor program settings new steps drawn' others last
    × (typed ≡ first ++ others)

-- The player is asked at a spot.
pub record IsPlayerAsked (program : Parts) (height : ℕ) (spot : Spot) : Type 0 where
  pub group : ℕ
  pub offers : List Offer
  pub posed : IsPosed program height spot group offers
  pub players : IsPlayers program spot.stage group (length offers)

-- A run can end so at a spot, after so many turns and so many bytes typed: in quiet; at the end of
-- what is typed, where the player is asked and may type more; or when all turns are done, where a
-- group is asked.
abbrev pub CanEnd : Parts → Settings → Spot → (turns typed : ℕ) → EndWord → Type 0
CanEnd program settings last turns typed Quiet = Unit {0}
CanEnd program settings last turns typed Input =
    IsPlayerAsked program settings.height last × (turns < settings.limit) × (typed < MOST_TYPED)
CanEnd program settings last turns typed Turns =
    (turns ≡ settings.limit)
    × ((group : ℕ) × IsAsked program settings.height last.state last.stage group)
CanEnd program settings last turns typed Offers = ⊥
CanEnd program settings last turns typed Typed = ⊥
CanEnd program settings last turns typed Atom = ⊥
CanEnd program settings last turns typed State = ⊥

-- A log can be played by typing these bytes: it has the height of the run and no more steps than its
-- turns, each step is answered by them, and a run can end as it does.
pub record CanBePlayed (program : Parts) (settings : Settings) (log : Log) (typed : List ℕ)
    : Type 0 where
  pub height : settings.height ≡ log.height
  pub turns : length log.steps ≤ settings.limit
  pub few : length typed ≤ MOST_TYPED
  pub last : Spot
  pub answered : AreTypedFor program settings (start_spot program) log.steps 0 typed last
  pub ended : IsSomeAnd log.end (λ end.
      CanEnd program settings last (length log.steps) (length typed) end.word)

-- A log is played by typing these bytes: some dialogue does what the log says, and each dialogue in
-- which they are typed does the same, up to the derivations.
pub record IsReplayed (program : Parts) (settings : Settings) (log : Log) (typed : List ℕ)
    : Type 0 where
  pub turns : List Turn
  pub ending : Ending
  pub events : List Event
  pub rest : List ℕ
  pub dialogue : Dialogue program settings typed turns ending events rest
  pub holds : HoldsDeeds program settings.height (deeds_of turns) ending.word ending.state log
  pub only : (others : List Turn) (end : Ending) (said : List Event) (left : List ℕ)
      → Dialogue program settings typed others end said left
      → (map unproved others ≡ map unproved turns) × (end ≡ ending) × (left ≡ rest)

-- each stage of the program is interactive
abbrev pub AreInteractive : Parts → Type 0
AreInteractive program = AllByRecursion (λ stage. stage.interactive ≡ true) program.stages

-- a run finds no more offers at the spot than it asks about
abbrev pub HasFewOffers : Parts → ℕ → Spot → Type 0
HasFewOffers program height spot =
    (group : ℕ) (offers : List Offer) → IsAsked program height spot.state spot.stage group
    → AreOffers program height spot.state group offers → length offers ≤ MOST_OFFERS

-- so it is at each spot from which one of the steps is done
abbrev pub HaveFewOffers : Parts → ℕ → Spot → List LogStep → Type 0
HaveFewOffers program height spot [] = Unit {0}
HaveFewOffers program height spot (step ∷ steps) =
    HasFewOffers program height spot
    × ((new : Spot) → IsLegalStep program height spot new step
    → HaveFewOffers program height new steps)
