-- Runs in rounds: turn after turn as for one player, but that all players choose at once where a
-- stage's own rules are asked and the stage is interactive. No byte that is written is spoken of here.
use Rattle.std.specs.Prelude.{◌≡◌, ℕ, ◌-◌, ◌<◌, ◌≤◌, true, Bool, List, [], ◌∷◌, ◌++◌, length, map, Option, Some, slice_get, IsSomeAnd, IfSome}
use Rattle.std.specs.List.{AllZip, flat_map}
use Rattle.std.specs.FinMap as finite
use Rattle.cep_base.specs.declared.console.Event.{Event}
use Rattle.cep_base.specs.declared.limits.TheConstants.{MOST_OFFERS}
use Rattle.cep_term.specs.Tree.{Tree}
use Rattle.cep_rule.specs.declared.rule.Rule.{Rule}
use Rattle.cep_rule.specs.declared.parts.Parts.{Parts}
use Rattle.cep_rule.specs.declared.offer.Offer.{Offer}
use Rattle.cep_rule.specs.Offers.{AreOffers}
use Rattle.cep_rule.specs.Stages.{own_group, IsAsked}
use Rattle.cep_step.specs.declared.limit.Limit.TheVariants as limit
use Rattle.cep_step.specs.Passing.{Passes}
use Rattle.cep_step.specs.Deeds.{Position, Deed, AreDeeds}
use Rattle.cep_lines.specs.declared.end_word.EndWord.{EndWord}
use Rattle.cep_lines.specs.declared.end_word.EndWord.TheVariants.{Quiet, Input, Turns, Offers, Typed, Atom, State}
use Rattle.cep_run.specs.declared.choice.Choice.{Choice}
use Rattle.cep_run.specs.declared.choice.Choice.TheVariants.{Place, NoMore, NoRoom}
use Rattle.cep_run.specs.declared.settings.Settings.{Settings}
use Rattle.cep_run.specs.Choice.{Hears}
use Rattle.cep_run.specs.Deciding.{Supply}
use Rattle.cep_run.specs.Run.{Question, Turn, IsTurn, EndsAt, unproved}
use Rattle.cep_round.specs.Rounds.{AreAdmitted, admitted, IsRound}

-- All players choose at once: the stage is interactive, and its own rules are asked.
pub record IsForAll (program : Parts) (height : ℕ) (at : Position) : Type 0 where
  pub interactive : IsSomeAnd (slice_get program.stages at.spot.stage)
      (λ stage. stage.interactive ≡ true)
  pub asked : IsAsked program height at.spot.state at.spot.stage (own_group at.spot.stage)

-- What was heard of one player, and the place that this player chose, counted from 1.
pub record Hearing : Type 0 where
  pub events : List Event
  pub place : ℕ

-- Of one player a choice among n offers is heard, from one supply to the other.
abbrev pub IsHeard : ℕ → Supply → List Event → Choice → Supply → Type 0
IsHeard n from events choice to =
    Hears n from.come from.taken events choice to.come to.taken × (to.drawn ≡ from.drawn)

-- Players choose among n offers, one after another, from one supply to the other.
abbrev pub AreHeard : ℕ → Supply → List Hearing → Supply → Type 0
AreHeard n from [] to = to ≡ from
AreHeard n from (hearing ∷ hearings) to =
    (between : Supply) × IsHeard n from hearing.events (Place hearing.place) between
    × AreHeard n between hearings to

-- Each player chose the offer beside what was heard of that player.
abbrev pub HaveChosen : List Offer → List Hearing → List Offer → Type 0
HaveChosen offers hearings chosen =
    AllZip (λ hearing offer. slice_get offers (hearing.place - 1) ≡ Some offer) hearings chosen

-- A round: the offers that are listed, what was heard, the offers that were chosen, which of them
-- are admitted, and what was done.
pub record Round : Type 0 where
  pub offers : List Offer
  pub hearings : List Hearing
  pub chosen : List Offer
  pub flags : List Bool
  pub deeds : List Deed

-- The offers of a round are listed here: turns remain, all choose at once, and the offers are those
-- of the stage's own rules and not too many.
pub record IsListedHere (program : Parts) (settings : Settings) (at : Position)
    (offers : List Offer) : Type 0 where
  pub remain : at.turns < settings.limit
  pub for_all : IsForAll program settings.height at
  pub offered : AreOffers program settings.height at.spot.state (own_group at.spot.stage) offers
  pub few : length offers ≤ MOST_OFFERS

-- Each of so many players chooses here, and the flags say whose offers are admitted.
pub record IsChosenHere (program : Parts) (settings : Settings) (players : ℕ) (at : Position)
    (from : Supply) (round : Round) (to : Supply) : Type 0 where
  pub listed : IsListedHere program settings at round.offers
  pub of_each : length round.hearings ≡ players
  pub heard : AreHeard (length round.offers) from round.hearings to
  pub chosen : HaveChosen round.offers round.hearings round.chosen
  pub flagged : AreAdmitted program at.spot.state finite.empty round.chosen round.flags

-- A round is done: each player chooses, and the admitted offers are done one after another, in order
-- of the players, as lawful deeds, for each of which a turn remains.
pub record IsRoundDone (program : Parts) (settings : Settings) (players : ℕ) (at : Position)
    (from : Supply) (round : Round) (last : Position) (to : Supply) : Type 0 where
  pub choice : IsChosenHere program settings players at from round to
  pub done : AreDeeds program settings.height at round.deeds last
  pub all : map (λ deed. deed.offer) round.deeds ≡ admitted round.chosen round.flags
  pub remain : last.turns ≤ settings.limit

-- What a run in rounds consists of: a turn as for one player, or a round, with where it led and the
-- supply that it left.
pub data TurnOrRound : Type 0 where
  a_turn : Turn → TurnOrRound
  a_round : Round → Position → Supply → TurnOrRound

-- what was done in it
abbrev pub done_in : TurnOrRound → List Deed
done_in (a_turn turn) = turn.deed ∷ []
done_in (a_round round last to) = round.deeds

-- what was done in all of them
abbrev pub all_done : List TurnOrRound → List Deed
all_done parts = flat_map done_in parts

-- Turns and rounds are done one after another, from a position with a supply to the last of them: a
-- turn only where not all choose at once.
abbrev pub AreTurnsAndRounds : Parts → Settings → ℕ → Position → Supply → List TurnOrRound → Position → Supply → Type 0
AreTurnsAndRounds program settings players at from [] last to = (last ≡ at) × (to ≡ from)
AreTurnsAndRounds program settings players at from (a_turn turn ∷ parts) last to =
    IsTurn program settings at from turn × ¬ IsForAll program settings.height at
    × AreTurnsAndRounds program settings players turn.deed.after turn.left parts last to
AreTurnsAndRounds program settings players at from (a_round round here left ∷ parts) last to =
    IsRoundDone program settings players at from round here left
    × AreTurnsAndRounds program settings players here left parts last to

-- The state after each of the rounds is the one to which its admitted offers lead together from the
-- state before it.
abbrev pub AreTogether : Parts → Position → List TurnOrRound → Type 0
AreTogether program at [] = Unit {0}
AreTogether program at (a_turn turn ∷ parts) = AreTogether program turn.deed.after parts
AreTogether program at (a_round round last to ∷ parts) =
    IsRound program round.chosen round.flags at.spot.state last.spot.state
    × AreTogether program last parts

-- How a run in rounds ends: as a run for one player does, maybe after a last question; at a player
-- of whom no choice is heard, with the offers, what was heard of those before, and what came of it;
-- or at an admitted offer of a round that cannot be done, after those before it.
pub data EndOfRounds : Type 0 where
  of_turn : Option Question → EndOfRounds
  of_player : List Offer → List Hearing → List Event → Choice → EndOfRounds
  of_offer : Round → EndOfRounds

-- what was done of a last round
abbrev pub done_before : EndOfRounds → List Deed
done_before (of_turn asked) = []
done_before (of_player offers hearings events choice) = []
done_before (of_offer round) = round.deeds

-- rounds, what a run consists of, and how it ends, without the derivations of what is done
abbrev pub unproved_round : Round → Round
unproved_round round =
    record round { deeds = map (λ (deed : Deed). record deed { proofs = [] }) round.deeds }

abbrev pub unproved_part : TurnOrRound → TurnOrRound
unproved_part (a_turn turn) = a_turn (unproved turn)
unproved_part (a_round round last to) = a_round (unproved_round round) last to

abbrev pub unproved_end : EndOfRounds → EndOfRounds
unproved_end (of_turn asked) = of_turn asked
unproved_end (of_player offers hearings events choice) = of_player offers hearings events choice
unproved_end (of_offer round) = of_offer (unproved_round round)

-- No more is typed, or no more may be.
abbrev pub IsCutOff : Choice → EndWord → Type 0
IsCutOff (Place place) word = ⊥
IsCutOff NoMore word = word ≡ Input
IsCutOff NoRoom word = word ≡ Typed

-- An offer of this rule with these values cannot be done here, for a named reason: all turns are
-- done; or one remains, and the step passes the limit of an atom, or of a state.
abbrev pub CannotBeDone : Parts → ℕ → Position → Rule → List Tree → EndWord → Type 0
CannotBeDone program most at rule values Quiet = ⊥
CannotBeDone program most at rule values Input = ⊥
CannotBeDone program most at rule values Turns = at.turns ≡ most
CannotBeDone program most at rule values Offers = ⊥
CannotBeDone program most at rule values Typed = ⊥
CannotBeDone program most at rule values Atom =
    (at.turns < most) × Passes program.signature rule values at.spot.state limit.Atom
CannotBeDone program most at rule values State =
    (at.turns < most) × Passes program.signature rule values at.spot.state limit.State

-- Of a round some admitted offers are done, and then one cannot be.
pub record StopsInRound (program : Parts) (settings : Settings) (at : Position) (round : Round)
    (word : EndWord) (last : Position) : Type 0 where
  pub done : AreDeeds program settings.height at round.deeds last
  pub next : Offer
  pub rule : Rule
  pub later : List Offer
  pub in_order : admitted round.chosen round.flags ≡ map (λ deed. deed.offer) round.deeds ++ next ∷ later
  pub of_rule : slice_get program.rules next.rule ≡ Some rule
  pub stops : CannotBeDone program settings.limit last rule next.values word

-- Some players chose, and of the next one no choice is heard.
pub record StopsAtPlayer (program : Parts) (settings : Settings) (players : ℕ) (at : Position)
    (from : Supply) (offers : List Offer) (hearings : List Hearing) (events : List Event)
    (choice : Choice) (to : Supply) : Type 0 where
  pub listed : IsListedHere program settings at offers
  pub fewer : length hearings < players
  pub between : Supply
  pub before : AreHeard (length offers) from hearings between
  pub heard : IsHeard (length offers) between events choice to

-- A run in rounds ends here with a word, and the last position is where what is done of its last
-- round leads.
abbrev pub EndsInRounds : Parts → Settings → ℕ → Position → Supply → EndWord → EndOfRounds → Position → Supply → Type 0
EndsInRounds program settings players at from word (of_turn asked) last to =
    EndsAt program settings at from word asked to
    × IfSome asked (λ question. ¬ IsForAll program settings.height at) × (last ≡ at)
EndsInRounds program settings players at from word (of_player offers hearings events choice) last to =
    StopsAtPlayer program settings players at from offers hearings events choice to
    × IsCutOff choice word × (last ≡ at)
EndsInRounds program settings players at from word (of_offer round) last to =
    IsChosenHere program settings players at from round to
    × StopsInRound program settings at round word last

-- A run in rounds: its turns and rounds, how it ended, the last position, and what is left.
pub record RunsInRounds (program : Parts) (settings : Settings) (players : ℕ) (at : Position)
    (from : Supply) (parts : List TurnOrRound) (end : EndOfRounds) (word : EndWord)
    (last : Position) (to : Supply) : Type 0 where
  pub here : Position
  pub between : Supply
  pub done : AreTurnsAndRounds program settings players at from parts here between
  pub ends : EndsInRounds program settings players here between word end last to
