-- Private.
-- What turns, rounds and whole runs come to: words for the functions that do them.
use Rattle.std.specs.Prelude.{◌≡◌, ◌⊎◌, ℕ, ◌+◌, ◌<◌, ◌≤◌, List, [], ◌∷◌, ◌++◌, length, map, Option, Some, slice_get}
use Rattle.std.specs.List.{flat_map}
use Rattle.cep_base.specs.declared.console.Event.{Event}
use Rattle.cep_base.specs.Talk.{outs, Did}
use Rattle.cep_rule.specs.declared.rule.Rule.{Rule}
use Rattle.cep_rule.specs.declared.parts.Parts.{Parts}
use Rattle.cep_rule.specs.declared.offer.Offer.{Offer}
use Rattle.cep_step.specs.Deeds.{Position, Deed, IsDeed, AreDeeds}
use Rattle.cep_machine.specs.Configuration.{Configuration}
use Rattle.cep_lines.specs.declared.end_word.EndWord.{EndWord}
use Rattle.cep_log.specs.Holding.{lines_of_deed}
use Rattle.cep_round.specs.Orders.{IsOfferDone}
use Rattle.cep_run.specs.declared.deciding.Spent.{Spent}
use Rattle.cep_run.specs.declared.settings.Settings.{Settings}
use Rattle.cep_run.specs.declared.turn.Turned.{Turned}
use Rattle.cep_run.specs.declared.turn.Turned.TheVariants.{Done, Over}
use Rattle.cep_run.specs.Deciding.{Supply}
use Rattle.cep_run.specs.Fronts.{LeavesUnheard}
use Rattle.cep_run.specs.Run.{whole_supply}
use Rattle.cep_run.specs.Turn.{position_of, supply_with}
use Rattle.cep_players.specs.Runs.{TurnOrRound, EndOfRounds, AreTurnsAndRounds, EndsInRounds, CannotBeDone, RunsInRounds}
use Rattle.cep_players.specs.Dialogues.{part_events, last_part_events, DialogueInRounds}

-- An offer is done as a deed from one position to another, and its lines are written.
pub record DoesOffer (program : Parts) (settings : Settings) (offer : Offer) (at next : Position)
    (come : List ℕ) (events : List Event) (rest : List ℕ) : Type 0 where
  pub deed : Deed
  pub here : deed.before ≡ at
  pub leads : deed.after ≡ next
  pub of_offer : deed.offer ≡ offer
  pub lawful : IsDeed program settings.height deed
  pub remain : at.turns < settings.limit
  pub written : events ≡ outs (lines_of_deed program deed)
  pub untaken : rest ≡ come

-- An offer cannot be done here, for which the word stands, and nothing is written.
pub record CannotDo (program : Parts) (most : ℕ) (offer : Offer) (at : Position) (word : EndWord)
    (come : List ℕ) (events : List Event) (rest : List ℕ) : Type 0 where
  pub rule : Rule
  pub numbered : slice_get program.rules offer.rule ≡ Some rule
  pub stops : CannotBeDone program most at rule offer.values word
  pub unwritten : events ≡ []
  pub untaken : rest ≡ come

-- what an offer comes to: it is done, or it cannot be
abbrev pub IsOfferActed : {C M : Type 0} → (C → Option (List Event)) → (C → Option (List ℕ)) → C
    → C → Parts → Settings → Offer → Configuration M → Turned M → Type 0
IsOfferActed talk left old new program settings offer config (Done next) =
    Did talk left old new (DoesOffer program settings offer (position_of config)
    (position_of next))
IsOfferActed talk left old new program settings offer config (Over last) =
    Did talk left old new (CannotDo program settings.limit offer (position_of config) last.word)

-- where an offer leads, whether it is reported or not
abbrev pub IsOfferMoved : {M : Type 0} → Parts → Settings → Offer → Configuration M → Turned M
    → Type 0
IsOfferMoved program settings offer config (Done next) =
    IsOfferDone program settings.height config.state next.state offer
    × (next.stage ≡ config.stage) × (next.turns ≡ config.turns + 1)
    × (config.turns < settings.limit)
IsOfferMoved program settings offer config (Over last) = last.config ≡ config

-- The offer is done with further events, and leads to some position.
pub record DoesWithMore (program : Parts) (settings : Settings) (offer : Offer) (at : Position)
    (come : List ℕ) (events : List Event) (rest : List ℕ) : Type 0 where
  pub next : Position
  pub more : List Event
  pub does : DoesOffer program settings offer at next come (events ++ more) rest

-- nothing was said of an offer, or a prefix of its lines
abbrev pub BeginsOffer : Parts → Settings → Offer → Position → List ℕ → List Event → List ℕ → Type 0
BeginsOffer program settings offer at come events rest =
    ((events ≡ []) × (rest ≡ come)) ⊎ DoesWithMore program settings offer at come events rest

-- Of these offers all but the later ones are done, one after another, and their lines are written.
pub record ActsSome (program : Parts) (height : ℕ) (at here : Position) (offers later : List Offer)
    (come : List ℕ) (events : List Event) (rest : List ℕ) : Type 0 where
  pub deeds : List Deed
  pub done : AreDeeds program height at deeds here
  pub order : offers ≡ map (λ deed. deed.offer) deeds ++ later
  pub written : events ≡ outs (flat_map (lines_of_deed program) deeds)
  pub untaken : rest ≡ come

-- Some of these offers are done, and the next one cannot be.
pub record StopsAct (program : Parts) (settings : Settings) (at here : Position)
    (offers : List Offer) (word : EndWord) (come : List ℕ) (events : List Event)
    (rest : List ℕ) : Type 0 where
  pub next : Offer
  pub later : List Offer
  pub acts : ActsSome program settings.height at here offers (next ∷ later) come events rest
  pub rule : Rule
  pub numbered : slice_get program.rules next.rule ≡ Some rule
  pub stops : CannotBeDone program settings.limit here rule next.values word

-- what these offers come to: all are done, or one cannot be
abbrev pub AreActed : {C M : Type 0} → (C → Option (List Event)) → (C → Option (List ℕ)) → C → C
    → Parts → Settings → List Offer → Configuration M → Turned M → Type 0
AreActed talk left old new program settings offers config (Done next) =
    Did talk left old new (ActsSome program settings.height (position_of config)
    (position_of next) offers [])
AreActed talk left old new program settings offers config (Over last) =
    Did talk left old new (StopsAct program settings (position_of config)
    (position_of last.config) offers last.word)

-- if all these offers are done, as many turns more are done, whether it is reported or not
abbrev pub AreTurnsAdded : {M : Type 0} → Settings → List Offer → Configuration M → Turned M → Type 0
AreTurnsAdded settings offers config (Done next) =
    (next.turns ≡ config.turns + length offers) × (next.turns ≤ settings.limit)
AreTurnsAdded settings offers config (Over last) = Unit {0}

-- With further events some of these offers are done.
pub record BeginsActs (program : Parts) (settings : Settings) (at : Position)
    (offers : List Offer) (come : List ℕ) (events : List Event) (rest : List ℕ) : Type 0 where
  pub here : Position
  pub later : List Offer
  pub few : here.turns ≤ settings.limit
  pub more : List Event
  pub acts : ActsSome program settings.height at here offers later come (events ++ more) rest

-- Turns and rounds are done from one position to another, what is said is their events, and what was
-- heard is gone.
pub record DoesParts (program : Parts) (settings : Settings) (players : ℕ) (at : Position)
    (spent : Spent) (next : Position) (spent' : Spent) (come : List ℕ) (events : List Event)
    (rest : List ℕ) : Type 0 where
  pub parts : List TurnOrRound
  pub done : AreTurnsAndRounds program settings players at (supply_with come spent) parts next
      (supply_with rest spent')
  pub written : events ≡ flat_map (part_events program) parts
  pub gone : LeavesUnheard come events rest

-- A run in rounds ends here, what comes before its last lines is said, and what was heard is gone.
pub record EndsParts (program : Parts) (settings : Settings) (players : ℕ) (at : Position)
    (spent : Spent) (word : EndWord) (last : Position) (spent' : Spent) (come : List ℕ)
    (events : List Event) (rest : List ℕ) : Type 0 where
  pub end : EndOfRounds
  pub ends : EndsInRounds program settings players at (supply_with come spent) word end last
      (supply_with rest spent')
  pub written : events ≡ last_part_events program end
  pub gone : LeavesUnheard come events rest

-- what a turn or a round comes to: it is done, and at least one turn more with it; or the run ends
abbrev pub IsWent : {C M : Type 0} → (C → Option (List Event)) → (C → Option (List ℕ)) → C → C
    → Parts → Settings → ℕ → Configuration M → Spent → Spent → Turned M → Type 0
IsWent talk left old new program settings players config spent spent' (Done next) =
    Did talk left old new (DoesParts program settings players (position_of config) spent
    (position_of next) spent') × (config.turns < next.turns) × (next.turns ≤ settings.limit)
IsWent talk left old new program settings players config spent spent' (Over last) =
    Did talk left old new (EndsParts program settings players (position_of config) spent last.word
    (position_of last.config) spent')

-- All turns and rounds of a run are done, what is said is their events and what comes before its last
-- lines, and what was heard is gone.
pub record IsWholeInRounds (program : Parts) (settings : Settings) (players : ℕ)
    (at : Position) (word : EndWord) (last : Position) (come : List ℕ) (events : List Event)
    (rest : List ℕ) : Type 0 where
  pub parts : List TurnOrRound
  pub end : EndOfRounds
  pub left : Supply
  pub run : RunsInRounds program settings players at (whole_supply come) parts end word last left
  pub written : events ≡ flat_map (part_events program) parts ++ last_part_events program end
  pub rest_is : rest ≡ left.come
  pub gone : LeavesUnheard come events rest

-- these events are a dialogue in rounds that ends with the word
abbrev pub IsDialogueWith : Parts → Settings → ℕ → EndWord → List ℕ → List Event → List ℕ → Type 0
IsDialogueWith program settings players word come events rest =
    (parts : List TurnOrRound) × (end : EndOfRounds) × (last : Position)
    × DialogueInRounds program settings players come parts end word last events rest

-- these events are a dialogue in rounds
abbrev pub IsSomeDialogue : Parts → Settings → ℕ → List ℕ → List Event → List ℕ → Type 0
IsSomeDialogue program settings players come events rest =
    (word : EndWord) × IsDialogueWith program settings players word come events rest
