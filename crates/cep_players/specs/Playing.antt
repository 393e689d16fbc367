-- Private.
-- What a part of a run in rounds says and does: words for the functions that do it.
use Rattle.std.specs.Prelude.{◌≡◌, ◌⊎◌, ℕ, ◌+◌, ◌<◌, List, ◌++◌, length}
use Rattle.std.specs.List.{flat_map}
use Rattle.cep_base.specs.declared.console.Event.{Event}
use Rattle.cep_base.specs.Talk.{outs}
use Rattle.cep_rule.specs.declared.parts.Parts.{Parts}
use Rattle.cep_rule.specs.declared.offer.Offer.{Offer}
use Rattle.cep_step.specs.Deeds.{Position}
use Rattle.cep_lines.specs.Lines.{end_lines}
use Rattle.cep_run.specs.declared.settings.Settings.{Settings}
use Rattle.cep_lines.specs.declared.end_word.EndWord.{EndWord}
use Rattle.cep_run.specs.declared.choice.Choice.{Choice}
use Rattle.cep_run.specs.declared.deciding.Spent.{Spent}
use Rattle.cep_run.specs.Deciding.{Supply}
use Rattle.cep_run.specs.Turn.{supply_with}
use Rattle.cep_players.specs.Runs.{Hearing, IsHeard, AreHeard, HaveChosen, IsCutOff, TurnOrRound, EndOfRounds, RunsInRounds}
use Rattle.cep_players.specs.Dialogues.{choose_line, hearing_events, part_events, last_part_events}

-- So many players are asked, one after another, and each chooses one of the offers.
pub record AllChoose (players : ℕ) (offers picked : List Offer) (old new : Spent)
    (come : List ℕ) (events : List Event) (rest : List ℕ) : Type 0 where
  pub hearings : List Hearing
  pub of_each : length hearings ≡ players
  pub heard : AreHeard (length offers) (supply_with come old) hearings (supply_with rest new)
  pub chosen : HaveChosen offers hearings picked
  pub written : events ≡ hearing_events 1 hearings

-- Fewer players choose, and of the next one no choice is heard, for which the word stands.
pub record OneDoesNot (players : ℕ) (offers : List Offer) (word : EndWord) (old new : Spent)
    (come : List ℕ) (events : List Event) (rest : List ℕ) : Type 0 where
  pub hearings : List Hearing
  pub last : List Event
  pub choice : Choice
  pub fewer : length hearings < players
  pub between : Supply
  pub before : AreHeard (length offers) (supply_with come old) hearings between
  pub heard : IsHeard (length offers) between last choice (supply_with rest new)
  pub cut_off : IsCutOff choice word
  pub written : events ≡ hearing_events 1 hearings ++ (outs (choose_line (length hearings + 1)) ++ last)

-- players are asked: all choose, or one does not
abbrev pub ChooseSome : ℕ → List Offer → Spent → List ℕ → List Event → List ℕ → Type 0
ChooseSome players offers old come events rest =
    ((chosen : List Offer) × (new : Spent) × AllChoose players offers chosen old new come events rest)
    ⊎ ((word : EndWord) × (new : Spent) × OneDoesNot players offers word old new come events rest)

-- the events of a run in rounds
abbrev pub events_of_rounds : Parts → List TurnOrRound → EndOfRounds → EndWord → Position
    → List Event
events_of_rounds program parts end word last = flat_map (part_events program) parts
    ++ (last_part_events program end ++ outs (end_lines program.signature word last.spot.state))

-- these are the events of a run in rounds from a position with a supply
abbrev pub IsRunInRounds : Parts → Settings → ℕ → Position → Supply → List Event → Supply → Type 0
IsRunInRounds program settings players at from events to =
    (parts : List TurnOrRound) × (end : EndOfRounds) × (word : EndWord) × (last : Position)
    × RunsInRounds program settings players at from parts end word last to
    × (events ≡ events_of_rounds program parts end word last)
