-- What is said of a run in rounds where it is played.
use Rattle.std.specs.Prelude.{◌≡◌, ℕ, ◌≤◌, List, ◌++◌, length, map}
use Rattle.cep_base.specs.declared.console.Event.{Event}
use Rattle.cep_base.specs.declared.limits.TheConstants.{MOST_LOG}
use Rattle.cep_rule.specs.declared.parts.Parts.{Parts}
use Rattle.cep_step.specs.Deeds.{Position, start_of, AreDeeds}
use Rattle.cep_lines.specs.declared.end_word.EndWord.{EndWord}
use Rattle.cep_log.specs.declared.log.Log.{Log}
use Rattle.cep_log.specs.Legal.{IsLegal}
use Rattle.cep_log.specs.Transcript.{HasLog}
use Rattle.cep_run.specs.declared.settings.Settings.{Settings}
use Rattle.cep_run.specs.Dialogue.{written_bytes}
use Rattle.cep_players.specs.Runs.{TurnOrRound, EndOfRounds, unproved_part, unproved_end, all_done, done_before, AreTogether}
use Rattle.cep_players.specs.Dialogues.{DialogueInRounds}

-- What is said is a dialogue in rounds that ends with the word: what was done are lawful deeds, from
-- the start to where it ended, and the state after each round is the one to which its admitted
-- offers lead together. What is written of it is a transcript, if it is not too long, and its log is
-- legal, with as many steps as deeds were done. What is typed allows no other dialogue but for the
-- derivations of what was done.
pub record IsSaidInRounds (program : Parts) (settings : Settings) (players : ℕ) (word : EndWord)
    (come : List ℕ) (events : List Event) (rest : List ℕ) : Type 0 where
  pub parts : List TurnOrRound
  pub end : EndOfRounds
  pub last : Position
  pub dialogue : DialogueInRounds program settings players come parts end word last events rest
  pub deeds : AreDeeds program settings.height (start_of program) (all_done parts ++ done_before end)
      last
  pub together : AreTogether program (start_of program) parts
  pub logged : length (written_bytes events) ≤ MOST_LOG → (log : Log)
      × HasLog program (written_bytes events) log × IsLegal program log
      × (length log.steps ≡ length (all_done parts ++ done_before end))
  pub only : (parts' : List TurnOrRound) (end' : EndOfRounds) (word' : EndWord) (last' : Position)
      (events' : List Event) (rest' : List ℕ)
      → DialogueInRounds program settings players come parts' end' word' last' events' rest'
      → (map unproved_part parts' ≡ map unproved_part parts) × (unproved_end end' ≡ unproved_end end)
      × (word' ≡ word) × (last' ≡ last) × (rest' ≡ rest)

-- what is said is a dialogue in rounds, whatever the word with which it ends
abbrev pub IsSomeSaidInRounds : Parts → Settings → ℕ → List ℕ → List Event → List ℕ → Type 0
IsSomeSaidInRounds program settings players come events rest =
    (word : EndWord) × IsSaidInRounds program settings players word come events rest
