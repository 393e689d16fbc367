-- What is accepted can have been played.
use Rattle.std.specs.Prelude.{◌≡◌, ℕ, List, Option}
use Rattle.cep_base.specs.Files.{Files}
use Rattle.cep_rule.specs.declared.parts.Parts.{Parts}
use Rattle.cep_ground.specs.Texts.{Spells}
use Rattle.cep_words.specs.declared.request.Task.TheVariants.{Check}
use Rattle.cep_words.specs.Words.{Examine, AskFor}
use Rattle.cep_rule.specs.Steps.{Spot, start_spot}
use Rattle.cep_log.specs.declared.log.Log.{Log}
use Rattle.cep_run.specs.declared.settings.Settings.{Settings}
use Rattle.cep_replay.specs.Playing.{AreTypedFor, CanBePlayed, IsReplayed, AreInteractive, HaveFewOffers}
use Rattle.cep_examine.specs.Check.{IsLegalTranscript}
use Rattle.cep_play.specs.Answered.{IsOnShelf}

-- Some bytes can be typed for the steps of a log, if each stage is interactive and no step is one of
-- too many offers.
abbrev pub CanBeTyped : Parts → Log → Type 0
CanBeTyped program log =
    (settings : Settings) → AreInteractive program → settings.height ≡ log.height
    → HaveFewOffers program log.height (start_spot program) log.steps
    → (typed : List ℕ) × (last : Spot)
    × AreTypedFor program settings (start_spot program) log.steps 0 typed last

-- The bytes have a legal log. Whatever answers its steps replays it: typed in a run with these
-- settings, it does what the log says. And nothing but a seed keeps it from being answered.
abbrev pub CanHaveBeenPlayed : Parts → List ℕ → Type 0
CanHaveBeenPlayed program bytes =
    (log : Log) × IsLegalTranscript program bytes log
    × ((settings : Settings) (typed : List ℕ)
    → CanBePlayed program settings log typed → IsReplayed program settings log typed)
    × CanBeTyped program log

-- If the words ask for a transcript to be checked, which is on the shelf with its program, it can
-- have been played.
abbrev pub ChecksWhatCanHaveBeenPlayed : List (List ℕ) → Option Files → Type 0
ChecksWhatCanHaveBeenPlayed words files =
    (file log text bytes : List ℕ) (program : Parts) → AskFor words (Examine Check file log)
    → IsOnShelf files file text → Spells text program → IsOnShelf files log bytes
    → CanHaveBeenPlayed program bytes
