-- What the command promises where the console failed or memory ran out: what was said and heard until then is the beginning of something that is due.
use Rattle.std.specs.Prelude.{◌≡◌, ℕ, List, ◌++◌, take, Some}
use Rattle.cep_base.specs.declared.console.Event.{Event}
use Rattle.cep_base.specs.Files.{Files}
use Rattle.cep_run.specs.Fronts.{LeavesUnheard}
use Rattle.cep_examine.specs.Exchange.{Loaded, IsUnread, AskedFor}
use Rattle.cep_play.specs.Outside.{Due}
use Rattle.cep_play.specs.Due.{IsDue, IsDueAtAll}

-- Something is due of the words: what was said and heard is a prefix of its events, what was heard is gone from the bytes to come, and the names that were asked are a prefix of its names.
pub record BeginsWhatIsDue (words : List (List ℕ)) (loads : Loaded) (come : List ℕ) (events : List Event) (rest : List ℕ) : Type 0 where
  pub due : Due
  pub is : IsDueAtAll words (IsUnread loads) (record { files = loads.files; come = come }) due
  pub missing : List Event
  pub said : events ++ missing ≡ due.events
  pub left : LeavesUnheard come events rest
  pub size : ℕ
  pub names : AskedFor loads (take size due.names)

-- Where the files are told, the names that were asked are a prefix of the names of whatever is due of the words.
abbrev pub AsksPrefixOfAll : List (List ℕ) → Loaded → Type 0
AsksPrefixOfAll words loads =
    (held : Files) → loads.files ≡ Some held → (come : List ℕ) (due : Due)
    → IsDue words (record { files = loads.files; come = come }) due → (size : ℕ) × AskedFor loads (take size due.names)
