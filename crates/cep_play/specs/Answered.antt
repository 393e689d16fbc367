-- What the command promises of its words: what is due was done.
use Rattle.std.specs.Prelude.{◌≡◌, ◌≢◌, ◌⊎◌, ℕ, List, [], ◌∷◌, Option, None, Some, Contains}
use Rattle.std.specs.Option.{IsSomeAnd}
use Rattle.cep_base.specs.declared.console.Event.{Event}
use Rattle.cep_base.specs.Files.{Files}
use Rattle.cep_base.specs.Talk.{GoesOn}
use Rattle.cep_rule.specs.declared.parts.Parts.{Parts}
use Rattle.cep_ground.specs.Texts.{Spells}
use Rattle.cep_world.specs.World.{world}
use Rattle.cep_words.specs.declared.options.Options.{Options}
use Rattle.cep_words.specs.Words.{Request, Play, Examine, Dead, World, AskFor, HaveNoForm}
use Rattle.cep_step.specs.Deeds.{Position}
use Rattle.cep_lines.specs.declared.end_word.EndWord.{EndWord}
use Rattle.cep_run.specs.declared.settings.Settings.{Settings}
use Rattle.cep_run.specs.Run.{Turn, Ending}
use Rattle.cep_run.specs.Dialogue.{Dialogue}
use Rattle.cep_players.specs.Runs.{TurnOrRound, EndOfRounds}
use Rattle.cep_players.specs.Dialogues.{DialogueInRounds}
use Rattle.cep_examine.specs.Exchange.{Talked, Loaded, IsUnread, AskedFor}
use Rattle.cep_play.specs.Command.{OfRequest, AsksFor, AsksUpTo, settings_of}
use Rattle.cep_examine.specs.Loading.{OfFile, IsSpelledBy}
use Rattle.cep_play.specs.Outside.{Due}
use Rattle.cep_examine.specs.Report.{Report, code_told}
use Rattle.cep_examine.specs.Reports.{Reports}
use Rattle.cep_play.specs.Due.{IsDueAtAll}

-- What is due of the words was done, or what is due where a file could not be read: these are its events, this is left, its names were asked, and the status is its code.
pub record DoesWhatIsDue (words : List (List ℕ)) (loads : Loaded) (code : ℕ) (come : List ℕ) (events : List Event) (rest : List ℕ) : Type 0 where
  pub due : Due
  pub is : IsDueAtAll words (IsUnread loads) (record { files = loads.files; come = come }) due
  pub said : events ≡ due.events
  pub left : rest ≡ due.rest
  pub names : AskedFor loads due.names
  pub status : code ≡ due.code

-- The status is that of no dialogue: the words ask for no program to be played, or none was.
abbrev pub IsNoDialogue : List (List ℕ) → ℕ → Type 0
IsNoDialogue words code = (file : List ℕ) (options : Options) → AskFor words (Play file options) → (code ≢ 0) × (code ≢ 4)

-- Where the words ask for a program to be played and the status is that of a run, the file's text spells one, and no other.
abbrev pub IsSpelled : List (List ℕ) → Option Files → ℕ → Type 0
IsSpelled words files code =
    (file : List ℕ) (options : Options) → AskFor words (Play file options)
    → (code ≡ 0) ⊎ (code ≡ 4) → OfFile files file (λ text. (program : Parts) × IsSpelledBy program text)

-- What is due was written, and nothing was read, whether or not the console tells what is to be typed.
abbrev pub IsWritten : List (List ℕ) → Talked → Loaded → ℕ → Type 0
IsWritten words talk loads code =
    (come : List ℕ) → (events : List Event) × GoesOn talk.said_before events talk.said_after
    × (talk.left_after ≡ talk.left_before) × DoesWhatIsDue words loads code come events come

-- the shelf tells its files, and this one has this text
abbrev pub IsOnShelf : Option Files → List ℕ → List ℕ → Type 0
IsOnShelf files name text = IsSomeAnd files (λ file. file name ≡ Some text)

-- For what is typed there is a dialogue of the program that ends with the word: of one player, or of several in rounds.
abbrev pub EndsWith : Option ℕ → Parts → Settings → List ℕ → EndWord → Type 0
EndsWith None program settings come word =
    (turns : List Turn) × (ending : Ending) × (events : List Event) × (rest : List ℕ)
    × Dialogue program settings come turns ending events rest × (ending.word ≡ word)
EndsWith (Some players) program settings come word =
    (parts : List TurnOrRound) × (end : EndOfRounds) × (last : Position) × (events : List Event) × (rest : List ℕ)
    × DialogueInRounds program settings players come parts end word last events rest

-- There is such a dialogue, and the status says how it ends, or is one of the others.
abbrev pub EndsBy : Option ℕ → Parts → Settings → List ℕ → List ℕ → ℕ → Type 0
EndsBy players program settings come others status =
    (word : EndWord) × EndsWith players program settings come word × Contains (code_told word ∷ others) status

-- The status is that of each report that has P, and there is one, or it is one of the others.
abbrev pub ReportsBy : (Report → Type 0) → List ℕ → ℕ → Type 0
ReportsBy P others status =
    ((report : Report) → P report → Contains (report.code ∷ others) status)
    × (Contains others status ⊎ ((report : Report) × P report × (status ≡ report.code)))

-- Where the program's text spells one, and what is read and typed is told: but for faults of the outside (6 and 7) and out of memory (9) the status says how a run ends, which is there whatever is typed; and it is that of the report on a second file, and 0 if dead rules are reported.
abbrev pub TellsWhatIsDue : Request → Option Files → Option (List ℕ) → ℕ → Type 0
TellsWhatIsDue (Play file options) files left status =
    (text : List ℕ) (program : Parts) (come : List ℕ)
    → IsOnShelf files file text → Spells text program → left ≡ Some come
    → EndsBy options.players program (settings_of program options) come (6 ∷ 7 ∷ 9 ∷ []) status
TellsWhatIsDue (Examine task file log) files left status =
    (text : List ℕ) (program : Parts) (bytes : List ℕ)
    → IsOnShelf files file text → Spells text program → IsOnShelf files log bytes
    → ReportsBy (Reports task program bytes) (6 ∷ 7 ∷ 9 ∷ []) status
TellsWhatIsDue (Dead file) files left status =
    (text : List ℕ) (program : Parts) → IsOnShelf files file text → Spells text program → Contains (0 ∷ 6 ∷ 7 ∷ 9 ∷ []) status
TellsWhatIsDue (World rooms options) files left status =
    (program : Parts) → Spells (world rooms) program → EndsBy None program (settings_of program options) [] (6 ∷ 9 ∷ []) status

-- Whatever the words ask for, the status tells what is due of it so.
abbrev pub TellsAllThatIsDue : List (List ℕ) → Option Files → Option (List ℕ) → ℕ → Type 0
TellsAllThatIsDue words files left status = (request : Request) → AskFor words request → TellsWhatIsDue request files left status

-- The shelf was asked for what the words ask for, and for nothing else.
abbrev pub AsksAsSaid : List (List ℕ) → Loaded → Type 0
AsksAsSaid words loads = OfRequest words (AsksFor loads) ⊎ (HaveNoForm words × AskedFor loads [])

-- Where memory ran out it was asked for no more than that, or for nothing.
abbrev pub AsksAtMost : List (List ℕ) → Loaded → Type 0
AsksAtMost words loads = OfRequest words (AsksUpTo loads) ⊎ (loads.asked_after ≡ loads.asked_before)
