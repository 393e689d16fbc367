-- Private.
-- What the parts of the command come to.
use Rattle.std.specs.Prelude.{◌≡◌, ◌≢◌, ◌⊎◌, ℕ, ◌≤◌, List, [], ◌∷◌, Option, None, Some}
use Rattle.cep_base.specs.declared.console.ConsoleFault.{ConsoleFault}
use Rattle.cep_base.specs.declared.console.ConsoleFault.TheVariants as faults
use Rattle.cep_rule.specs.declared.parts.Parts.{Parts}
use Rattle.cep_lines.specs.declared.end_word.EndWord.{EndWord}
use Rattle.cep_world.specs.World.{world}
use Rattle.cep_words.specs.declared.options.Options.{Options}
use Rattle.cep_words.specs.Words.{Request, Play, AskFor}
use Rattle.cep_base.specs.declared.console.Event.{Event}
use Rattle.cep_run.specs.declared.settings.Settings.{Settings}
use Rattle.cep_run.specs.declared.tally.Tally.{Tally}
use Rattle.cep_run.specs.Said.{IsSaid, IsSomeSaid, IsTally}
use Rattle.cep_players.specs.Said.{IsSaidInRounds, IsSomeSaidInRounds}
use Rattle.cep_play.specs.Counted.{RoseByRun, RoseByRequest, RoseByAll, OfTour}
use Rattle.cep_play.specs.declared.reply.Reply.{Reply}
use Rattle.cep_play.specs.declared.reply.Reply.TheVariants as reply
use Rattle.cep_examine.specs.Exchange.{Talked, Loaded, IsUnread, AskedFor, Went, IsRead}
use Rattle.cep_examine.specs.Loading.{OfFile, IsSpelledBy, IsRefusal}
use Rattle.cep_play.specs.Command.{AsksFor, settings_of}
use Rattle.cep_examine.specs.Report.{Report}
use Rattle.cep_play.specs.Outside.{report_due}
use Rattle.cep_examine.specs.DeadRules.{ReportsDead}
use Rattle.cep_play.specs.World.{ReportsWorld}
use Rattle.cep_play.specs.Due.{IsDueOf, IsDueAtAll, IsDueUnreadOf}
use Rattle.cep_play.specs.Answered.{DoesWhatIsDue, IsNoDialogue, IsSpelled, IsWritten, AsksAsSaid}

-- Something was begun before this fault; or, if memory ran out, nothing was done.
abbrev pub InVain : ConsoleFault → (begun nothing : Type 0) → Type 0
InVain faults.Failed begun nothing = begun
InVain (faults.Memory error) begun nothing = begun ⊎ nothing

-- The status is 7 if a file could not be read, and else 5 or less.
pub data ComesWith (loads : Loaded) (code : ℕ) : Type 0 where
  all_read : code ≤ 5 → IsRead loads → ComesWith loads code
  one_unread : code ≡ 7 → IsUnread loads → ComesWith loads code

-- the dead rules of the program in a file are reported
abbrev pub ReportsDeadIn : Loaded → List ℕ → Report → Type 0
ReportsDeadIn loads file report = (program : Parts) × OfFile loads.files file (IsSpelledBy program) × IsRead loads × ReportsDead program report

-- what is said is a dialogue of the program with this tally, and the counter rose by its run
abbrev pub IsRunSaid : Parts → Settings → ℕ → ℕ → Tally → List ℕ → List Event → List ℕ → Type 0
IsRunSaid program settings ticks ticks' tally =
    IsSaid program settings
    (λ turns ending. IsTally turns ending tally × RoseByRun program settings ticks ticks' turns ending)

-- What is said is a dialogue that ends with the word, of one player, whose run the counter rose by; or of several in rounds.
abbrev pub IsPlaySaid : Option ℕ → Parts → Settings → ℕ → ℕ → EndWord → List ℕ → List Event → List ℕ → Type 0
IsPlaySaid None program settings ticks ticks' word =
    IsSaid program settings (λ turns ending. (ending.word ≡ word) × RoseByRun program settings ticks ticks' turns ending)
IsPlaySaid (Some players) program settings ticks ticks' word = IsSaidInRounds program settings players word

-- what is said is a dialogue, of one player or of several in rounds
abbrev pub IsSomePlaySaid : Option ℕ → Parts → Settings → List ℕ → List Event → List ℕ → Type 0
IsSomePlaySaid None program settings = IsSomeSaid program settings
IsSomePlaySaid (Some players) program settings = IsSomeSaidInRounds program settings players

-- a run of one player with nothing typed and nothing heard
abbrev pub IsSilentRun : Parts → Settings → ℕ → ℕ → Tally → Type 0
IsSilentRun program settings ticks ticks' tally =
    (events : List Event) × (rest : List ℕ) × IsRunSaid program settings ticks ticks' tally [] events rest

-- this is reported of the program of the world of so many rooms, and the counter rose by its run
abbrev pub ReportsRun : ℕ → Options → Parts → ℕ → ℕ → Report → Type 0
ReportsRun rooms options program ticks ticks' report =
    ReportsWorld rooms options program report
    × OfTour program (settings_of program options)
    (RoseByRun program (settings_of program options) ticks ticks')

-- this is reported of the world of so many rooms
abbrev pub ReportsTour : ℕ → Options → ℕ → ℕ → Report → Type 0
ReportsTour rooms options ticks ticks' report =
    IsRefusal (world rooms) report
    ⊎ ((program : Parts) × IsSpelledBy program (world rooms) × ReportsRun rooms options program ticks ticks' report)

-- a report is due of a request, whatever is to be typed, with these names asked
abbrev pub IsDueAnyway : Request → Loaded → List (List ℕ) → Report → Type 0
IsDueAnyway request loads names report =
    (come : List ℕ) → IsDueOf request (record { files = loads.files; come = come }) (report_due report names come)
    ⊎ (IsUnread loads × IsDueUnreadOf request (record { files = loads.files; come = come }) (report_due report names come))

-- A report is due of a request, its status is that of no dialogue, and the counter rose so.
pub record IsReportOf (request : Request) (loads : Loaded) (ticks ticks' : ℕ) (report : Report) : Type 0 where
  pub names : List (List ℕ)
  pub due : IsDueAnyway request loads names report
  pub asked : AskedFor loads names
  pub as_said : AsksFor loads request
  pub comes : ComesWith loads report.code
  pub alone : (file : List ℕ) (options : Options) → request ≡ Play file options → (report.code ≢ 0) × (report.code ≢ 4)
  pub rose : (talk : Talked) → (report.code ≡ 0) ⊎ (report.code ≡ 4) → RoseByRequest talk loads.files ticks ticks' request

-- The same of words.
pub record IsReportOn (words : List (List ℕ)) (loads : Loaded) (ticks ticks' : ℕ) (report : Report) : Type 0 where
  pub names : List (List ℕ)
  pub due : (come : List ℕ) → IsDueAtAll words (IsUnread loads) (record { files = loads.files; come = come }) (report_due report names come)
  pub asked : AskedFor loads names
  pub as_said : AsksAsSaid words loads
  pub comes : ComesWith loads report.code
  pub alone : IsNoDialogue words report.code
  pub rose : (talk : Talked) → (report.code ≡ 0) ⊎ (report.code ≡ 4) → RoseByAll talk loads.files ticks ticks' words

-- The words ask for this program to be played with these options.
pub record IsToPlay (words : List (List ℕ)) (loads : Loaded) (program : Parts) (options : Options) : Type 0 where
  pub file : List ℕ
  pub ask : AskFor words (Play file options)
  pub is_in : OfFile loads.files file (IsSpelledBy program)
  pub asked : AskedFor loads (file ∷ [])
  pub read : IsRead loads

-- what words come to before anything is written
abbrev pub IsReply : List (List ℕ) → Loaded → ℕ → ℕ → Reply → Type 0
IsReply words loads ticks ticks' (reply.Report report) = IsReportOn words loads ticks ticks' report
IsReply words loads ticks ticks' (reply.Dialogue program options) = IsToPlay words loads program options × (ticks' ≡ ticks)

-- The command did what is due of its words, with a status that says so, and the counter rose so.
pub record CommandDid (words : List (List ℕ)) (talk : Talked) (loads : Loaded) (ticks ticks' : ℕ) (code : ℕ) : Type 0 where
  pub answered : Went talk (DoesWhatIsDue words loads code)
  pub written : IsNoDialogue words code → IsWritten words talk loads code
  pub spelled : IsSpelled words loads.files code
  pub as_said : AsksAsSaid words loads
  pub comes : ComesWith loads code
  pub rose : (code ≡ 0) ⊎ (code ≡ 4) → RoseByAll talk loads.files ticks ticks' words
