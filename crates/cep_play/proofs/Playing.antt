-- What holds of a dialogue of one player and of several alike, that it is one, and that a transcript can have been played.
use Rattle.std.proofs.Common.{◌≡◌, ℕ, ◌<◌, List, [], ◌∷◌, ◌++◌, refl, sym, subst, arith, Option, None, Some, inl, inr, ap, ◌∙◌, ⊎_elim}
use Rattle.std.specs.List.{AllByRecursion}
use Rattle.std.specs.Prelude.{Contains}
use Rattle.cep_rule.specs.declared.parts.Parts.{Parts}
use Rattle.cep_rule.specs.Program.{IsProgram}
use Rattle.cep_base.specs.declared.console.Event.{Event}
use Rattle.cep_base.specs.Files.{Files, HasFile}
use Rattle.cep_base.proofs.Lists.{some_same}
use Rattle.cep_step.specs.Deeds.{Position}
use Rattle.cep_lines.specs.declared.end_word.EndWord.{EndWord}
use Rattle.cep_players.specs.Runs.{TurnOrRound, EndOfRounds}
use Rattle.cep_players.specs.Dialogues.{DialogueInRounds}
use Rattle.cep_words.specs.declared.options.Options.{Options}
use Rattle.cep_words.specs.declared.run_option.RunOption.TheVariants.{Players}
use Rattle.cep_words.specs.declared.request.Task.{Task}
use Rattle.cep_words.specs.declared.request.Task.TheVariants.{Check}
use Rattle.cep_words.specs.Words.{IsInBounds, asked_if, AreWithin, Request, Play, Examine, Dead, World}
use Rattle.cep_ground.specs.Texts.{Spells}
use Rattle.cep_run.specs.declared.settings.Settings.{Settings}
use Rattle.cep_run.specs.declared.tally.Tally.{Tally}
use Rattle.cep_run.specs.Run.{Turn, Ending}
use Rattle.cep_run.specs.Dialogue.{Dialogue}
use Rattle.cep_run.specs.Said.{IsSaid}
use Rattle.cep_examine.specs.Exchange.{Talked, Went}
use Rattle.cep_play.specs.Counted.{RoseByPlay}
use Rattle.cep_play.specs.Play.{IsDialogueOf, IsDialogueDue}
use Rattle.cep_examine.specs.Loading.{OfFile}
use Rattle.cep_play.specs.Command.{settings_of}
use Rattle.cep_play.specs.Answered.{EndsWith, ReportsBy, TellsAllThatIsDue}
use Rattle.cep_play.specs.Outcome.{IsRunSaid, IsPlaySaid, IsSomePlaySaid}
use Rattle.cep_examine.specs.Reports.{Reports}
use Rattle.cep_world.specs.World.{world}
use Rattle.cep_play.specs.Due.{IsDueOf, IsDue}
use Rattle.cep_examine.proofs.Statuses.{code}
use Rattle.cep_play.proofs.Reported.{OneStatus, IsOneRequest}
use Rattle.cep_play.specs.Outside.{Outside, Due, IsReportDue, OfText}
use Rattle.cep_examine.specs.Report.{Report, code_told}
use Rattle.cep_examine.specs.DeadRules.{ReportsDead}
use Rattle.cep_play.specs.World.{ReportsWorld}
use Rattle.cep_log.specs.declared.log.Log.{Log}
use Rattle.cep_log.specs.Legal.{IsLegal}
use Rattle.cep_replay.specs.Playing.{CanBePlayed, IsReplayed}
use Rattle.cep_play.specs.Playable.{CanBeTyped, CanHaveBeenPlayed, ChecksWhatCanHaveBeenPlayed}

-- What holds of a dialogue of one player and of one of several in rounds alike.

-- what holds may be told by a weaker predicate
pub went_map : (talk : Talked) (P Q : List ℕ → List Event → List ℕ → Type 0) → ((come : List ℕ) (events : List Event) (rest : List ℕ) → P come events rest → Q come events rest) → Went talk P → Went talk Q
went_map talk P Q weaker went come coming = let it = went come coming in (it.0, it.1, it.2, it.3, weaker come it.0 it.1 it.4)

-- less may be said of the turns and the end
pub said_less : (program : Parts) (settings : Settings) (P Q : List Turn → Ending → Type 0) → ((turns : List Turn) (ending : Ending) → P turns ending → Q turns ending) → (come : List ℕ) (events : List Event) (rest : List ℕ) → IsSaid program settings P come events rest → IsSaid program settings Q come events rest
said_less program settings P Q less come events rest said =
    record { turns = said.turns; ending = said.ending; dialogue = said.dialogue; holds = less said.turns said.ending said.holds; deeds = said.deeds; counted = said.counted; logged = said.logged; only = said.only; to_the_byte = said.to_the_byte }

-- one plays, where nothing says how many, or some do in rounds
abbrev pub SomePlay : Option ℕ → Type 0
SomePlay None = Unit {0}
SomePlay (Some players) = 0 < players

all_later : {A : Type 0} (P : A → Type 0) (xs ys : List A) → AllByRecursion P (xs ++ ys) → AllByRecursion P ys
all_later P [] ys all = all
all_later P (x ∷ xs) ys all = all_later P xs ys all.1

-- what options say of players is within its bounds
pub players_within : (options : Options) → AreWithin options → AllByRecursion IsInBounds (asked_if Players options.players)
players_within options within = grind (arith, all_later, options.players, options.turns, options.height, options.seed)

pub some_play : (players : Option ℕ) → AllByRecursion IsInBounds (asked_if Players players) → SomePlay players
some_play players within = grind arith

-- a run of one player that was said is a dialogue where nothing says how many play
pub run_said : (players : Option ℕ) (talk : Talked) (program : Parts) (settings : Settings) (ticks ticks' : ℕ) (tally : Tally) → players ≡ None
    → Went talk (IsRunSaid program settings ticks ticks' tally) → Went talk (IsPlaySaid players program settings ticks ticks' tally.word)
run_said players talk program settings ticks ticks' tally alone says =
    subst (λ (o : Option ℕ). Went talk (IsPlaySaid o program settings ticks ticks' tally.word)) (sym alone)
    (went_map talk _ _ (said_less program settings _ _ (λ turns ending holds. (sym holds.0.word, holds.1))) says)

-- what is said is a dialogue that is due
pub dialogue_said : (players : Option ℕ) (program : Parts) (settings : Settings) (ticks ticks' : ℕ) (word : EndWord) (come : List ℕ) (events : List Event) (rest : List ℕ)
    → IsPlaySaid players program settings ticks ticks' word come events rest → IsDialogueOf players program settings word come events rest
dialogue_said None program settings ticks ticks' word come events rest said = said_less program settings _ _ (λ turns ending holds. holds.0) come events rest said
dialogue_said (Some players) program settings ticks ticks' word come events rest said = said

-- the counter rose by it
pub rose_by_play : (players : Option ℕ) (talk : Talked) (program : Parts) (settings : Settings) (ticks ticks' : ℕ) (word : EndWord)
    → Went talk (IsPlaySaid players program settings ticks ticks' word) → RoseByPlay players talk program settings ticks ticks'
rose_by_play None talk program settings ticks ticks' word says = went_map talk _ _ (said_less program settings _ _ (λ turns ending holds. holds.1)) says
rose_by_play (Some players) talk program settings ticks ticks' word says = tt

-- whatever the word with which it ends, it ends with one
pub some_dialogue : (players : Option ℕ) (program : Parts) (settings : Settings) (come : List ℕ) (events : List Event) (rest : List ℕ)
    → IsSomePlaySaid players program settings come events rest → (word : EndWord) × IsDialogueOf players program settings word come events rest
some_dialogue None program settings come events rest said =
    (said.ending.word, record { turns = said.turns; ending = said.ending; dialogue = said.dialogue; holds = refl; deeds = said.deeds; counted = said.counted; only = said.only; logged = said.logged; to_the_byte = said.to_the_byte })
some_dialogue (Some players) program settings come events rest said = said

-- what is typed determines with which word a dialogue ends, and what is left
pub one_dialogue : (players : Option ℕ) (program : Parts) (settings : Settings) (word word' : EndWord) (come : List ℕ) (events events' : List Event) (rest rest' : List ℕ)
    → IsDialogueOf players program settings word come events rest → IsDialogueOf players program settings word' come events' rest' → (word ≡ word') × (rest ≡ rest')
one_dialogue None program settings word word' come events events' rest rest' said said' = grind (arith, said'.only said.turns said.ending events rest said.dialogue)
one_dialogue (Some players) program settings word word' come events events' rest rest' said said' = grind (arith, said'.only said.parts said.end word said.last events rest said.dialogue)

pub ends_with : (players : Option ℕ) (program : Parts) (settings : Settings) (word : EndWord) (come : List ℕ) (events : List Event) (rest : List ℕ)
    → IsDialogueOf players program settings word come events rest → EndsWith players program settings come word
ends_with None program settings word come events rest said = (said.turns, said.ending, events, rest, said.dialogue, said.holds)
ends_with (Some players) program settings word come events rest said = (said.parts, said.end, said.last, events, rest, said.dialogue)

-- whatever is typed, there is a dialogue of one player, and one of several in rounds
abbrev pub AreThere : Type 0
AreThere =
    (program : Parts) (settings : Settings) (come : List ℕ) → IsProgram program
    → (turns : List Turn) × (ending : Ending) × (events : List Event) × (rest : List ℕ) × Dialogue program settings come turns ending events rest

abbrev pub AreThereInRounds : Type 0
AreThereInRounds =
    (program : Parts) (settings : Settings) (players : ℕ) (come : List ℕ) → IsProgram program → 0 < players
    → (parts : List TurnOrRound) × (end : EndOfRounds) × (word : EndWord) × (last : Position) × (events : List Event) × (rest : List ℕ)
    × DialogueInRounds program settings players come parts end word last events rest

pub some_end : AreThere → AreThereInRounds → (players : Option ℕ) → SomePlay players → (program : Parts) (settings : Settings) (come : List ℕ) → IsProgram program
    → (word : EndWord) × EndsWith players program settings come word
some_end there in_rounds None some program settings come is = let it = there program settings come is in (it.1.word, (it.0, it.1, it.2, it.3, it.4, refl))
some_end there in_rounds (Some players) some program settings come is = let it = in_rounds program settings players come is some in (it.2, (it.0, it.1, it.3, it.4, it.5, it.6))

-- What is due of words is one but for what is written.

-- two that are due have one status, one rest and the same names
abbrev pub AreOne : Due → Due → Type 0
AreOne due other = (due.code ≡ other.code) × (due.rest ≡ other.rest) × (due.names ≡ other.names)

-- the same where both are told
both_told : (due other one two : Due) → due ≡ one → other ≡ two → AreOne one two → AreOne due other
both_told due other one two is is' are = (ap (λ (d : Due). d.code) is ∙ are.0 ∙ sym (ap (λ (d : Due). d.code) is'), ap (λ (d : Due). d.rest) is ∙ are.1 ∙ sym (ap (λ (d : Due). d.rest) is'), ap (λ (d : Due). d.names) is ∙ are.2 ∙ sym (ap (λ (d : Due). d.names) is'))

-- a text is refused, or spells a program, and then what is due goes by that
of_text : (text text' : List ℕ) (names : List (List ℕ)) (come : List ℕ) (P Q : Parts → Type 0) (due other : Due) → text ≡ text' → OfText text names come P due → OfText text' names come Q other
    → ((program program' : Parts) → Spells text program → program ≡ program' → P program → Q program' → AreOne due other) → AreOne due other
of_text text text' names come P Q due other same (inl (one, refused, e)) (inl (two, refused', e')) spelled = both_told due other _ _ e e' (ap code refused.is ∙ sym (ap code refused'.is), refl, refl)
of_text text text' names come P Q due other same (inl (one, refused, e)) (inr two) spelled = absurd (refused.no_program two.0 (subst (λ t. Spells t two.0) (sym same) two.1.0))
of_text text text' names come P Q due other same (inr one) (inl (two, refused, e)) spelled = absurd (refused.no_program one.0 (subst (λ t. Spells t one.0) same one.1.0))
of_text text text' names come P Q due other same (inr one) (inr two) spelled = spelled one.0 two.0 one.1.0 (sym (one.1.1 two.0 (subst (λ t. Spells t two.0) (sym same) two.1.0))) one.2 two.2

module _ (kept : (text : List ℕ) (program : Parts) → Spells text program → IsProgram program) (one_status : OneStatus) (files : Files) (come : List ℕ) where
  abbrev over : Outside
  over = record { files = Some files; come = come }

  one_file : (name text text' : List ℕ) → HasFile (Some files) name text → HasFile (Some files) name text' → text ≡ text'
  one_file name text text' has has' = some_same text text' (sym has ∙ has')

  plays_are_one : (file : List ℕ) (options : Options) (due other : Due) → IsDueOf (Play file options) over due → IsDueOf (Play file options) over other → AreOne due other
  plays_are_one file options due other (text, has, is) (text', has', is') = of_text text text' (file ∷ []) come (λ program. IsDialogueDue program options (file ∷ []) come due) (λ program. IsDialogueDue program options (file ∷ []) come other) due other (one_file file text text' has has') is is'
      (λ program program' spells same one two.
      let said : IsDialogueOf options.players program (settings_of program options) two.0 come other.events other.rest =
      subst (λ (p : Parts). IsDialogueOf options.players p (settings_of p options) two.0 come other.events other.rest) (sym same) two.1 in
      let ends = one_dialogue options.players program (settings_of program options) one.0 two.0 come due.events other.events due.rest other.rest one.1 said in
      (one.2 ∙ ap code_told ends.0 ∙ sym two.2, ends.1, one.3 ∙ sym two.3))

  reports_are_one : (P : Report → Type 0) (names : List (List ℕ)) (due other : Due) → ((one two : Report) → P one → P two → one.code ≡ two.code) → IsReportDue P names come due → IsReportDue P names come other → AreOne due other
  reports_are_one P names due other same (one, is, e) (two, is', e') = both_told due other _ _ e e' (same one two is is', refl, refl)

  checks_are_one : (task : Task) (file log : List ℕ) (due other : Due) → IsDueOf (Examine task file log) over due → IsDueOf (Examine task file log) over other → AreOne due other
  checks_are_one task file log due other (text, has, is) (text', has', is') = of_text text text' (file ∷ []) come
      (λ program. OfFile (Some files) log (λ bytes. IsReportDue (Reports task program bytes) (file ∷ log ∷ []) come due)) (λ program. OfFile (Some files) log (λ bytes. IsReportDue (Reports task program bytes) (file ∷ log ∷ []) come other)) due other (one_file file text text' has has') is is'
      (λ program program' spells same one two. reports_are_one (Reports task program one.0) (file ∷ log ∷ []) due other (λ r r' is is'. one_status task program one.0 r r' (kept text program spells) is is') one.2
      (subst (λ bytes. IsReportDue (Reports task program bytes) (file ∷ log ∷ []) come other) (sym (one_file log one.0 two.0 one.1 two.1)) (subst (λ (p : Parts). IsReportDue (Reports task p two.0) (file ∷ log ∷ []) come other) (sym same) two.2)))

  deads_are_one : (file : List ℕ) (due other : Due) → IsDueOf (Dead file) over due → IsDueOf (Dead file) over other → AreOne due other
  deads_are_one file due other (text, has, is) (text', has', is') = of_text text text' (file ∷ []) come (λ program. IsReportDue (ReportsDead program) (file ∷ []) come due) (λ program. IsReportDue (ReportsDead program) (file ∷ []) come other) due other (one_file file text text' has has') is is'
      (λ program program' spells same one two. reports_are_one (ReportsDead program) (file ∷ []) due other (λ r r' reports reports'. ap code reports.2 ∙ sym (ap code reports'.2)) one
      (subst (λ (p : Parts). IsReportDue (ReportsDead p) (file ∷ []) come other) (sym same) two))

  one_summary : (rooms : ℕ) (options : Options) (program : Parts) (one two : Report) → ReportsWorld rooms options program one → ReportsWorld rooms options program two → one.code ≡ two.code
  one_summary rooms options program one two (tally, tallied, is) (tally', tallied', is') =
      let said = tallied'.said in
      ap code is ∙ ap code_told ((tallied.alone said.turns said.ending tallied'.events tallied'.rest said.dialogue).word ∙ sym said.holds.word) ∙ sym (ap code is')

  tours_are_one : (rooms : ℕ) (options : Options) (due other : Due) → IsDueOf (World rooms options) over due → IsDueOf (World rooms options) over other → AreOne due other
  tours_are_one rooms options due other is is' = of_text (world rooms) (world rooms) [] come (λ program. IsReportDue (ReportsWorld rooms options program) [] come due) (λ program. IsReportDue (ReportsWorld rooms options program) [] come other) due other refl is is'
      (λ program program' spells same one two. reports_are_one (ReportsWorld rooms options program) [] due other (one_summary rooms options program) one
      (subst (λ (p : Parts). IsReportDue (ReportsWorld rooms options p) [] come other) (sym same) two))

  of_request : (request : Request) (due other : Due) → IsDueOf request over due → IsDueOf request over other → AreOne due other
  of_request (Play file options) due other = plays_are_one file options due other
  of_request (Examine task file log) due other = checks_are_one task file log due other
  of_request (Dead file) due other = deads_are_one file due other
  of_request (World rooms options) due other = tours_are_one rooms options due other

  pub one_due : IsOneRequest → (words : List (List ℕ)) (due other : Due) → IsDue words over due → IsDue words over other → AreOne due other
  one_due one words due other given given' = grind (arith, both_told, of_request, over)

-- A transcript that is accepted can have been played.

-- 0 is no status of a fault
no_zero : Contains {X = ℕ} (6 ∷ 7 ∷ 9 ∷ []) 0 → ⊥
no_zero among = grind arith

-- A legal log is replayed by what answers its steps.
abbrev pub AreReplayed : Type 0
AreReplayed = (program : Parts) (settings : Settings) (log : Log) (typed : List ℕ) → IsLegal program log → CanBePlayed program settings log typed → IsReplayed program settings log typed

-- Something answers the steps of a legal log, if no seed decides.
abbrev pub AreAnswered : Type 0
AreAnswered = (program : Parts) (log : Log) → IsProgram program → IsLegal program log → CanBeTyped program log

module _ (replayed : AreReplayed) (answered : AreAnswered) where
  accepted : (program : Parts) (bytes : List ℕ) (report : Report) → IsProgram program → report.code ≡ 0 → Reports Check program bytes report → CanHaveBeenPlayed program bytes
  accepted program bytes report is given given' = grind arith

  done : (program : Parts) (bytes : List ℕ) (status : ℕ) → IsProgram program → status ≡ 0 → ReportsBy (Reports Check program bytes) (6 ∷ 7 ∷ 9 ∷ []) status → CanHaveBeenPlayed program bytes
  done program bytes status is zero by = ⊎_elim (λ fault. absurd (no_zero (rw zero at fault))) (λ found. accepted program bytes found.0 is (sym found.2 ∙ zero) found.1) by.1

  pub checked : ((text : List ℕ) (program : Parts) → Spells text program → IsProgram program)
      → (words : List (List ℕ)) (files : Option Files) (left : Option (List ℕ)) (status : ℕ) → TellsAllThatIsDue words files left status → status ≡ 0 → ChecksWhatCanHaveBeenPlayed words files
  checked kept words files left status tells zero file log text bytes program ask on spells onlog =
      done program bytes status (kept text program spells) zero (tells (Examine Check file log) ask text program bytes on spells onlog)
