-- What a command came to, or had begun, is what is due of its words, and the status tells it.
use Rattle.std.proofs.Common.{◌≡◌, inl, inr, ℕ, List, [], ◌∷◌, ◌++◌, length, take, refl, sym, ap, ◌∙◌, subst, Some, arith, ◌⊎◌, ⊎_elim, suc, ◌+◌, map, zero, ◌<◌, ◌≤◌, lit<, Contains, Option, None}
use Rattle.std.specs.Prelude.{Result, IfErr, OnErr, drop, unwrap_or}
use Rattle.std.specs.Result.{IsErrAnd}
use Rattle.std.specs.declared.alloc.AllocError.{AllocError}
use Rattle.std.proofs.Math.Seq.{take-length}
use Rattle.cep_rule.specs.declared.parts.Parts.{Parts}
use Rattle.cep_rule.specs.Program.{IsProgram}
use Rattle.cep_ground.specs.Texts.{Spells}
use Rattle.cep_base.specs.declared.console.ConsoleFault.{ConsoleFault}
use Rattle.cep_base.specs.Files.{Files, HasFile}
use Rattle.cep_base.specs.Talk.{outs}
use Rattle.cep_base.proofs.Did.{outs_cut}
use Rattle.cep_base.proofs.Lists.{some_same}
use Rattle.cep_words.specs.declared.options.Options.{Options}
use Rattle.cep_words.specs.declared.request.Task.{Task}
use Rattle.cep_words.specs.Words.{Request, Play, Examine, Dead, World, AskFor}
use Rattle.cep_run.specs.Fronts.{BeginsSome, LeavesUnheard}
use Rattle.cep_run.specs.declared.tally.Tally.{Tally}
use Rattle.cep_run.specs.Said.{IsSaid, IsTally}
use Rattle.cep_run.proofs.Framed.{outs_unheard}
use Rattle.cep_examine.specs.Exchange.{Talked, Loaded, AskedFor, Went, Wrote, IsUnread, WrotePrefix}
use Rattle.cep_play.specs.Command.{AsksUpTo, settings_of}
use Rattle.cep_examine.specs.Loading.{OfFile, IsSpelledBy}
use Rattle.cep_play.specs.Outside.{Due, report_due, Outside}
use Rattle.cep_examine.specs.Report.{Report, code_told}
use Rattle.cep_play.specs.Due.{IsDueOf, IsDueAtAll, IsDueUnreadOf}
use Rattle.cep_examine.specs.Reports.{Reports}
use Rattle.cep_play.specs.Answered.{AsksAtMost, DoesWhatIsDue, IsOnShelf, EndsWith, EndsBy, ReportsBy, TellsWhatIsDue}
use Rattle.cep_play.specs.World.{summary, IsTallied}
use Rattle.cep_play.specs.Begun.{BeginsWhatIsDue, AsksPrefixOfAll}
use Rattle.cep_lines.specs.declared.end_word.EndWord.{EndWord}
use Rattle.cep_world.specs.World.{world}
use Rattle.cep_play.specs.Outcome.{InVain, IsSomePlaySaid, IsReportOn, IsToPlay, all_read, IsPlaySaid, IsSilentRun, ReportsRun, CommandDid, ComesWith, one_unread}
use Rattle.cep_examine.proofs.Statuses.{code}
use Rattle.cep_play.proofs.Reported.{IsOneRequest, asked_due, adds_none, told_is, told_low, rose_by_all, OneStatus}
use Rattle.cep_play.proofs.Playing.{went_map, some_dialogue, said_less, dialogue_said, rose_by_play, SomePlay, players_within, some_play, ends_with, AreThere, AreThereInRounds, some_end}
use Rattle.cep_base.specs.declared.limits.TheConstants.{DEFAULT_SEED}
use Rattle.cep_base.specs.declared.console.Event.{Event}
use Rattle.cep_base.proofs.Elements.{contains_behind, contains_same}
use Rattle.cep_run.specs.Run.{Turn, Ending, unproved, offers_listed}
use Rattle.cep_run.specs.declared.settings.Settings.{Settings}
use Rattle.cep_base.specs.declared.console.ConsoleFault.TheVariants as faults

-- What a command had begun where it was cut short is the beginning of something that is due of its words.

pub cut_off : {T : Type 0} (answer : Result T ConsoleFault) (P R : Type 0) → OnErr answer P → IfErr answer (λ fault. InVain fault P R)
cut_off answer P R is = grind arith

pub out_of_memory : {T : Type 0} (answer : Result T ConsoleFault) (error : AllocError) (P R : Type 0) → IsErrAnd answer (λ fault. fault ≡ faults.Memory error) → R → IfErr answer (λ fault. InVain fault P R)
out_of_memory answer error P R is nothing = grind arith

module _ (words : List (List ℕ)) (talk : Talked) (loads : Loaded) where
  -- a report that is due was begun
  pub report_begun : (ticks ticks' : ℕ) (report : Report) → IsReportOn words loads ticks ticks' report → WrotePrefix talk report.written → Went talk (BeginsWhatIsDue words loads)
  report_begun ticks ticks' report is wrote come coming = (
    outs (take wrote.0 report.written),
    come,
    wrote.1.0,
    wrote.1.1 ∙ coming,
    record {
      due = report_due report is.names come;
      is = is.due come;
      missing = outs (drop wrote.0 report.written);
      said = outs_cut wrote.0 report.written;
      left = ap (λ heard. heard ++ come) (sym (outs_unheard (take wrote.0 report.written)));
      size = length is.names;
      names = subst (AskedFor loads) (sym (take-length is.names)) is.asked;
    },
  )

  -- a dialogue that is due was begun
  pub dialogue_begun : (program : Parts) (options : Options) → IsToPlay words loads program options
      → Went talk (λ come events rest. BeginsSome (IsSomePlaySaid options.players program (settings_of program options)) come events × LeavesUnheard come events rest) → Went talk (BeginsWhatIsDue words loads)
  dialogue_begun program options play =
      let spelled = play.is_in in
      went_map talk _ _ (λ come events rest begun.
      let said = some_dialogue options.players program (settings_of program options) come (events ++ begun.0.more) begun.0.left begun.0.whole in
      let due : Due = record { events = events ++ begun.0.more; rest = begun.0.left; code = code_told said.0; names = play.file ∷ [] } in
      record {
        due = due;
        is = inl (inr (Play play.file options, play.ask, (spelled.0, spelled.1, inr (program, spelled.2, (said.0, said.1, refl, refl)))));
        missing = begun.0.more;
        said = refl;
        left = begun.1;
        size = 1;
        names = play.asked;
      })

module _ (loads : Loaded) (held : Files) (told : loads.files ≡ Some held) (come : List ℕ) (due : Due) where
  abbrev AsksPrefix : Type 0
  AsksPrefix = (size : ℕ) × AskedFor loads (take size due.names)

  one_text : (name text other : List ℕ) → HasFile loads.files name text → HasFile loads.files name other → text ≡ other
  one_text name text other has has' = some_same text other (sym (subst (λ f. HasFile f name text) told has) ∙ subst (λ f. HasFile f name other) told has')

  prefix_of : (size : ℕ) (names : List (List ℕ)) → due.names ≡ names → AskedFor loads (take size names) → AsksPrefix
  prefix_of size names same adds = (size, subst (λ all. AskedFor loads (take size all)) (sym same) adds)

  due_prefix : (size : ℕ) (other : Due) → due ≡ other → AskedFor loads (take size other.names) → AsksPrefix
  due_prefix size other same adds = prefix_of size other.names (ap (λ (d : Due). d.names) same) adds

  asks_prefix : (request : Request) → AsksUpTo loads request → IsDueOf request (record { files = loads.files; come = come }) due → AsksPrefix
  asks_prefix (Play file options) adds (text, has, inl (report, refused, is)) = due_prefix 1 _ is adds
  asks_prefix (Play file options) adds (text, has, inr (program, spelled, said)) = prefix_of 1 (file ∷ []) said.3 adds
  asks_prefix (Examine task file log) (inl ((other, has', (program, spells)), adds)) (text, has, inl (report, refused, is)) = absurd (refused.no_program program (subst (λ t. Spells t program) (one_text file other text has' has) spells))
  asks_prefix (Examine task file log) (inl (of, adds)) (text, has, inr (program, spelled, (bytes, has', (report, reports, is)))) = due_prefix 2 _ is adds
  asks_prefix (Examine task file log) (inr adds) (text, has, inl (report, refused, is)) = due_prefix 1 _ is adds
  asks_prefix (Examine task file log) (inr adds) (text, has, inr (program, spelled, (bytes, has', (report, reports, is)))) = due_prefix 1 _ is adds
  asks_prefix (Dead file) adds (text, has, inl (report, refused, is)) = due_prefix 1 _ is adds
  asks_prefix (Dead file) adds (text, has, inr (program, spelled, (report, reports, is))) = due_prefix 1 _ is adds
  asks_prefix (World rooms options) adds (inl (report, refused, is)) = due_prefix 0 _ is adds
  asks_prefix (World rooms options) adds (inr (program, spelled, (report, reports, is))) = due_prefix 0 _ is adds

pub prefixes_asked : IsOneRequest → (words : List (List ℕ)) (loads : Loaded) → AsksAtMost words loads → AsksPrefixOfAll words loads
prefixes_asked one words loads (inr same) = λ held told come due is. (0, same ∙ adds_none loads.asked_before)
prefixes_asked one words loads (inl (request, ask, asks)) = λ held told come due is. elim is [
  | inl none ↦ absurd (none.0 request ask)
  | inr of ↦ asks_prefix loads held told come due request asks (asked_due one words request ask (λ r. IsDueOf r (record { files = loads.files; come = come }) due) of)
]

-- What a command came to is what is due of its words.

-- derivations do not count
turns_counted : (turns : List Turn) → length (map unproved turns) ≡ length turns
turns_counted [] = refl
turns_counted (turn ∷ turns) = ap suc (turns_counted turns)

offers_counted : (turns : List Turn) → offers_listed (map unproved turns) ≡ offers_listed turns
offers_counted [] = refl
offers_counted (turn ∷ turns) = ap (λ n. length turn.question.offers + n) (offers_counted turns)

-- runs that differ in derivations alone have one tally
one_tally : (tally : Tally) (turns turns' : List Turn) (ending ending' : Ending) → map unproved turns' ≡ map unproved turns → ending' ≡ ending → IsTally turns ending tally → IsTally turns' ending' tally
one_tally tally turns turns' ending ending' same end is = grind (arith, turns_counted, offers_counted)

-- the tally of a run with nothing typed is that of each other
pub tallied : (program : Parts) (options : Options) (tally : Tally) (events : List Event) (rest : List ℕ)
    → IsSaid program (settings_of program options) (λ turns ending. IsTally turns ending tally) [] events rest → IsTallied program options tally
tallied program options tally events rest said = record {
  events = events;
  rest = rest;
  said = said;
  alone = λ turns ending events' rest' other. let only = said.only turns ending events' rest' other in one_tally tally said.turns turns said.ending ending only.0 only.1 said.holds;
}

abbrev pub made : List ℕ → ℕ → Report
made written code = record { written = written; code = code }

-- its report
pub toured : (program : Parts) (rooms : ℕ) (options : Options) (ticks ticks' : ℕ) (tally : Tally) (written : List ℕ) (code : ℕ) (report : Report) → IsSilentRun program (settings_of program options) ticks ticks' tally
    → report ≡ record { written = written; code = code } → written ≡ summary rooms (unwrap_or options.seed DEFAULT_SEED) tally → code ≡ code_told tally.word → ReportsRun rooms options program ticks ticks' report
toured program rooms options ticks ticks' tally written code report (events, rest, said) is text status = (
  (tally, tallied program options tally events rest (said_less program (settings_of program options) _ _ (λ turns ending holds. holds.0) [] events rest said), is ∙ ap (λ (w : List ℕ). made w code) text ∙ ap (made _) status),
  (said.turns, said.ending, events, rest, said.dialogue, said.holds.1),
)

abbrev file_played : Request → List ℕ
file_played (Play file options) = file
file_played (Examine task file log) = file
file_played (Dead file) = file
file_played (World rooms options) = []

module _ (words : List (List ℕ)) (talk : Talked) (loads : Loaded) (ticks ticks' : ℕ) where
  -- a report that is due was written
  pub report_done : (report : Report) (code : ℕ) → IsReportOn words loads ticks ticks' report → Wrote talk report.written → code ≡ report.code → CommandDid words talk loads ticks ticks' code
  report_done report code is wrote same = subst (CommandDid words talk loads ticks ticks') (sym same) (record {
    answered = λ come coming. (outs report.written, come, wrote.0, wrote.1 ∙ coming, does come);
    written = λ _ come. (outs report.written, wrote.0, wrote.1, does come);
    spelled = λ file options ask ran. let not = is.alone file options ask in absurd (⊎_elim (λ e. not.0 e) (λ e. not.1 e) ran);
    as_said = is.as_said;
    comes = is.comes;
    rose = is.rose talk;
  }) where
    does : (come : List ℕ) → DoesWhatIsDue words loads report.code come (outs report.written) come
    does come = record { due = report_due report is.names come; is = is.due come; said = refl; left = refl; names = is.asked; status = refl }

  -- a dialogue that is due was said
  pub dialogue_done : IsOneRequest → (program : Parts) (options : Options) (word : EndWord) (code : ℕ) → code ≡ code_told word → IsToPlay words loads program options
      → Went talk (IsPlaySaid options.players program (settings_of program options) ticks ticks' word) → CommandDid words talk loads ticks ticks' code
  dialogue_done one program options word code is play says =
      let settings = settings_of program options in
      let run : (code ≡ 0) ⊎ (code ≡ 4) = subst (λ n. (n ≡ 0) ⊎ (n ≡ 4)) (sym is) (told_is word) in
      let spelled = play.is_in in
      record {
        answered = went_map talk _ _ (λ come events rest said. record {
          due = record { events = events; rest = rest; code = code; names = play.file ∷ [] };
          is = inl (inr (Play play.file options, play.ask, (spelled.0, spelled.1, inr (program, spelled.2, (word, dialogue_said options.players program settings ticks ticks' word come events rest said, is, refl)))));
          said = refl;
          left = refl;
          names = play.asked;
          status = refl;
        }) says;
        written = λ alone. let not = alone play.file options play.ask in absurd (⊎_elim (λ e. not.0 e) (λ e. not.1 e) run);
        spelled = λ other options' ask' ran. subst (λ name. OfFile loads.files name (λ text. (program : Parts) × IsSpelledBy program text)) (ap file_played (one words (Play play.file options) (Play other options') play.ask ask')) (spelled.0, spelled.1, (program, spelled.2));
        as_said = inl (Play play.file options, play.ask, play.asked);
        comes = all_read (told_low word code is) play.read;
        rose = λ _. rose_by_all talk loads.files ticks ticks' words one (Play play.file options) play.ask (program, spelled, rose_by_play options.players talk program settings ticks ticks' word says);
      }

-- The status tells what is due.

abbrev pub all_statuses : List ℕ
all_statuses = 0 ∷ 1 ∷ 2 ∷ 3 ∷ 4 ∷ 5 ∷ 6 ∷ 7 ∷ 9 ∷ []

low_among : (n : ℕ) → n ≤ 5 → Contains all_statuses n
low_among zero low = (0, lit< tt, refl)
low_among (suc zero) low = (1, lit< tt, refl)
low_among (suc (suc zero)) low = (2, lit< tt, refl)
low_among (suc (suc (suc zero))) low = (3, lit< tt, refl)
low_among (suc (suc (suc (suc zero)))) low = (4, lit< tt, refl)
low_among (suc (suc (suc (suc (suc zero))))) low = (5, lit< tt, refl)
low_among (suc (suc (suc (suc (suc (suc n)))))) low = absurd (omega (arith, low))

pub among_all : {loads : Loaded} {status : ℕ} → ComesWith loads status → Contains all_statuses status
among_all {status} (all_read low same) = low_among status low
among_all (one_unread seven unread) = subst (Contains all_statuses) (sym seven) (7, lit< tt, refl)

pub no_fault : {loads : Loaded} {status : ℕ} → ComesWith loads status → (status ≡ 6) ⊎ (status ≡ 9) → ⊥
no_fault given = grind arith

pub failed_by : {loads : Loaded} {status : ℕ} → ComesWith loads status → status ≡ 7 → IsUnread loads
failed_by (all_read low same) seven = absurd (omega (arith, low, seven))
failed_by (one_unread seven unread) _ = unread

pub fails_by : {loads : Loaded} {status : ℕ} → ComesWith loads status → loads.faults_before < loads.faults_after → Contains (6 ∷ 7 ∷ 9 ∷ []) status
fails_by given rose = grind arith

-- a status that comes by out of memory or a fault of the console
with_unread : (status : ℕ) → Contains (6 ∷ 9 ∷ []) status → Contains (6 ∷ 7 ∷ 9 ∷ []) status
with_unread status among = grind arith

-- where the files are told, a file has one text
told_text : (files : Option Files) (name text other : List ℕ) → IsOnShelf files name text → HasFile files name other → text ≡ other
told_text files name text other told has = grind (arith, some_same)

module _ (one : IsOneRequest)
    (there : AreThere) (in_rounds : AreThereInRounds)
    (is_program : (text : List ℕ) (program : Parts) → Spells text program → IsProgram program)
    (one_status : OneStatus)
    (words : List (List ℕ)) (loads : Loaded) where
  -- these statuses may come however a run ends
  ends_anyway : (players : Option ℕ) → SomePlay players → (text : List ℕ) (program : Parts) (settings : Settings) (come others : List ℕ) (status : ℕ) → Spells text program → Contains others status → EndsBy players program settings come others status
  ends_anyway players some text program settings come others status spells among = let end = some_end there in_rounds players some program settings come (is_program text program spells) in (end.0, end.1, contains_behind (code_told end.0) others status among)

  reports_anyway : (P : Report → Type 0) (others : List ℕ) (status : ℕ) → Contains others status → ReportsBy P others status
  reports_anyway P others status among = ((λ report is. contains_behind report.code others status among), inl among)

  -- these statuses may come whatever is due
  pub tells_anyway : (left : Option (List ℕ)) (request : Request) (status : ℕ) → AskFor words request → Contains (6 ∷ 9 ∷ []) status → TellsWhatIsDue request loads.files left status
  tells_anyway left (Play file options) status ask among = λ text program come told spells coming. ends_anyway options.players (some_play options.players (players_within options ask.2.0)) text program (settings_of program options) come (6 ∷ 7 ∷ 9 ∷ []) status spells (with_unread status among)
  tells_anyway left (Examine task file log) status ask among = λ text program bytes told spells there'. reports_anyway (Reports task program bytes) (6 ∷ 7 ∷ 9 ∷ []) status (with_unread status among)
  tells_anyway left (Dead file) status ask among = λ text program told spells. contains_behind 0 (6 ∷ 7 ∷ 9 ∷ []) status (with_unread status among)
  tells_anyway left (World rooms options) status ask among = λ program spells. ends_anyway None tt (world rooms) program (settings_of program options) [] (6 ∷ 9 ∷ []) status spells among

  abbrev over : List ℕ → Outside
  over come = record { files = loads.files; come = come }

  -- what is due of words is due of what they ask for
  due_of : (unread : Type 0) (request : Request) (come : List ℕ) (due : Due) → AskFor words request → IsDueAtAll words unread (over come) due → IsDueOf request (over come) due ⊎ IsDueUnreadOf request (over come) due
  due_of unread request come due ask given = grind (arith, asked_due, over)

  module _ (due : Due) (status : ℕ) (same : status ≡ due.code) where
    unread_among : (other : Due) → other.code ≡ 7 → due ≡ other → Contains (6 ∷ 7 ∷ 9 ∷ []) status
    unread_among other seven is = subst (Contains (6 ∷ 7 ∷ 9 ∷ [])) (sym (same ∙ ap (λ (d : Due). d.code) is ∙ seven)) (1, lit< tt, refl)

    -- a dialogue that is due
    plays : (file : List ℕ) (options : Options) → AskFor words (Play file options) → (text : List ℕ) (program : Parts) (come : List ℕ) → IsOnShelf loads.files file text → Spells text program
        → IsDueOf (Play file options) (over come) due ⊎ IsDueUnreadOf (Play file options) (over come) due → EndsBy options.players program (settings_of program options) come (6 ∷ 7 ∷ 9 ∷ []) status
    plays file options ask text program come told spells (inl (other, has, inl (report, refused, is))) = absurd (refused.no_program program (subst (λ t. Spells t program) (told_text loads.files file text other told has) spells))
    plays file options ask text program come told spells (inl (other, has, inr (spelled, is, (word, said, code_is, names)))) =
        let programs = is.1 program (subst (λ t. Spells t program) (told_text loads.files file text other told has) spells) in (
          word,
          subst (λ (p : Parts). EndsWith options.players p (settings_of p options) come word) (sym programs) (ends_with options.players spelled (settings_of spelled options) word come due.events due.rest said),
          contains_same (code_told word) (6 ∷ 7 ∷ 9 ∷ []) status (sym (same ∙ code_is)),
        )
    plays file options ask text program come told spells (inr is) =
        ends_anyway options.players (some_play options.players (players_within options ask.2.0)) text program (settings_of program options) come (6 ∷ 7 ∷ 9 ∷ []) status spells (unread_among _ refl is)

    -- a report on a transcript
    examines : (task : Task) (file log text : List ℕ) (program : Parts) (bytes : List ℕ) → IsOnShelf loads.files file text → Spells text program → IsOnShelf loads.files log bytes
        → IsDueOf (Examine task file log) (over []) due ⊎ IsDueUnreadOf (Examine task file log) (over []) due → ReportsBy (Reports task program bytes) (6 ∷ 7 ∷ 9 ∷ []) status
    examines task file log text program bytes told spells there' (inl (other, has, inl (report, refused, is))) = absurd (refused.no_program program (subst (λ t. Spells t program) (told_text loads.files file text other told has) spells))
    examines task file log text program bytes told spells there' (inl (other, has, inr (spelled, is, (others, has', (report, reports, e))))) =
        let programs = is.1 program (subst (λ t. Spells t program) (told_text loads.files file text other told has) spells) in
        let reported : Reports task program bytes report = subst (λ (p : Parts). Reports task p bytes report) (sym programs) (subst (λ b. Reports task spelled b report) (sym (told_text loads.files log bytes others there' has')) reports) in
        let told_so : status ≡ report.code = same ∙ ap (λ (d : Due). d.code) e in
        ((λ other it. contains_same other.code (6 ∷ 7 ∷ 9 ∷ []) status (one_status task program bytes other report (is_program text program spells) it reported ∙ sym told_so)), inr (report, reported, told_so))
    examines task file log text program bytes told spells there' (inr (inl is)) = reports_anyway (Reports task program bytes) (6 ∷ 7 ∷ 9 ∷ []) status (unread_among _ refl is)
    examines task file log text program bytes told spells there' (inr (inr (_, is))) = reports_anyway (Reports task program bytes) (6 ∷ 7 ∷ 9 ∷ []) status (unread_among _ refl is)

    -- a report on dead rules
    deads : (file text : List ℕ) (program : Parts) → IsOnShelf loads.files file text → Spells text program
        → IsDueOf (Dead file) (over []) due ⊎ IsDueUnreadOf (Dead file) (over []) due → Contains (0 ∷ 6 ∷ 7 ∷ 9 ∷ []) status
    deads file text program told spells (inl (other, has, inl (report, refused, is))) = absurd (refused.no_program program (subst (λ t. Spells t program) (told_text loads.files file text other told has) spells))
    deads file text program told spells (inl (other, has, inr (spelled, is, (report, reports, e)))) = contains_same 0 (6 ∷ 7 ∷ 9 ∷ []) status (sym (same ∙ ap (λ (d : Due). d.code) e ∙ ap code reports.2))
    deads file text program told spells (inr is) = contains_behind 0 (6 ∷ 7 ∷ 9 ∷ []) status (unread_among _ refl is)

    -- a summary that is due
    tours : (rooms : ℕ) (options : Options) (program : Parts) → Spells (world rooms) program
        → IsDueOf (World rooms options) (over []) due ⊎ IsDueUnreadOf (World rooms options) (over []) due → EndsBy None program (settings_of program options) [] (6 ∷ 9 ∷ []) status
    tours rooms options program spells (inl (inl (report, refused, is))) = absurd (refused.no_program program spells)
    tours rooms options program spells (inl (inr (spelled, is, (report, (tally, tallied, e), e')))) =
        let programs = is.1 program spells in
        let said = tallied.said in (
          said.ending.word,
          subst (λ (p : Parts). EndsWith None p (settings_of p options) [] said.ending.word) (sym programs) (said.turns, said.ending, tallied.events, tallied.rest, said.dialogue, refl),
          contains_same (code_told said.ending.word) (6 ∷ 9 ∷ []) status (ap code_told (sym said.holds.word) ∙ sym (same ∙ ap (λ (d : Due). d.code) e' ∙ ap code e)),
        )
    tours rooms options program spells (inr none) = absurd none

  module _ (talk : Talked) (ticks ticks' status : ℕ) (done : CommandDid words talk loads ticks ticks' status) where
    pub tells_what_is_due : (request : Request) → AskFor words request → TellsWhatIsDue request loads.files talk.left_before status
    tells_what_is_due (Play file options) ask = λ text program come told spells coming.
        let did = (done.answered come coming).4 in
        plays did.due status did.status file options ask text program come told spells (due_of (IsUnread loads) (Play file options) come did.due ask did.is)
    tells_what_is_due (Examine task file log) ask = λ text program bytes told spells there'.
        let did = (done.written (λ other options ask'. let same : Examine task file log ≡ Play other options = one words (Examine task file log) (Play other options) ask ask' in absurd (cc)) []).3 in
        examines did.due status did.status task file log text program bytes told spells there' (due_of (IsUnread loads) (Examine task file log) [] did.due ask did.is)
    tells_what_is_due (Dead file) ask = λ text program told spells.
        let did = (done.written (λ other options ask'. let same : Dead file ≡ Play other options = one words (Dead file) (Play other options) ask ask' in absurd (cc)) []).3 in
        deads did.due status did.status file text program told spells (due_of (IsUnread loads) (Dead file) [] did.due ask did.is)
    tells_what_is_due (World rooms options) ask = λ program spells.
        let did = (done.written (λ other options' ask'. let same : World rooms options ≡ Play other options' = one words (World rooms options) (Play other options') ask ask' in absurd (cc)) []).3 in
        tours did.due status did.status rooms options program spells (due_of (IsUnread loads) (World rooms options) [] did.due ask did.is)
