-- What is reported is due of a request, and so of words that ask for it.
use Rattle.std.proofs.Common.{◌≡◌, inl, inr, ℕ, ◌≤◌, List, ◌++◌, refl, ap, ◌∙◌, subst, arith, Option, [], ◌∷◌, ⊎_elim, append_assoc, ◌⊎◌}
use Rattle.std.specs.Prelude.{Err, Result, Ok, IfOk, OnErr}
use Rattle.std.specs.Option.{option_map}
use Rattle.std.proofs.lemmas.List.{append-nil}
use Rattle.cep_rule.specs.declared.parts.Parts.{Parts}
use Rattle.cep_rule.specs.Program.{IsProgram}
use Rattle.cep_base.specs.Files.{Files}
use Rattle.cep_lines.specs.declared.end_word.EndWord.{EndWord}
use Rattle.cep_world.specs.World.{world}
use Rattle.cep_words.specs.declared.request.Task.{Task}
use Rattle.cep_words.specs.declared.options.Options.{Options}
use Rattle.cep_words.specs.Words.{Request, Play, Examine, Dead, World, AskFor, HaveNoForm}
use Rattle.cep_examine.specs.Exchange.{Talked, Loaded, loaded, IsUnread, IsRead, AskedFor, AsksFile}
use Rattle.cep_examine.specs.Report.{Report, line_report, code_told}
use Rattle.cep_examine.specs.Unread.{no_program, no_second}
use Rattle.cep_examine.specs.Loading.{OfFile, IsProgramText, IsSpelledBy, IsRefusal, ReportsNone}
use Rattle.cep_examine.specs.Reports.{Reports, ReportsSecond}
use Rattle.cep_examine.proofs.Statuses.{code}
use Rattle.cep_play.specs.Command.{OfRequest, AsksFor, AsksUpTo, usage}
use Rattle.cep_play.specs.Outside.{report_due}
use Rattle.cep_play.specs.Answered.{AsksAsSaid, AsksAtMost}
use Rattle.cep_play.specs.Counted.{RoseByRequest, RoseByAll}
use Rattle.cep_play.specs.Outcome.{all_read, ReportsDeadIn, ReportsTour, IsDueAnyway, IsReportOf, IsReportOn}

-- words ask for one thing at most
abbrev pub IsOneRequest : Type 0
IsOneRequest = (words : List (List ℕ)) (request other : Request) → AskFor words request → AskFor words other → request ≡ other

-- what is said of some request of words is said of each
pub asked_due : IsOneRequest → (words : List (List ℕ)) (request : Request) → AskFor words request → (P : Request → Type 0) → OfRequest words P → P request
asked_due one words request ask P of = subst P (one words of.0 request of.1 ask) of.2

-- the status of a run is 0 or 4
pub told_is : (word : EndWord) → (code_told word ≡ 0) ⊎ (code_told word ≡ 4)
told_is word = grind arith

pub told_low : (word : EndWord) (code : ℕ) → code ≡ code_told word → code ≤ 5
told_low word code is = ⊎_elim (λ zero. omega (arith, is, zero)) (λ four. omega (arith, is, four)) (told_is word)

pub adds_none : (told : Option (List (List ℕ))) → told ≡ option_map (λ asked. asked ++ []) told
adds_none told = grind (arith, append-nil)

-- two names that are asked for one after the other
adds_twice : (before between after : Option (List (List ℕ))) (one other : List ℕ) → between ≡ option_map (λ asked. asked ++ one ∷ []) before → after ≡ option_map (λ asked. asked ++ other ∷ []) between → after ≡ option_map (λ asked. asked ++ one ∷ other ∷ []) before
adds_twice before between after one other first second = grind (arith, append_assoc)

-- what is reported of a second file has one status
abbrev pub OneStatus : Type 0
OneStatus = (task : Task) (program : Parts) (bytes : List ℕ) (one other : Report) → IsProgram program → Reports task program bytes one → Reports task program bytes other → one.code ≡ other.code

-- it is 5 or less
abbrev pub AreLow : Type 0
AreLow = (task : Task) (program : Parts) (bytes : List ℕ) (report : Report) → Reports task program bytes report → report.code ≤ 5

module _ (loads : Loaded) (ticks ticks' : ℕ) (report : Report) where
  -- a text is refused
  refused_of : (request : Request) (names : List (List ℕ)) (text : List ℕ) → IsRefusal text report → IsRead loads → IsDueAnyway request loads names report → AskedFor loads names → AsksFor loads request → IsReportOf request loads ticks ticks' report
  refused_of request names text refused read due asked said = grind (arith, code, refused.is)

  -- a file could not be read
  unread_of : (request : Request) (names : List (List ℕ)) (text : List ℕ) → report ≡ line_report text 7 → IsUnread loads → IsDueAnyway request loads names report → AskedFor loads names → AsksFor loads request → IsReportOf request loads ticks ticks' report
  unread_of request names text same unread due asked said = grind (arith, ap code same)

  -- the program of a request to play could not be had
  pub none_to_play : (file : List ℕ) (options : Options) → AskedFor loads (file ∷ []) → ReportsNone loads file report → IsReportOf (Play file options) loads ticks ticks' report
  none_to_play file options asked given = grind (arith, refused_of, unread_of)

  -- that of a request to examine a transcript
  pub none_to_examine : (task : Task) (file log : List ℕ) → AskedFor loads (file ∷ []) → ReportsNone loads file report → IsReportOf (Examine task file log) loads ticks ticks' report
  none_to_examine task file log asked (inl ((text, has, refused), read)) =
      refused_of (Examine task file log) (file ∷ []) text refused read (λ come. inl (text, has, inl (report, refused, refl))) asked (inr (inl (text, has, λ some. refused.no_program some.0 some.1), asked))
  none_to_examine task file log asked (inr (unread, is)) =
      unread_of (Examine task file log) (file ∷ []) no_program is unread (λ come. inr (unread, inl (ap (λ r. report_due r (file ∷ []) come) is))) asked (inr (inr unread, asked))

  -- its transcript was reported on
  transcript_of : AreLow → (task : Task) (file log : List ℕ) (program : Parts) → OfFile loads.files file (IsSpelledBy program) → AskedFor loads (file ∷ log ∷ []) → ReportsSecond loads task program log report → IsReportOf (Examine task file log) loads ticks ticks' report
  transcript_of low task file log program (text, has, spelled) asked (inl ((bytes, has', reports), read)) = record {
    names = file ∷ log ∷ [];
    due = λ come. inl (text, has, inr (program, spelled, (bytes, has', (report, reports, refl))));
    asked = asked;
    as_said = inl ((text, has, (program, spelled.0)), asked);
    comes = all_read (omega (arith, low task program bytes report reports)) read;
    alone = λ other options same. absurd cc;
    rose = λ _ _. tt;
  }
  transcript_of low task file log program (text, has, spelled) asked (inr (unread, is)) =
      let there : OfFile loads.files file IsProgramText = (text, has, (program, spelled.0)) in
      unread_of (Examine task file log) (file ∷ log ∷ []) (no_second task) is unread (λ come. inr (unread, inr (there, ap (λ r. report_due r (file ∷ log ∷ []) come) is))) asked (inl (there, asked))

  -- dead rules were reported
  pub dead_of : (file : List ℕ) → AskedFor loads (file ∷ []) → ReportsNone loads file report ⊎ ReportsDeadIn loads file report → IsReportOf (Dead file) loads ticks ticks' report
  dead_of file asked (inl (inl ((text, has, refused), read))) = refused_of (Dead file) (file ∷ []) text refused read (λ come. inl (text, has, inl (report, refused, refl))) asked asked
  dead_of file asked (inl (inr (unread, is))) = unread_of (Dead file) (file ∷ []) no_program is unread (λ come. inr (unread, ap (λ r. report_due r (file ∷ []) come) is)) asked asked
  dead_of file asked (inr (program, (text, has, spelled), read, (deads, are, is))) = record {
    names = file ∷ [];
    due = λ come. inl (text, has, inr (program, spelled, (report, (deads, are, is), refl)));
    asked = asked;
    as_said = asked;
    comes = all_read (omega (arith, ap code is)) read;
    alone = λ other options same. absurd cc;
    rose = λ _ _. tt;
  }

  -- a world was reported on
  pub tour_of : (rooms : ℕ) (options : Options) → AskedFor loads [] → IsRead loads → ReportsTour rooms options ticks ticks' report → IsReportOf (World rooms options) loads ticks ticks' report
  tour_of rooms options asked read (inl refused) = refused_of (World rooms options) [] (world rooms) refused read (λ come. inl (inl (report, refused, refl))) asked asked
  tour_of rooms options asked read (inr (program, spelled, ((tally, tallied, is), toured))) = record {
    names = [];
    due = λ come. inl (inr (program, spelled, (report, (tally, tallied, is), refl)));
    asked = asked;
    as_said = asked;
    comes = all_read (told_low tally.word report.code (ap code is)) read;
    alone = λ other options same. absurd cc;
    rose = λ _ _. (program, spelled, toured);
  }

-- The program was read, and after it the transcript was asked for.
module _ {H : Type 0} (files : H → Option Files) (asked : H → Option (List (List ℕ))) (faults : H → ℕ) (old mid new : H) (task : Task) (file log : List ℕ) (program : Parts)
    (same : files mid ≡ files old) (read : faults mid ≡ faults old) (is_in : OfFile (files old) file (IsSpelledBy program)) (first : AskedFor (loaded files asked faults old mid) (file ∷ [])) where
  abbrev whole : Loaded
  whole = loaded files asked faults old new

  both : AskedFor (loaded files asked faults mid new) (log ∷ []) → AskedFor whole (file ∷ log ∷ [])
  both second = adds_twice (asked old) (asked mid) (asked new) file log first second

  found_so : (report : Report) → ReportsSecond (loaded files asked faults mid new) task program log report → ReportsSecond whole task program log report
  found_so report found = grind arith

  pub examined : {E : Type 0} → AreLow → (ticks ticks' : ℕ) (answer : Result Report E) → AsksFile (loaded files asked faults mid new) log answer → IfOk answer (λ report. ReportsSecond (loaded files asked faults mid new) task program log report)
      → IfOk answer (λ report. IsReportOf (Examine task file log) whole ticks ticks' report)
  examined low ticks ticks' (Ok report) second found = transcript_of whole ticks ticks' report low task file log program is_in (both second) (found_so report found)
  examined low ticks ticks' (Err error) second found = tt

  -- the transcript could not be had for out of memory
  pub examined_in_vain : {T E : Type 0} (answer : Result T E) → AsksFile (loaded files asked faults mid new) log answer → OnErr answer (AsksUpTo whole (Examine task file log) ⊎ (asked new ≡ asked old))
  examined_in_vain (Ok report) second = tt
  examined_in_vain (Err error) (inl second) = inl (inl ((is_in.0, is_in.1, (program, is_in.2.0)), both second))
  examined_in_vain (Err error) (inr none) = inl (inr (none ∙ first))

-- what is said of one request is said of all that the words ask for
pub rose_by_all : (talk : Talked) (files : Option Files) (ticks ticks' : ℕ) (words : List (List ℕ)) → IsOneRequest → (request : Request) → AskFor words request → RoseByRequest talk files ticks ticks' request → RoseByAll talk files ticks ticks' words
rose_by_all talk files ticks ticks' words one request ask rose other asks = subst (RoseByRequest talk files ticks ticks') (one words request other ask asks) rose

module _ (words : List (List ℕ)) (loads : Loaded) (ticks ticks' : ℕ) where
  pub report_on : IsOneRequest → (request : Request) (report : Report) → AskFor words request → IsReportOf request loads ticks ticks' report → IsReportOn words loads ticks ticks' report
  report_on one request report ask is = record {
    names = is.names;
    due = λ come. ⊎_elim (λ of. inl (inr (request, ask, of))) (λ unread. inr (unread.0, (request, ask, unread.1))) (is.due come);
    asked = is.asked;
    as_said = inl (request, ask, is.as_said);
    comes = is.comes;
    alone = λ file options ask'. is.alone file options (one words request (Play file options) ask ask');
    rose = λ talk ran. rose_by_all talk loads.files ticks ticks' words one request ask (is.rose talk ran);
  }

  pub usage_on : (report : Report) → report ≡ line_report usage 2 → HaveNoForm words → AskedFor loads [] → IsRead loads → IsReportOn words loads ticks ticks' report
  usage_on report is none asked read = record {
    names = [];
    due = λ come. inl (inl (none, ap (λ r. report_due r [] come) is));
    asked = asked;
    as_said = inr (none, asked);
    comes = all_read (omega (arith, ap code is)) read;
    alone = λ file options ask. absurd (none (Play file options) ask);
    rose = λ _ _ request ask. absurd (none request ask);
  }

-- What was asked where the command was cut short

pub asks_up_to : (loads : Loaded) (request : Request) → AsksFor loads request → AsksUpTo loads request
asks_up_to loads request asks = grind arith

pub at_most : (words : List (List ℕ)) (loads : Loaded) → AsksAsSaid words loads → AsksAtMost words loads
at_most words loads given = grind (arith, asks_up_to, adds_none loads.asked_before)
