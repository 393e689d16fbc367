-- What is due of a list of words, over what the outside holds.
use Rattle.std.specs.Prelude.{◌≡◌, ◌⊎◌, ℕ, List, [], ◌∷◌}
use Rattle.cep_words.specs.Words.{Request, Play, Examine, Dead, World, HaveNoForm}
use Rattle.cep_play.specs.Command.{OfRequest, usage}
use Rattle.cep_examine.specs.Loading.{OfFile, IsProgramText}
use Rattle.cep_examine.specs.Unread.{no_program, no_second}
use Rattle.cep_play.specs.Outside.{Outside, Due, report_due}
use Rattle.cep_examine.specs.Report.{line_report}
use Rattle.cep_play.specs.Play.{IsPlayDue}
use Rattle.cep_play.specs.World.{IsWorldDue}
use Rattle.cep_play.specs.Examined.{IsExaminationDue, IsDeadDue}

-- this is due of a request
abbrev pub IsDueOf : Request → Outside → Due → Type 0
IsDueOf (Play file options) outside due = IsPlayDue file options outside due
IsDueOf (Examine task file log) outside due = IsExaminationDue task file log outside due
IsDueOf (Dead file) outside due = IsDeadDue file outside due
IsDueOf (World rooms options) outside due = IsWorldDue rooms options outside due

-- this is due of words: the usage line where they are malformed, and else what is due of what they ask for
abbrev pub IsDue : List (List ℕ) → Outside → Due → Type 0
IsDue words outside due = (HaveNoForm words × (due ≡ report_due (line_report usage 2) [] outside.come)) ⊎ OfRequest words (λ request. IsDueOf request outside due)

-- this is due of a request where a file could not be read: the program's, or, after a program that was read, the second file
abbrev pub IsDueUnreadOf : Request → Outside → Due → Type 0
IsDueUnreadOf (Play file options) outside due = due ≡ report_due (line_report no_program 7) (file ∷ []) outside.come
IsDueUnreadOf (Examine task file log) outside due =
    (due ≡ report_due (line_report no_program 7) (file ∷ []) outside.come)
    ⊎ (OfFile outside.files file IsProgramText × (due ≡ report_due (line_report (no_second task) 7) (file ∷ log ∷ []) outside.come))
IsDueUnreadOf (Dead file) outside due = due ≡ report_due (line_report no_program 7) (file ∷ []) outside.come
IsDueUnreadOf (World rooms options) outside due = ⊥

-- this is due of words, whether all files could be read or one could not
abbrev pub IsDueAtAll : List (List ℕ) → (unread : Type 0) → Outside → Due → Type 0
IsDueAtAll words unread outside due = IsDue words outside due ⊎ (unread × OfRequest words (λ request. IsDueUnreadOf request outside due))
