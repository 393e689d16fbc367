-- What is due where files are examined: one against the program in another, or a program for its dead rules.
use Rattle.std.specs.Prelude.{ℕ, List, [], ◌∷◌}
use Rattle.cep_words.specs.declared.request.Task.{Task}
use Rattle.cep_examine.specs.Reports.{Reports}
use Rattle.cep_examine.specs.DeadRules.{ReportsDead}
use Rattle.cep_examine.specs.Loading.{OfFile}
use Rattle.cep_play.specs.Outside.{Outside, Due, IsReportDue, OfText}

-- this is due where one file is to be examined against the program in another
abbrev pub IsExaminationDue : Task → List ℕ → List ℕ → Outside → Due → Type 0
IsExaminationDue task file log outside due =
    OfFile outside.files file (λ text. OfText text (file ∷ []) outside.come
    (λ program. OfFile outside.files log (λ bytes. IsReportDue (Reports task program bytes) (file ∷ log ∷ []) outside.come due)) due)

-- this is due where the dead rules of the program in a file are to be reported
abbrev pub IsDeadDue : List ℕ → Outside → Due → Type 0
IsDeadDue file outside due =
    OfFile outside.files file (λ text. OfText text (file ∷ []) outside.come (λ program. IsReportDue (ReportsDead program) (file ∷ []) outside.come due) due)
