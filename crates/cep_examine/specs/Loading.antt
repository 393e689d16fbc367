-- The program in a text or in a file of the shelf, or why there is none.
use Rattle.std.specs.Prelude.{◌≡◌, ◌⊎◌, ℕ, List, ◌++◌, codes, decimal, Option, Result, Ok, Err}
use Rattle.cep_base.specs.Files.{Files, HasFile}
use Rattle.cep_rule.specs.declared.parts.Parts.{Parts}
use Rattle.cep_refusal.specs.Reasons.{number, reason_name}
use Rattle.cep_refusal.specs.declared.fault.Fault.{Fault}
use Rattle.cep_refusal.specs.declared.refusal.Refusal.{Refusal}
use Rattle.cep_refusal.specs.Told.{Tells}
use Rattle.cep_ground.specs.Texts.{Spells}
use Rattle.cep_ground.specs.Refusals.{IsRefusedFor}
use Rattle.cep_examine.specs.Exchange.{Loaded, IsUnread, IsRead}
use Rattle.cep_examine.specs.Report.{Report, line_report}
use Rattle.cep_examine.specs.Unread.{no_program}

-- P holds of the text of a file: of the one that is there, where the files are told
abbrev pub OfFile : Option Files → List ℕ → (List ℕ → Type 0) → Type 0
OfFile files name P = (text : List ℕ) × HasFile files name text × P text

-- a text spells a program
abbrev pub IsProgramText : List ℕ → Type 0
IsProgramText text = (program : Parts) × Spells text program

-- a text spells this program, and no other
abbrev pub IsSpelledBy : Parts → List ℕ → Type 0
IsSpelledBy program text = Spells text program × ((other : Parts) → Spells text other → other ≡ program)

-- `refused LINE:COL NUMBER NAME`
unfoldable pub refusal_text : Refusal → List ℕ
refusal_text refusal =
    codes "refused " ++ decimal refusal.pos.line ++ codes ":" ++ decimal refusal.pos.col ++ codes " " ++ decimal (number refusal.reason) ++ codes " " ++ reason_name refusal.reason

-- The text spells no program, and the report is the line of the fault that is reported first of all that is wrong with it, and of no other.
pub record IsRefusal (text : List ℕ) (report : Report) : Type 0 where
  pub fault : Fault
  pub refusal : Refusal
  pub refused : IsRefusedFor text fault
  pub tells : Tells text fault refusal
  pub alone : (other : Fault) (told : Refusal) → IsRefusedFor text other → Tells text other told → told ≡ refusal
  pub no_program : (program : Parts) → Spells text program → ⊥
  pub is : report ≡ line_report (refusal_text refusal) 3

-- no program is in a file, and this is reported: its text is refused, or it could not be read
abbrev pub ReportsNone : Loaded → List ℕ → Report → Type 0
ReportsNone loads file report =
    (OfFile loads.files file (λ text. IsRefusal text report) × IsRead loads)
    ⊎ (IsUnread loads × (report ≡ line_report no_program 7))

-- what is found in a text: the program that it spells, or the report of its refusal
abbrev pub IsFoundInText : List ℕ → Result Parts Report → Type 0
IsFoundInText text (Ok program) = IsSpelledBy program text
IsFoundInText text (Err report) = IsRefusal text report

-- what is found in a file: the program in it, or the report why there is none
abbrev pub IsFoundInFile : Loaded → List ℕ → Result Parts Report → Type 0
IsFoundInFile loads file (Ok program) = OfFile loads.files file (IsSpelledBy program) × IsRead loads
IsFoundInFile loads file (Err report) = ReportsNone loads file report
