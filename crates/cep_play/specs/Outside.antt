-- What the outside holds, and what is due over it. No console is spoken of.
use Rattle.std.specs.Prelude.{◌≡◌, ◌⊎◌, ℕ, List, Option}
use Rattle.cep_base.specs.declared.console.Event.{Event}
use Rattle.cep_base.specs.Talk.{outs}
use Rattle.cep_base.specs.Files.{Files}
use Rattle.cep_rule.specs.declared.parts.Parts.{Parts}
use Rattle.cep_examine.specs.Loading.{IsSpelledBy, IsRefusal}
use Rattle.cep_examine.specs.Report.{Report}

-- what the shelf has, where that is told, and what is to be typed
pub record Outside : Type 0 where
  pub files : Option Files
  pub come : List ℕ

-- what is due: what is said and heard, what is left of what is to be typed, the status, and the names that are asked of the shelf
pub record Due : Type 0 where
  pub events : List Event
  pub rest : List ℕ
  pub code : ℕ
  pub names : List (List ℕ)

-- that this is reported
abbrev pub report_due : Report → List (List ℕ) → List ℕ → Due
report_due report names come = record { events = outs report.written; rest = come; code = report.code; names = names }

-- what is due is a report that has P
abbrev pub IsReportDue : (Report → Type 0) → List (List ℕ) → List ℕ → Due → Type 0
IsReportDue P names come due = (report : Report) × P report × (due ≡ report_due report names come)

-- due of the text of a program: the report of its refusal, or what has P, of the program that it spells
abbrev pub OfText : List ℕ → List (List ℕ) → List ℕ → (Parts → Type 0) → Due → Type 0
OfText text names come P due = IsReportDue (IsRefusal text) names come due ⊎ ((program : Parts) × IsSpelledBy program text × P program)
