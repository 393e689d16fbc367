-- What is reported of a legal log whose steps are done in the order that a seed gives.
use Rattle.std.specs.Prelude.{◌≡◌, ℕ, List, ◌++◌, codes, decimal}
use Rattle.cep_rule.specs.declared.parts.Parts.{Parts}
use Rattle.cep_log.specs.declared.log.Log.{Log}
use Rattle.cep_cause.specs.declared.reordered.Reordered.{Reordered}
use Rattle.cep_cause.specs.declared.reordered.Reordered.TheVariants.{Done, Unfit, TooLong}
use Rattle.cep_graph.specs.BySeed.{IsReorderedBy}
use Rattle.cep_examine.specs.Report.{Report, line_report}
use Rattle.cep_examine.specs.Renew.{new_too_long_text}

-- `unfit K`: step K of the order is the first that leads to a state that does not fit
abbrev pub unfit_text : ℕ → List ℕ
unfit_text number = codes "unfit " ++ decimal number

-- the report of what a log comes to: its text in the order, or why there is none
abbrev pub reordered_report : Reordered → Report
reordered_report (Done text) = record { written = text; code = 0 }
reordered_report (Unfit number) = line_report (unfit_text number) 5
reordered_report TooLong = line_report new_too_long_text 1

-- what a log comes to in the order that a seed gives is reported
abbrev pub ReportsReordering : Parts → Log → ℕ → Report → Type 0
ReportsReordering program log seed report =
    (reordered : Reordered) × IsReorderedBy program log seed reordered
    × (report ≡ reordered_report reordered)
