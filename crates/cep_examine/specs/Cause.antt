-- What is reported of the graph of a legal log.
use Rattle.std.specs.Prelude.{◌≡◌, List}
use Rattle.cep_rule.specs.declared.parts.Parts.{Parts}
use Rattle.cep_log.specs.declared.log.Log.{Log}
use Rattle.cep_order.specs.declared.step_cause.StepCause.{StepCause}
use Rattle.cep_cause.specs.Graphs.{IsGraph}
use Rattle.cep_report.specs.CauseLines.{graph_lines}
use Rattle.cep_examine.specs.Report.{Report}

-- the lines of the graph of a log are reported
abbrev pub ReportsGraph : Parts → Log → Report → Type 0
ReportsGraph program log report =
    (causes : List StepCause) × IsGraph program log causes
    × (report ≡ record { written = graph_lines 1 causes; code = 0 })
