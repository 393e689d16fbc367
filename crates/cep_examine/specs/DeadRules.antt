-- What is reported of the dead rules of a program.
use Rattle.std.specs.Prelude.{◌≡◌, List}
use Rattle.cep_rule.specs.declared.parts.Parts.{Parts}
use Rattle.cep_dead.specs.declared.dead_rule.DeadRule.{DeadRule}
use Rattle.cep_dead.specs.Deads.{AreDeads}
use Rattle.cep_report.specs.DeadLines.{dead_lines}
use Rattle.cep_examine.specs.Report.{Report}

-- the dead rules of the program are reported
abbrev pub ReportsDead : Parts → Report → Type 0
ReportsDead program report = (deads : List DeadRule) × AreDeads program deads × (report ≡ record { written = dead_lines program deads; code = 0 })
