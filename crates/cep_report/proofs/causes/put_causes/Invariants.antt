use Rattle.std.proofs.Common.{◌≡◌, ◌++◌, take}
use Rattle.cep_report.specs.CauseLines.{graph_lines}
use Rattle.cep_report.proofs.causes.put_causes.Given as goal

abbrev pub invariant-loop-cause : goal.invariant-loop-cause
invariant-loop-cause l = (l.number ≡ l.cause-index) × (l.out ≡ l.fn.out ++ graph_lines 1 (take l.cause-index l.causes))
