use Rattle.std.proofs.Common.{◌≡◌, ◌++◌, take}
use Rattle.std.specs.List.{flat_map}
use Rattle.cep_report.specs.DeadLines.{dead_line}
use Rattle.cep_report.proofs.dead_rules.put_each.Given as goal

abbrev pub invariant-loop-dead : goal.invariant-loop-dead
invariant-loop-dead l = l.out ≡ l.fn.out ++ flat_map (dead_line l.program) (take l.dead-index l.deads)
