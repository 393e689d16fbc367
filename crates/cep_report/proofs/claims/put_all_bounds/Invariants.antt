use Rattle.std.proofs.Common.{◌≡◌, ◌++◌, take}
use Rattle.std.specs.List.{flat_map}
use Rattle.cep_report.specs.ClaimLines.{bound_line}
use Rattle.cep_report.proofs.claims.put_all_bounds.Given as goal

abbrev pub invariant-loop-i : goal.invariant-loop-i
invariant-loop-i l = l.out ≡ l.fn.out ++ flat_map (bound_line l.program l.weight) (take l.i l.parts)
