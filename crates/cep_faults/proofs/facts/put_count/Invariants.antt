use Rattle.std.proofs.Common.{◌≡◌, ◌++◌, replicate}
use Rattle.cep_faults.specs.FactKeys.{mark}
use Rattle.cep_faults.proofs.facts.put_count.Given as goal

abbrev pub invariant-loop-mark : goal.invariant-loop-mark
invariant-loop-mark l = l.key ≡ l.fn.key ++ replicate l._mark mark
