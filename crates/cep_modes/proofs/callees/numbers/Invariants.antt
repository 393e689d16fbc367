use Rattle.std.proofs.Common.{◌≡◌, ◌++◌, drop}
use Rattle.cep_modes.specs.Places.{numbers_of}
use Rattle.cep_modes.proofs.callees.numbers.Given as goal

abbrev pub invariant-loop-i : goal.invariant-loop-i
invariant-loop-i l = l.found.items ++ numbers_of l.pred l.i (drop l.i l.clauses) ≡ numbers_of l.pred 0 l.clauses
