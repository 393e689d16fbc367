use Rattle.std.proofs.Common.{◌≡◌, length, map}
use Rattle.cep_modes.specs.Places.{IsClauseTable}
use Rattle.cep_modes.proofs.callees.table.Given as goal

abbrev pub invariant-loop-pred : goal.invariant-loop-pred
invariant-loop-pred l = record {
  many : length l.table.items ≡ l.pred;
  numbers : IsClauseTable l.clauses 0 (map (λ numbers. numbers.items) l.table.items);
}
