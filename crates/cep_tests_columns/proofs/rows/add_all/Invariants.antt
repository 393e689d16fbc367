use Rattle.std.proofs.Common.{◌≡◌, ◌+◌, ◌≤◌, ℕ}
use Rattle.cep_column.specs.Rows.{live_count, IsLive, IsInNoRow}
use Rattle.cep_tests_columns.proofs.rows.add_all.Given as goal

abbrev pub invariant-loop-i : goal.invariant-loop-i
invariant-loop-i l = record {
  arity : l.column.arity ≡ 1;
  fresh : (atom : ℕ) → l.first + l.i ≤ atom → IsInNoRow l.column atom;
  many : live_count l.column ≡ live_count l.initial.column + l.i;
  stays : (row : ℕ) → IsLive l.initial.column row → IsLive l.column row;
}
