use Rattle.std.proofs.Common.{◌≡◌}
use Rattle.cep_column.specs.Rows.{live_count, IsInNoRow}
use Rattle.cep_tests_columns.proofs.rows.add_in_turn.Given as goal

abbrev pub invariant-loop-key : goal.invariant-loop-key
invariant-loop-key l = record {
  arity : l.column.arity ≡ 1;
  fresh : IsInNoRow l.column l.atom;
  many : live_count l.column ≡ live_count l.initial.column;
}
