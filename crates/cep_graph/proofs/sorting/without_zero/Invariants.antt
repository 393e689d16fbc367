use Rattle.std.proofs.Common.{◌≡◌, take}
use Rattle.std.specs.Prelude.{nat_lt, filter}
use Rattle.cep_graph.proofs.sorting.without_zero.Given as goal

abbrev pub invariant-loop-number : goal.invariant-loop-number
invariant-loop-number l = l.after ≡ filter (λ n. nat_lt 0 n) (take l.number-index l.numbers)
