use Rattle.std.proofs.Common.{◌≡◌, ◌*◌, take, pos, neg_ℤ, ◌≤ℤ◌}
use Rattle.cep_weigh.proofs.Sums.{added, used}
use Rattle.cep_weigh.proofs.judging.left_sum.Given as goal

abbrev pub invariant-loop-i : goal.invariant-loop-i
invariant-loop-i l = record {
  value : l.total ≡ added (used l.parts) (take l.i l.rule.premises);
  low : neg_ℤ (pos (1000000 * l.i)) ≤ℤ l.total;
  high : l.total ≤ℤ pos (1000000 * l.i);
}
