use Rattle.std.proofs.Common.{◌≡◌, ◌*◌, take, pos, neg_ℤ, ◌≤ℤ◌}
use Rattle.cep_weigh.proofs.Sums.{added}
use Rattle.cep_weigh.specs.Weights.{factor_of}
use Rattle.cep_weigh.proofs.judging.right_sum.Given as goal

abbrev pub invariant-loop-i : goal.invariant-loop-i
invariant-loop-i l = record {
  value : l.total ≡ added (λ a. factor_of l.parts a.pred) (take l.i l.rule.right);
  low : neg_ℤ (pos (1000000 * l.i)) ≤ℤ l.total;
  high : l.total ≤ℤ pos (1000000 * l.i);
}
