use Rattle.std.proofs.Common.{◌≡◌, ◌*◌, take, pos, neg_ℤ, ◌≤ℤ◌}
use Rattle.cep_weigh.proofs.Sums.{added, entry_worth, copies_among}
use Rattle.std.specs.FinMap as finite
use Rattle.cep_weigh.proofs.judging.start_weight.Given as goal

abbrev pub invariant-loop-i : goal.invariant-loop-i
invariant-loop-i l = record {
  value : l.total ≡ added (entry_worth l.parts) (take l.i (finite.entries l.start));
  low : neg_ℤ (pos (1000000 * copies_among (take l.i (finite.entries l.start)))) ≤ℤ l.total;
  high : l.total ≤ℤ pos (1000000 * copies_among (take l.i (finite.entries l.start)));
}
