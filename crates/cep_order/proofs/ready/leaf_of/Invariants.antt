use Rattle.std.proofs.Common.{◌+◌, ◌*◌, ◌^◌, ◌<◌, ◌≤◌, Bool, List, length}
use Rattle.cep_order.specs.Flags.{set_before}
use Rattle.cep_order.specs.Counts.{IsTree}
use Rattle.cep_order.proofs.Trees.{IsDown}
use Rattle.cep_order.proofs.ready.leaf_of.Given as goal

abbrev pub invariant-loop-levels : goal.invariant-loop-levels
invariant-loop-levels l = record {
  some : 0 < l.node;
  low : 2 ^ l.height ≤ l.node * 2 ^ l.levels;
  high : (l.node + 1) * 2 ^ l.levels ≤ 2 * 2 ^ l.height;
  down : (flags : List Bool) → IsTree flags l.counts l.height → l.k < set_before flags (length flags) → IsDown flags l.counts l.height l.k l.levels l.node l.left;
}

abbrev pub decreases-loop-levels : goal.decreases-loop-levels
decreases-loop-levels l = l.levels
