use Rattle.std.proofs.Common.{ℕ, ◌-◌, ◌<◌, ◌≤◌, length}
use Rattle.cep_order.specs.Taking.{IsBarrierAt}
use Rattle.cep_order.proofs.ordering.part_end.Given as goal

abbrev pub invariant-loop-end : goal.invariant-loop-end
invariant-loop-end l = record {
  some : l.from < l.end;
  within : l.end ≤ length l.causes;
  none : (place : ℕ) → l.from ≤ place → place < l.end → IsBarrierAt l.causes place → ⊥;
}

abbrev pub decreases-loop-end : goal.decreases-loop-end
decreases-loop-end l = length l.causes - l.end
