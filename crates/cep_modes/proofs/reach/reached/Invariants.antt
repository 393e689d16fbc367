use Rattle.std.proofs.Common.{◌≡◌, ◌≤◌, ◌+◌, ◌*◌, ◌-◌, ℕ, true, length}
use Rattle.std.specs.List.{Contains}
use Rattle.cep_modes.specs.Places.{holds}
use Rattle.cep_modes.specs.Reaching.{unset, IsReachedSoFar}
use Rattle.cep_modes.proofs.reach.reached.Given as goal

abbrev pub invariant-loop-done : goal.invariant-loop-done
invariant-loop-done l = record {
  reached : IsReachedSoFar l.clauses (length l.table.items * 256 + 1) l.seen l.queue.items l.calls.items l.done;
  first : (n : ℕ) → Contains l.first n → holds l.seen n ≡ true;
  low : l.done ≤ length l.queue.items;
}

abbrev pub decreases-loop-done : goal.decreases-loop-done
decreases-loop-done l = unset l.seen + length l.queue.items - l.done
