use Rattle.std.proofs.Common.{◌≡◌, ◌<◌, ◌≤◌, ℕ, true, false, length, drop}
use Rattle.std.specs.List.{AllByRecursion}
use Rattle.cep_modes.specs.Places.{holds}
use Rattle.cep_modes.specs.Reaching.{unset}
use Rattle.cep_modes.specs.Leading.{IsLed, IsFollowed}
use Rattle.cep_modes.proofs.marks.pass.Given as goal

abbrev pub decreases-loop-left : goal.decreases-loop-left
decreases-loop-left l = l.left

abbrev pub invariant-loop-left : goal.invariant-loop-left
invariant-loop-left l = record {
  low : l.left ≤ length l.calls;
  kept : (n : ℕ) → holds l.initial.marked n ≡ true → holds l.marked n ≡ true;
  led : (n : ℕ) → holds l.marked n ≡ true → IsLed l.calls l.initial.marked n;
  fewer : l.found ≡ true → unset l.marked < unset l.initial.marked;
  same : l.found ≡ false → l.marked ≡ l.initial.marked;
  followed : l.found ≡ false → AllByRecursion (IsFollowed l.marked) (drop l.left l.calls);
}
