use Rattle.std.proofs.Common.{◌≡◌, ℕ, true}
use Rattle.cep_modes.specs.Places.{holds}
use Rattle.cep_modes.specs.Reaching.{unset}
use Rattle.cep_modes.specs.Leading.{IsLed}
use Rattle.cep_modes.proofs.marks.spread.Given as goal

abbrev pub invariant-loop : goal.invariant-loop
invariant-loop l = record {
  kept : (n : ℕ) → holds l.initial.marked n ≡ true → holds l.marked n ≡ true;
  led : (n : ℕ) → holds l.marked n ≡ true → IsLed l.calls l.initial.marked n;
}

abbrev pub decreases-loop : goal.decreases-loop
decreases-loop l = unset l.marked
