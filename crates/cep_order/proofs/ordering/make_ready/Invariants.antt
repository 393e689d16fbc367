use Rattle.std.proofs.Common.{◌≡◌, ◌↔◌, ◌⊎◌, ℕ, ◌<◌, ◌≤◌, true, false, length, get_or}
use Rattle.cep_order.proofs.ordering.make_ready.Given as goal

abbrev pub invariant-loop-step : goal.invariant-loop-step
invariant-loop-step l = record {
  room : length l.ready ≡ length l.initial.ready;
  ready : (step : ℕ) → ((get_or l.ready step false ≡ true) ↔ ((get_or l.initial.ready step false ≡ true) ⊎ ((l.from ≤ step) × (step < l.step) × (get_or l.waits.left.items step 0 ≡ 0))));
}
