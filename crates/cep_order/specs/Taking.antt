-- Private.
-- Steps are taken part by part, between barriers.
use Rattle.std.specs.Prelude.{◌≡◌, ◌↔◌, ◌⊎◌, ℕ, zero, suc, ◌+◌, ◌<◌, ◌≤◌, ◌==◌, Bool, true, false, cond, List, [], ◌++◌, length, map, count_by, Some, slice_get, slice_index, slice_index_or}
use Rattle.std.specs.List.{AllPairs}
use Rattle.rand_pcg.specs.Lcg.{Lcg}
use Rattle.cep_choice.specs.Draws.{generator_behind}
use Rattle.cep_order.specs.declared.step_cause.StepCause.{StepCause}
use Rattle.cep_order.specs.declared.waits.Waits.{Waits}
use Rattle.cep_order.specs.Orders.{AreTaken}
use Rattle.cep_order.specs.Waits.{times, all_entries, entry_at, AreLinksFor}

-- the step at a place is a barrier
abbrev pub IsBarrierAt : List StepCause → ℕ → Type 0
IsBarrierAt causes place =
    (cause : StepCause) × (slice_get causes place ≡ Some cause) × (cause.barrier ≡ true)

-- A part of the steps: a barrier by itself, or steps that are none, up to the next one or the last
-- step.
pub record IsPart (causes : List StepCause) (from end : ℕ) : Type 0 where
  pub some : from < end
  pub within : end ≤ length causes
  pub by_itself : (place : ℕ) → from ≤ place → place < end → IsBarrierAt causes place
      → (place ≡ from) × (end ≡ from + 1)
  pub stops : end < length causes → IsBarrierAt causes from ⊎ IsBarrierAt causes end

-- Of the steps of a part those that wait for none become ready.
abbrev pub BecomeReady : List ℕ → ℕ → ℕ → List Bool → List Bool → Type 0
BecomeReady left from end was now =
    (step : ℕ) → ((slice_index_or now step false ≡ true)
    ↔ ((slice_index_or was step false ≡ true)
    ⊎ ((from ≤ step) × (step < end) × (slice_index left step ≡ 0))))

-- how many of the numbers are not in the order yet
abbrev pub untaken : List ℕ → List ℕ → ℕ
untaken order numbers = count_by (λ number. times number order == 0) numbers

-- how many numbers from 1 to this one are not in the order yet
abbrev pub missing : ℕ → List ℕ → ℕ
missing zero order = 0
missing (suc n) order = cond (times (suc n) order == 0) 1 0 + missing n order

-- Some steps are taken, all before the last part and none after it.
pub record IsSoFar (seed : ℕ) (causes : List StepCause) (waits : Waits) (flags : List Bool)
    (draw : Lcg) (order : List ℕ) (end : ℕ) : Type 0 where
  pub from : ℕ
  pub drawn : ℕ
  pub taken : List ℕ
  pub numbers : order ≡ map (λ place. place + 1) taken
  pub once : AllPairs (λ one later. ¬ (one ≡ later)) order
  pub draws : draw ≡ generator_behind seed drawn
  pub goes_on : (rest : List ℕ) → AreTaken seed causes drawn taken rest
      → AreTaken seed causes 0 [] (taken ++ rest)
  pub links : AreLinksFor (all_entries causes) waits.begins.items waits.links.items
  pub long_begins : length waits.begins.items ≡ length causes
  pub long_left : length waits.left.items ≡ length causes
  pub room : length flags ≡ length causes
  pub left : (step : ℕ)
      → slice_index waits.left.items step ≡ untaken order (entry_at (all_entries causes) step)
  pub ready : (step : ℕ) → ((slice_index_or flags step false ≡ true)
      ↔ ((step < end) × (times (step + 1) order ≡ 0) × (slice_index waits.left.items step ≡ 0)))
  pub closed : (step : ℕ) → 0 < times (step + 1) order → slice_index waits.left.items step ≡ 0
  pub not_after : (step : ℕ) → 0 < times (step + 1) order → step < end
  pub before : (step : ℕ) → step < from → 0 < times (step + 1) order
  pub part : from < end → IsPart causes from end
  pub within : end ≤ length causes
