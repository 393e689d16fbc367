-- Which steps of a graph precede which, and the order that a seed gives. Steps go by their places,
-- from 0; the numbers in an entry and in an order count from 1.
use Rattle.std.specs.Prelude.{◌≡◌, ◌↔◌, ◌⊎◌, ℕ, ◌+◌, ◌<◌, ◌≤◌, List, [], ◌∷◌, ◌++◌, length, map, true, Some, slice_get, Contains}
use Rattle.std.specs.List.{AllByRecursion, AllPairs}
use Rattle.std.specs.List.Sorted.{IsStrictlyIncreasing}
use Rattle.cep_choice.specs.Draws.{place_drawn}
use Rattle.cep_order.specs.declared.step_cause.StepCause.{StepCause}

-- Each number in an entry is that of an earlier step.
abbrev pub NamesEarlier : List StepCause → Type 0
NamesEarlier causes =
    (place : ℕ) (cause : StepCause) → slice_get causes place ≡ Some cause
    → AllByRecursion (λ number. (0 < number) × (number ≤ place)) cause.after

-- A step precedes a later one: its number stands in the later one's entry, or one of the two is a
-- barrier.
pub record PrecedesIn (causes : List StepCause) (i j : ℕ) : Type 0 where
  pub is_earlier : i < j
  pub earlier : StepCause
  pub at_earlier : slice_get causes i ≡ Some earlier
  pub later : StepCause
  pub at_later : slice_get causes j ≡ Some later
  pub why : Contains later.after (i + 1) ⊎ ((earlier.barrier ≡ true) ⊎ (later.barrier ≡ true))

-- A step is ready when these are taken: it is not, and each step that precedes it is.
pub record IsReadyIn (causes : List StepCause) (taken : List ℕ) (place : ℕ) : Type 0 where
  pub within : place < length causes
  pub not_taken : ¬ Contains taken place
  pub before : (earlier : ℕ) → PrecedesIn causes earlier place → Contains taken earlier

-- These are the steps that are ready, in strictly increasing order.
pub record AreReady (causes : List StepCause) (taken ready : List ℕ) : Type 0 where
  pub increasing : IsStrictlyIncreasing ready
  pub each : (place : ℕ) → (Contains ready place ↔ IsReadyIn causes taken place)

-- A step is taken next, of those that are ready: a lone one as it is, and of several the one at the
-- place that the next word of the seed stands for.
pub record IsTaken (seed : ℕ) (causes : List StepCause) (drawn : ℕ) (taken : List ℕ)
    (place drawn' : ℕ) : Type 0 where
  pub ready : List ℕ
  pub are : AreReady causes taken ready
  pub at : ℕ
  pub there : slice_get ready at ≡ Some place
  pub lone : length ready ≡ 1 → drawn' ≡ drawn
  pub several : 1 < length ready
      → (at + 1 ≡ place_drawn seed drawn (length ready)) × (drawn' ≡ drawn + 1)

-- Steps are taken one after another, until none is ready.
abbrev pub AreTaken : ℕ → List StepCause → ℕ → List ℕ → List ℕ → Type 0
AreTaken seed causes drawn taken [] = (place : ℕ) → ¬ IsReadyIn causes taken place
AreTaken seed causes drawn taken (place ∷ places) =
    (drawn' : ℕ) × IsTaken seed causes drawn taken place drawn'
    × AreTaken seed causes drawn' (taken ++ place ∷ []) places

-- The order that a seed gives: the numbers of the steps as they are taken.
pub record IsOrderBy (seed : ℕ) (causes : List StepCause) (order : List ℕ) : Type 0 where
  pub places : List ℕ
  pub numbers : order ≡ map (λ place. place + 1) places
  pub taken : AreTaken seed causes 0 [] places

-- Each number from 1 to n stands in the list, and none twice.
pub record IsEachOnce (n : ℕ) (numbers : List ℕ) : Type 0 where
  pub each : (number : ℕ) → (Contains numbers number ↔ ((0 < number) × (number ≤ n)))
  pub once : AllPairs (λ one later. ¬ (one ≡ later)) numbers
