-- Which steps precede which, and the orders that respect it. Steps go by their places, counted from 0, or by their numbers, counted from 1.
use Rattle.std.specs.Prelude.{◌≡◌, ◌↔◌, ◌⊎◌, ℕ, ◌-◌, ◌<◌, ◌≤◌, List, [], ◌∷◌, length, map, true, Some, slice_get, Contains}
use Rattle.std.specs.List.{AllByRecursion}
use Rattle.cep_cause.specs.Tokens.{Token}
use Rattle.cep_cause.specs.Touches.{Touch}

-- A later step rests on an earlier one by a token: it uses one that the earlier made, or removes one
-- that the earlier uses.
abbrev pub RestsOn : Touch → Touch → Type 0
RestsOn later earlier =
    (token : Token)
    × ((Contains earlier.makes token × Contains later.uses token)
    ⊎ (Contains earlier.uses token × Contains later.removes token))

-- The step at one place precedes the one at another: it is the earlier, and the later one rests on
-- it, or one of the two is a barrier.
pub record Precedes (touches : List Touch) (i j : ℕ) : Type 0 where
  pub is_earlier : i < j
  pub earlier : Touch
  pub at_earlier : slice_get touches i ≡ Some earlier
  pub later : Touch
  pub at_later : slice_get touches j ≡ Some later
  pub why : RestsOn later earlier ⊎ ((earlier.barrier ≡ true) ⊎ (later.barrier ≡ true))

-- No step stands after one that it precedes, and none stands twice.
abbrev pub Respects : List Touch → List ℕ → Type 0
Respects touches [] = Unit {0}
Respects touches (place ∷ places) =
    AllByRecursion (λ later. ¬ (place ≡ later) × ¬ Precedes touches later place) places
    × Respects touches places

-- A reordering of steps: each of them stands in it once, and none after one that it precedes.
pub record IsReordering (touches : List Touch) (places : List ℕ) : Type 0 where
  pub steps : (place : ℕ) → (Contains places place ↔ (place < length touches))
  pub respects : Respects touches places

-- the places of steps with these numbers
abbrev pub step_places : List ℕ → List ℕ
step_places order = map (λ number. number - 1) order

-- The numbers of steps, counted from 1, are those of a reordering.
pub record IsOrder (touches : List Touch) (order : List ℕ) : Type 0 where
  pub counted : AllByRecursion (λ number. 0 < number) order
  pub reorders : IsReordering touches (step_places order)

-- Numbers of steps, counted from 1, of which there are so many.
abbrev pub AreNumbersWithin : ℕ → List ℕ → Type 0
AreNumbersWithin many order = AllByRecursion (λ number. (0 < number) × (number ≤ many)) order
