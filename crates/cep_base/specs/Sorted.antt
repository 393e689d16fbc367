-- Lists whose items increase by a key, and the places of keys in them.
use Rattle.std.specs.Prelude.{◌≡◌, ℕ, zero, suc, List, [], ◌∷◌}
use Rattle.std.specs.List.{AllByRecursion}
use Rattle.std.specs.declared.cmp.Ordering.{Ordering}
use Rattle.std.specs.declared.cmp.Ordering.TheVariants.{Less, Greater}

module _ {E K : Type 0} (key : E → K) (cmp : K → K → Ordering) where
  -- The keys are strictly increasing.
  abbrev pub IsIncreasing : List E → Type 0
  IsIncreasing [] = Unit {0}
  IsIncreasing (item ∷ items) = AllByRecursion (λ later. cmp (key item) (key later) ≡ Less) items × IsIncreasing items

  -- The item at this place has the key, and those before it have lesser ones.
  abbrev pub IsPlaceOf : List E → K → ℕ → Type 0
  IsPlaceOf [] k i = ⊥
  IsPlaceOf (item ∷ items) k zero = key item ≡ k
  IsPlaceOf (item ∷ items) k (suc i) = (cmp (key item) k ≡ Less) × IsPlaceOf items k i

  -- No item has the key, and one would go here: those before have lesser keys, and the next has a greater one.
  abbrev pub IsGapOf : List E → K → ℕ → Type 0
  IsGapOf [] k zero = Unit {0}
  IsGapOf [] k (suc i) = ⊥
  IsGapOf (item ∷ items) k zero = cmp (key item) k ≡ Greater
  IsGapOf (item ∷ items) k (suc i) = (cmp (key item) k ≡ Less) × IsGapOf items k i
