-- The foremost of some things, each of which stands at a place, and has a rank among those that stand there.
use Rattle.std.specs.Prelude.{◌≡◌, ◌⊎◌, ℕ, ◌<◌, ◌≤◌, Bool, ◌&&◌, ◌||◌, ◌==◌, nat_lt, nat_le, if◌then◌else◌, List, [], ◌∷◌, Option, Some, None}

module _ {X : Type 0} (standing : X → ℕ × ℕ) where
  -- One stands no later than the other: at an earlier place, or at the same one with no greater rank.
  abbrev pub StandsNoLater : X → X → Type 0
  StandsNoLater one other = ((standing one).0 < (standing other).0) ⊎ (((standing one).0 ≡ (standing other).0) × ((standing one).1 ≤ (standing other).1))

  -- The foremost of those of which something holds.
  pub record IsForemost (Holds : X → Type 0) (one : X) : Type 0 where
    pub holds : Holds one
    pub first : (other : X) → Holds other → StandsNoLater one other

  -- The foremost of them, or none where there are none.
  abbrev pub IsForemostOrNone : (X → Type 0) → Option X → Type 0
  IsForemostOrNone Holds None = (one : X) → ¬ Holds one
  IsForemostOrNone Holds (Some one) = IsForemost Holds one

  -- whether one stands no later than the other
  abbrev pub stands_no_later : X → X → Bool
  stands_no_later one other = nat_lt (standing one).0 (standing other).0 || (((standing one).0 == (standing other).0) && nat_le (standing one).1 (standing other).1)

  -- the foremost of two
  abbrev pub foremost_of : Option X → Option X → Option X
  foremost_of None other = other
  foremost_of (Some one) None = Some one
  foremost_of (Some one) (Some other) = Some (if stands_no_later one other then one else other)

  -- the foremost of all
  abbrev pub foremost_in : List X → Option X
  foremost_in [] = None
  foremost_in (one ∷ others) = foremost_of (Some one) (foremost_in others)
