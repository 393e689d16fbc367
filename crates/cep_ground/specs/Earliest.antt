-- Private.
-- The earliest of some places, of all or of those that are marked.
use Rattle.std.specs.Prelude.{◌≡◌, Bool, true, false, List, [], ◌∷◌, ◌++◌, Option, Some, None, Contains}
use Rattle.cep_base.specs.declared.place.Pos.{Pos}
use Rattle.cep_ground.specs.Refusals.{StandsBefore}

-- There is no place, or this is one before which no other stands.
abbrev pub IsEarliest : List Pos → Option Pos → Type 0
IsEarliest places None = places ≡ []
IsEarliest places (Some pos) = Contains places pos × ((other : Pos) → Contains places other → ¬ (StandsBefore other pos))

-- those items of a list that are marked
abbrev pub marked_among : {A : Type 0} → List A → List Bool → List A
marked_among [] marks = []
marked_among (x ∷ xs) [] = []
marked_among (x ∷ xs) (true ∷ marks) = x ∷ marked_among xs marks
marked_among (x ∷ xs) (false ∷ marks) = marked_among xs marks

-- those items of lists that are marked
abbrev pub all_marked : {A : Type 0} → List (List A) → List (List Bool) → List A
all_marked [] lists = []
all_marked (xs ∷ rest) [] = []
all_marked (xs ∷ rest) (marks ∷ lists) = marked_among xs marks ++ all_marked rest lists
