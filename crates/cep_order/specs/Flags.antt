-- Private.
-- Flags, and the places of those that are set.
use Rattle.std.specs.Prelude.{ℕ, ◌+◌, Bool, cond, List, [], ◌∷◌, take, count_by}

-- how many of the flags before a place are set
abbrev pub set_before : List Bool → ℕ → ℕ
set_before flags place = count_by (λ flag. flag) (take place flags)

-- the places of the flags that are set, where the first flag has this place
abbrev pub set_places_from : ℕ → List Bool → List ℕ
set_places_from place [] = []
set_places_from place (flag ∷ flags) =
    cond flag (place ∷ set_places_from (place + 1) flags) (set_places_from (place + 1) flags)

-- the places of the flags that are set, in increasing order
abbrev pub set_places : List Bool → List ℕ
set_places flags = set_places_from 0 flags
