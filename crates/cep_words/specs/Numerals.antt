-- Private.
-- How a decimal begins.
use Rattle.std.specs.Prelude.{ℕ, Bool, false, List, [], ◌∷◌, nat_le, nat_lt}

-- whether a digit that stands alone is at least 0, or the first of several is greater
abbrev pub begins_as_decimal : List ℕ → Bool
begins_as_decimal [] = false
begins_as_decimal (first ∷ []) = nat_le 48 first
begins_as_decimal (first ∷ (next ∷ rest)) = nat_lt 48 first
