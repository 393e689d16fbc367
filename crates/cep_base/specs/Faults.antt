-- How often the outside failed.
use Rattle.std.specs.Prelude.{◌≡◌, ◌⊎◌, ℕ, ◌+◌, ◌-◌, ◌^◌, ◌<◌, min}

-- the last value of a count, at which it stays
abbrev pub last_count : ℕ
last_count = 2 ^ 64 - 1

-- one more, up to the last value of a count
abbrev pub count_up : ℕ → ℕ
count_up n = min (n + 1) last_count

-- In a call the count of faults rose: it is greater than before, or it stood at its last value.
abbrev pub Rose : ℕ → ℕ → Type 0
Rose before after = (before < after) ⊎ ((before ≡ last_count) × (after ≡ last_count))
