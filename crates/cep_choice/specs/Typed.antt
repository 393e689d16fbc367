-- Private.
-- What the bytes of a line spell so far, for a choice among n.
use Rattle.std.specs.Prelude.{◌≡◌, ℕ, ◌<◌, ◌≤◌, List, [], ◌∷◌, ◌++◌, decimal}
use Rattle.cep_choice.specs.declared.typed.Typed.{Typed}
use Rattle.cep_choice.specs.declared.typed.Typed.TheVariants as typed
use Rattle.cep_choice.specs.declared.reading.Said.{Said}
use Rattle.cep_choice.specs.declared.reading.Said.TheVariants as said
use Rattle.cep_choice.specs.TypedLine.{Chooses, ChoosesNone}

-- a number that is kept is a place among n
abbrev pub IsWithin : ℕ → Typed → Type 0
IsWithin n typed.Empty = Unit {0}
IsWithin n (typed.Number value) = (0 < value) × (value ≤ n)
IsWithin n (typed.Closed value) = (0 < value) × (value ≤ n)
IsWithin n typed.Bad = Unit {0}

-- the bytes so far are none, a number, a number and one CR, or the front of no line that chooses
abbrev pub Reads : ℕ → Typed → List ℕ → Type 0
Reads n typed.Empty bytes = bytes ≡ []
Reads n (typed.Number value) bytes = bytes ≡ decimal value
Reads n (typed.Closed value) bytes = bytes ≡ decimal value ++ 13 ∷ []
Reads n typed.Bad bytes = (more : List ℕ) → ChoosesNone n (bytes ++ more)

-- what the whole line says: its place, or that it has none
abbrev pub SaysOf : ℕ → List ℕ → Said → Type 0
SaysOf n line (said.Number place) = Chooses n line place
SaysOf n line said.Bad = ChoosesNone n line
SaysOf n line said.End = ⊥
SaysOf n line said.Limit = ⊥

-- a line was read: what is said is its place, or that it has none
abbrev pub IsOfLine : Said → Type 0
IsOfLine (said.Number place) = Unit {0}
IsOfLine said.Bad = Unit {0}
IsOfLine said.End = ⊥
IsOfLine said.Limit = ⊥
