-- Names that come one after another, each with something: of each name the first is kept.
use Rattle.std.specs.Prelude.{ℕ, Bool, if◌then◌else◌, List, [], ◌∷◌, ◌++◌, Option, map}
use Rattle.std.specs.Str.{bytes_eq}
use Rattle.std.specs.List.{list_any}
use Rattle.std.specs.Map.{lookup}

-- whether the name is among these, and what it came with
abbrev pub has_name : {A : Type 0} → List (List ℕ × A) → List ℕ → Bool
has_name table name = list_any (λ entry. bytes_eq name entry.0) table

abbrev pub under_name : {A : Type 0} → List (List ℕ × A) → List ℕ → Option A
under_name table name = lookup (λ other. bytes_eq name other) table

-- one more name, if it is new
abbrev pub added : {A : Type 0} → List (List ℕ × A) → List ℕ × A → List (List ℕ × A)
added table entry = if has_name table entry.0 then table else table ++ entry ∷ []

abbrev pub names_among : {A : Type 0} → List (List ℕ × A) → List (List ℕ)
names_among table = map (λ entry. entry.0) table
