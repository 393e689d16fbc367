-- Private. The atoms that are not the last of a world's start state.
use Rattle.std.specs.Prelude.{List, ℕ, ◌++◌, codes}
use Rattle.std.specs.List.{flat_map}

-- each of these atoms in a line that ends in a comma
abbrev pub with_commas : List (List ℕ) → List ℕ
with_commas atoms = flat_map (λ atom. atom ++ codes ",\n") atoms
