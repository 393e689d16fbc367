-- Private.
-- The matching of atoms, and how a matching that fails is taken back.
use Rattle.std.specs.Prelude.{ℕ, Bool, ◌==◌, if◌then◌else◌, List, [], ◌∷◌, Option, Some, None, slice_set}
use Rattle.cep_term.specs.Tree.{AtomTree}
use Rattle.cep_term.specs.Values.{Values}
use Rattle.cep_term.specs.Matching.{matched_all}

-- the values after two atoms met, which they do only where they have one predicate
abbrev pub matched_atom : Values → AtomTree → AtomTree → Option Values
matched_atom values a b = if a.pred == b.pred then matched_all values a.args b.args else None

-- what a matching that ends with these values answers: they, where the two met
abbrev pub values_if : Bool → Values → Option Values
values_if met values = if met then Some values else None

-- the values without those of the variables on the trail, the last of which was set last
abbrev pub undone : List ℕ → Values → Values
undone [] values = values
undone (v ∷ trail) values = slice_set (undone trail values) v None
