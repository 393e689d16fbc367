-- The values of variables, instances of patterns under them, and matching.
use Rattle.std.specs.Prelude.{◌≡◌, ◌≢◌, ℕ, List, length, map, Option, Some, None, IsSome, slice_index_or, unwrap_or}
use Rattle.std.specs.Option.{option_map}
use Rattle.cep_term.specs.declared.term.Term.{Term}
use Rattle.cep_term.specs.Tree.{Tree, Trees, AtomTree, variable, node, none, more, tree_of, IsGround, OccursIn}

-- for each variable, by its number, its value or that it has none
abbrev pub Values : Type 0
Values = List (Option Tree)

-- the values that terms with boxes stand for
abbrev pub values_of : List (Option Term) → Values
values_of terms = map (option_map tree_of) terms

-- the value of the variable, and None also where there is no such variable
abbrev pub value_of : Values → ℕ → Option Tree
value_of values v = slice_index_or values v None

-- Every value is ground.
abbrev pub AreGroundValues : Values → Type 0
AreGroundValues values = (v : ℕ) (t : Tree) → value_of values v ≡ Some t → IsGround t

-- the term with each variable that has a value replaced by it
abbrev mutual
  pub term_instance : Values → Tree → Tree
  term_instance values (variable v) = unwrap_or (value_of values v) (variable v)
  term_instance values (node c args) = node c (argument_instances values args)

  pub argument_instances : Values → Trees → Trees
  argument_instances values none = none
  argument_instances values (more t rest) = more (term_instance values t) (argument_instances values rest)

-- the atom with each variable that has a value replaced by it
abbrev pub atom_instance : Values → AtomTree → AtomTree
atom_instance values a = record { pred = a.pred; args = argument_instances values a.args }

-- Each variable of the pattern has a value.
abbrev pub HasValues : Values → AtomTree → Type 0
HasValues values a = (v : ℕ) → OccursIn v a → IsSome (value_of values v)

-- New has the values of old, and maybe values of further variables.
abbrev pub Extends : Values → Values → Type 0
Extends old new = (v : ℕ) (t : Tree) → value_of old v ≡ Some t → value_of new v ≡ Some t

-- New has the values of old, and besides exactly values of the variables for which it is wanted; where those of old are ground, all are.
pub record Grows (IsWanted : ℕ → Type 0) (old new : Values) : Type 0 where
  pub kept : Extends old new
  pub set : (v : ℕ) → IsWanted v → IsSome (value_of new v)
  pub others : (v : ℕ) → ¬ (IsWanted v) → value_of new v ≡ value_of old v
  pub as_many : length new ≡ length old
  pub known : AreGroundValues old → AreGroundValues new

-- The pattern meets the atom under the values old, and new has besides these exactly the values of the pattern's other variables that make the two equal.
pub record Meets (old new : Values) (pattern target : AtomTree) : Type 0 where
  pub equal : atom_instance new pattern ≡ target
  pub kept : Extends old new
  pub set : HasValues new pattern
  pub others : (v : ℕ) → ¬ (OccursIn v pattern) → value_of new v ≡ value_of old v
  pub as_many : length new ≡ length old

-- No values of further variables make the pattern and the atom equal.
abbrev pub NeverMeets : Values → AtomTree → AtomTree → Type 0
NeverMeets old pattern target = (values : Values) → Extends old values → atom_instance values pattern ≢ target
