-- Tables: which stages may be reached, which predicates may have atoms, and which constructors these may have at their positions.
use Rattle.std.specs.Prelude.{◌≡◌, ◌⊎◌, ℕ, zero, suc, List, Option, Some, None, slice_get, IsSomeAnd, Contains}
use Rattle.std.specs.List.{AllByRecursion}
use Rattle.cep_term.specs.Tree.{Tree, Trees, AtomTree, variable, node, none, more}
use Rattle.cep_rule.specs.declared.signature.Signature.{Signature}

-- What may stand in a table: a stage; a predicate; or, of a predicate and a position of its atoms, a constructor.
pub data Possibility : Type 0 where
  of_stage : ℕ → Possibility
  of_pred : ℕ → Possibility
  of_con : ℕ → ℕ → ℕ → Possibility

-- A table: a set of items.
abbrev pub Table : Type 1
Table = Possibility → Type 0

-- the argument at a position, counted from 0
abbrev pub nth_argument : Trees → ℕ → Option Tree
nth_argument none i = None
nth_argument (more t rest) zero = Some t
nth_argument (more t rest) (suc i) = nth_argument rest i

-- The atom has the constructor at the position.
abbrev pub HasConAt : AtomTree → ℕ → ℕ → Type 0
HasConAt a i c = (args : Trees) × (nth_argument a.args i ≡ Some (node c args))

-- The variable stands by itself at the position of the atom.
abbrev pub HasVarAt : AtomTree → ℕ → ℕ → Type 0
HasVarAt a i v = nth_argument a.args i ≡ Some (variable v)

-- The variable stands by itself at some position of some atom of the list.
abbrev pub StandsAlone : List AtomTree → ℕ → Type 0
StandsAlone atoms v = (a : AtomTree) × Contains atoms a × ((i : ℕ) × HasVarAt a i v)

-- An atom is open in a table: its predicate is there, and each constructor that it has at a position is there for that position.
pub record IsOpen (table : Possibility → Type 0) (a : AtomTree) : Type 0 where
  pub pred : table (of_pred a.pred)
  pub cons : (i c : ℕ) → HasConAt a i c → table (of_con a.pred i c)

-- The constructor is in the set of the variable: in the table for each position of a premise where the variable stands by itself; and where it stands by itself nowhere, of its type.
pub record CanBegin (signature : Signature) (table : Possibility → Type 0) (kinds : List ℕ) (premises : List AtomTree) (v c : ℕ) : Type 0 where
  pub at_each : (a : AtomTree) (i : ℕ) → Contains premises a → HasVarAt a i v → table (of_con a.pred i c)
  pub typed : ¬ StandsAlone premises v → IsSomeAnd (slice_get signature.cons c) (λ con. slice_get kinds v ≡ Some con.sort)

-- Premises pass a table: each is open, and no set of a variable that stands by itself at a position of a premise is empty.
pub record PremisesPass (signature : Signature) (table : Possibility → Type 0) (kinds : List ℕ) (premises : List AtomTree) : Type 0 where
  pub opened : AllByRecursion (IsOpen table) premises
  pub possible : (v : ℕ) → StandsAlone premises v → (c : ℕ) × CanBegin signature table kinds premises v c

-- The item is one of those that an atom adds where these premises pass: its predicate, and at each position the constructor that stands there, or each in the set of the variable that stands there.
abbrev pub AtomAdds : Signature → (Possibility → Type 0) → List ℕ → List AtomTree → AtomTree → Possibility → Type 0
AtomAdds signature table kinds premises a (of_stage k) = ⊥
AtomAdds signature table kinds premises a (of_pred p) = p ≡ a.pred
AtomAdds signature table kinds premises a (of_con p i c) =
    (p ≡ a.pred) × (HasConAt a i c ⊎ ((v : ℕ) × HasVarAt a i v × CanBegin signature table kinds premises v c))
