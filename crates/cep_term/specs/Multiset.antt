-- Multisets of atoms: for each atom that is there how many copies there are.
use Rattle.std.specs.Prelude.{ℕ, ◌+◌, ◌-◌, ◌*◌, ◌≡◌, ◌≤◌, ◌<◌, ◌==◌, ◌&&◌, if◌then◌else◌, Bool, true, false, not, min, nat_lt, List, [], ◌∷◌, length, map, filter, take, fold, sum_by, unwrap_or}
use Rattle.std.specs.List.{AllByRecursion}
use Rattle.std.specs.FinMap as finite
use Rattle.cep_term.specs.Tree.{AtomTree, IsGroundAtom, atom_nodes}
use Rattle.cep_term.specs.Order.{atom_cmp}

-- a finite map from atoms to counts; its entries stand in the order of the atoms
abbrev pub Multiset : Type 0
Multiset = finite.FinMap atom_cmp ℕ

-- how many copies of the atom there are, and 0 where it is not there
abbrev pub count_of : Multiset → AtomTree → ℕ
count_of bag a = unwrap_or (finite.get bag a) 0

-- the multiset with this count of the atom, and with the old counts of all others
abbrev pub with_count : Multiset → AtomTree → ℕ → Multiset
with_count bag a count = if count == 0 then finite.remove bag a else finite.insert bag a count

-- one copy of the atom more
abbrev pub with_one : Multiset → AtomTree → Multiset
with_one bag a = with_count bag a (count_of bag a + 1)

-- one copy of the atom less, where there is one
abbrev pub without_one : Multiset → AtomTree → Multiset
without_one bag a = with_count bag a (count_of bag a - 1)

-- the multiset of a list of atoms, one copy for each time that one stands there
abbrev pub gathered : List AtomTree → Multiset
gathered [] = finite.empty
gathered (a ∷ atoms) = with_one (gathered atoms) a

-- the copies of both
abbrev pub sum_of : Multiset → Multiset → Multiset
sum_of bag other = fold (λ (so_far : Multiset) e. with_count so_far e.0 (count_of so_far e.0 + e.1)) bag (finite.entries other)

-- the copies of the first without those of the other
abbrev pub difference_of : Multiset → Multiset → Multiset
difference_of bag other = fold (λ (so_far : Multiset) e. with_count so_far e.0 (count_of so_far e.0 - e.1)) bag (finite.entries other)

-- No count of few is greater than that of many.
abbrev pub IsContained : Multiset → Multiset → Type 0
IsContained few many = (a : AtomTree) → count_of few a ≤ count_of many a

-- how many copies there are in all
abbrev pub copies_in : Multiset → ℕ
copies_in bag = sum_by (λ e. e.1) (finite.entries bag)

-- how many nodes there are in all, each copy counted
abbrev pub nodes_in_all : Multiset → ℕ
nodes_in_all bag = sum_by (λ e. e.1 * atom_nodes e.0) (finite.entries bag)

-- The entry is of a ground atom, and there is a copy of it.
abbrev pub IsEntry : AtomTree × ℕ → Type 0
IsEntry e = (0 < e.1) × IsGroundAtom e.0

-- Each atom that is there is ground and has a copy, so that the counts alone say which multiset it is.
abbrev pub IsBag : Multiset → Type 0
IsBag bag = AllByRecursion IsEntry (finite.entries bag)

-- A prefix of the atoms was added to the old multiset, and it is not the whole list.
pub record AddsFront (old new : Multiset) (atoms : List AtomTree) : Type 0 where
  pub added : ℕ
  pub before : added < length atoms
  pub sum : new ≡ sum_of old (gathered (take added atoms))

-- how many copies are held where so many come together: one at most of an atom that is held once, and else all
abbrev pub held : Bool → ℕ → ℕ
held true n = min 1 n
held false n = n

-- the multiset with at most one copy of each atom that passes the test
abbrev pub once : (AtomTree → Bool) → Multiset → Multiset
once test bag = finite.from_sorted (map (λ e. (e.0, held (test e.0) e.1)) (finite.entries bag))

-- Of each atom that passes the test there is one copy at most.
abbrev pub IsOnce : (AtomTree → Bool) → Multiset → Type 0
IsOnce test bag = (a : AtomTree) → test a ≡ true → count_of bag a ≤ 1

-- of atoms that are added in this order, those that are gained: all but those that pass the test and are there, or stand earlier
abbrev pub gained : (AtomTree → Bool) → Multiset → List AtomTree → List AtomTree
gained test bag [] = []
gained test bag (a ∷ atoms) = if test a && nat_lt 0 (count_of bag a) then gained test bag atoms else a ∷ gained test (with_one bag a) atoms

-- the atoms that do not pass the test
abbrev pub without : (AtomTree → Bool) → List AtomTree → List AtomTree
without test atoms = filter (λ a. not (test a)) atoms
