-- The laws of multisets on which proofs of other crates rest.
use Rattle.std.specs.Prelude.{◌≡◌, ◌≢◌, ℕ, ◌+◌, ◌-◌, ◌*◌, ◌≤◌, ◌<◌, ◌↔◌, Bool, true, false, List, ◌++◌, length, sum_by, slice_get, Some, Contains}
use Rattle.std.specs.List.{AllByRecursion}
use Rattle.std.specs.declared.cmp.Ordering.TheVariants.{Less}
use Rattle.std.specs.Cmp.{IsTotalOrder}
use Rattle.std.specs.FinMap as finite
use Rattle.cep_term.specs.Tree.{AtomTree, IsGroundAtom, atom_nodes}
use Rattle.cep_term.specs.Order.{atom_cmp}
use Rattle.cep_term.specs.Multiset.{Multiset, count_of, with_count, with_one, gathered, sum_of, difference_of, copies_in, nodes_in_all, IsContained, IsBag, held, once, IsOnce, gained, without}

-- What setting a count, sums, differences and gathering do to counts, copies and nodes, and that the counts say which multiset it is.
pub record BagLaws : Type 0 where
  -- the order of atoms, in which the entries stand
  pub total : IsTotalOrder atom_cmp
  pub ties : finite.IsAntisymmetric atom_cmp
  -- the multiset without atoms
  pub empty : (a : AtomTree) → count_of finite.empty a ≡ 0
  pub empty_copies : copies_in finite.empty ≡ 0
  pub empty_nodes : nodes_in_all finite.empty ≡ 0
  pub empty_kept : IsBag finite.empty
  -- a count that is set
  pub own : (bag : Multiset) (a : AtomTree) (n : ℕ) → count_of (with_count bag a n) a ≡ n
  pub others : (bag : Multiset) (a q : AtomTree) (n : ℕ) → q ≢ a → count_of (with_count bag a n) q ≡ count_of bag q
  pub set_copies : (bag : Multiset) (a : AtomTree) (n : ℕ) → copies_in (with_count bag a n) + count_of bag a ≡ copies_in bag + n
  pub set_nodes : (bag : Multiset) (a : AtomTree) (n : ℕ) → nodes_in_all (with_count bag a n) + count_of bag a * atom_nodes a ≡ nodes_in_all bag + n * atom_nodes a
  pub set_kept : (bag : Multiset) (a : AtomTree) (n : ℕ) → IsGroundAtom a → IsBag bag → IsBag (with_count bag a n)
  -- counts decide
  pub equal : (bag other : Multiset) → IsBag bag → IsBag other → ((a : AtomTree) → count_of bag a ≡ count_of other a) → bag ≡ other
  pub within : (bag : Multiset) (a : AtomTree) → count_of bag a ≤ copies_in bag
  -- sums and differences
  pub sum : (bag other : Multiset) (a : AtomTree) → count_of (sum_of bag other) a ≡ count_of bag a + count_of other a
  pub sum_copies : (bag other : Multiset) → copies_in (sum_of bag other) ≡ copies_in bag + copies_in other
  pub sum_nodes : (bag other : Multiset) → nodes_in_all (sum_of bag other) ≡ nodes_in_all bag + nodes_in_all other
  pub sum_kept : (bag other : Multiset) → IsBag bag → IsBag other → IsBag (sum_of bag other)
  pub sum_commutes : (bag other : Multiset) → IsBag bag → IsBag other → sum_of bag other ≡ sum_of other bag
  pub sum_groups : (x y z : Multiset) → IsBag x → IsBag y → IsBag z → sum_of (sum_of x y) z ≡ sum_of x (sum_of y z)
  pub difference : (bag other : Multiset) (a : AtomTree) → count_of (difference_of bag other) a ≡ count_of bag a - count_of other a
  pub difference_kept : (bag other : Multiset) → IsBag bag → IsBag other → IsBag (difference_of bag other)
  pub taken_and_added : (bag other : Multiset) → IsBag bag → IsBag other → IsContained other bag → sum_of (difference_of bag other) other ≡ bag
  pub added_and_taken : (bag other : Multiset) → IsBag bag → IsBag other → difference_of (sum_of bag other) other ≡ bag
  -- the entries, by their places
  pub earlier_is_less : (bag : Multiset) (i j : ℕ) (a b : AtomTree) (m n : ℕ) → i < j → slice_get (finite.entries bag) i ≡ Some (a, m) → slice_get (finite.entries bag) j ≡ Some (b, n) → atom_cmp a b ≡ Less
  pub entry_counted : (bag : Multiset) (i : ℕ) (a : AtomTree) (n : ℕ) → slice_get (finite.entries bag) i ≡ Some (a, n) → count_of bag a ≡ n
  pub entry_there : (bag : Multiset) (a : AtomTree) → 0 < count_of bag a → (i : ℕ) × (slice_get (finite.entries bag) i ≡ Some (a, count_of bag a))
  -- lists of atoms
  pub gathered_kept : (atoms : List AtomTree) → AllByRecursion IsGroundAtom atoms → IsBag (gathered atoms)
  pub gathered_joined : (xs ys : List AtomTree) → AllByRecursion IsGroundAtom xs → AllByRecursion IsGroundAtom ys → gathered (xs ++ ys) ≡ sum_of (gathered xs) (gathered ys)
  pub gathered_copies : (atoms : List AtomTree) → copies_in (gathered atoms) ≡ length atoms
  pub gathered_nodes : (atoms : List AtomTree) → nodes_in_all (gathered atoms) ≡ sum_by atom_nodes atoms
  pub gathered_there : (atoms : List AtomTree) (a : AtomTree) → (0 < count_of (gathered atoms) a) ↔ Contains atoms a
  pub sum_with_one : (bag other : Multiset) (a : AtomTree) → IsGroundAtom a → IsBag bag → IsBag other → sum_of (with_one bag a) other ≡ with_one (sum_of bag other) a
  pub joined_count : (xs ys : List AtomTree) (a : AtomTree) → count_of (gathered (xs ++ ys)) a ≡ count_of (gathered xs) a + count_of (gathered ys) a
  -- atoms that are held once
  pub once_count : (test : AtomTree → Bool) (bag : Multiset) (a : AtomTree) → count_of (once test bag) a ≡ held (test a) (count_of bag a)
  pub once_kept : (test : AtomTree → Bool) (bag : Multiset) → IsBag bag → IsBag (once test bag)
  pub once_copies : (test : AtomTree → Bool) (bag : Multiset) → ((a : AtomTree) → finite.get bag a ≢ Some 0) → (a : AtomTree) → finite.get (once test bag) a ≢ Some 0
  pub once_same : (test : AtomTree → Bool) (bag : Multiset) → IsBag bag → IsOnce test bag → once test bag ≡ bag
  pub once_gains : (test : AtomTree → Bool) (bag : Multiset) (atoms : List AtomTree) → IsBag bag → IsOnce test bag → AllByRecursion IsGroundAtom atoms → once test (sum_of bag (gathered atoms)) ≡ sum_of bag (gathered (gained test bag atoms))
  pub once_gathered : (test : AtomTree → Bool) (atoms : List AtomTree) → AllByRecursion IsGroundAtom atoms → once test (gathered atoms) ≡ gathered (gained test finite.empty atoms)
  pub gained_alike : (test : AtomTree → Bool) (bag other : Multiset) (atoms : List AtomTree) → ((a : AtomTree) → test a ≡ true → count_of bag a ≡ count_of other a) → gained test bag atoms ≡ gained test other atoms
  pub gained_among : (test : AtomTree → Bool) (bag : Multiset) (atoms : List AtomTree) (x : AtomTree) → Contains (gained test bag atoms) x → Contains atoms x
  pub gained_few : (test : AtomTree → Bool) (bag : Multiset) (atoms : List AtomTree) → length (gained test bag atoms) ≤ length atoms
  pub gained_ground : (test : AtomTree → Bool) (bag : Multiset) (atoms : List AtomTree) → AllByRecursion IsGroundAtom atoms → AllByRecursion IsGroundAtom (gained test bag atoms)
  pub without_others : (test : AtomTree → Bool) (atoms : List AtomTree) (a : AtomTree) → test a ≡ false → count_of (gathered (without test atoms)) a ≡ count_of (gathered atoms) a
  pub without_those : (test : AtomTree → Bool) (atoms : List AtomTree) (a : AtomTree) → test a ≡ true → count_of (gathered (without test atoms)) a ≡ 0
