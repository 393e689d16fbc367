-- Laws of multisets: their edits, sums and differences, by entries and by counts.
use Rattle.std.proofs.Common.{◌≡◌, ℕ, ◌+◌, ◌-◌, ◌*◌, ◌<◌, ◌≤◌, cond, ◌≢◌, List, [], ◌∷◌, ◌++◌, Option, Some, unwrap_or, refl, sym, ap, ◌∙◌, arith, Bool, true, false, length, map, take, Result, Ok, Err, ◌↔◌, subst, zero, suc, Contains, T, ◌&&◌, ⊎_elim}
use Rattle.std.specs.Prelude.{fold, sum_by, slice_get, OnOk, OnErr, IsErr, nat_lt, option_map}
use Rattle.std.specs.List.{AllByRecursion}
use Rattle.std.proofs.lemmas.List.Sums.{sum_by-cons}
use Rattle.std.proofs.Math.Nat.{zero-mul, add-mul}
use Rattle.std.specs.Ordering.{eq_by_cmp, is_lt}
use Rattle.std.specs.Cmp.{tied_itself, Equal-is, eq_by_cmp_equiv}
use Rattle.std.specs.FinMap as finite
use Rattle.std.specs.FinMap.Entries.{find, below_all, is_sorted}
use Rattle.cep_base.proofs.SortedEntries.{below_rest, rest_sorted, find_below, greater}
use Rattle.cep_term.specs.Tree.{AtomTree, IsGroundAtom, atom_nodes}
use Rattle.cep_term.specs.Order.{atom_cmp}
use Rattle.cep_term.specs.Multiset.{Multiset, count_of, with_count, with_one, gathered, sum_of, difference_of, copies_in, nodes_in_all, IsContained, IsBag, IsEntry, without_one, held, once, gained, without, IsOnce}
use Rattle.cep_term.specs.Entries.{IsRising, find_count, set_among}
use Rattle.cep_term.proofs.OrderLaws.{atom_cmp_total, atom_cmp_ties}
use Rattle.cep_term.proofs.BlockEdits.{Counted, is_true, worth_of, worth_set, each_set, rising_set, bag_set, entries_rising, total, count_le_total, no_entries, empty_seen}
use Rattle.std.proofs.lemmas.List.{take_all}
use Rattle.cep_base.proofs.Lists.{holds_at, all_taken, take_next, fold_more, none_some, some_same}
use Rattle.std.specs.declared.cmp.Ordering.TheVariants.{Less}
use Rattle.cep_base.proofs.Sorted.{below_each}
use Rattle.cep_base.proofs.Elements.{contains_none, contains_cases, contains_same, contains_behind}

-- Laws of multisets: what their edits, sums and differences do to counts, copies and nodes.

-- the entries of a multiset rise, and are all that it is
pub entries_rise : (bag : Multiset) → IsRising (finite.entries bag)
entries_rise bag = is_true (finite.entries_sorted bag)

pub from_entries : (bag : Multiset) → finite.from_sorted (finite.entries bag) ≡ bag
from_entries bag = finite.same_entries_map _ _ (entries_rising (finite.entries bag) (entries_rise bag))

-- a count among the entries
pub count_among_entries : (bag : Multiset) (a : AtomTree) → find_count (finite.entries bag) a ≡ count_of bag a
count_among_entries bag a = ap (λ o. unwrap_or o 0) (sym (finite.get-entries bag a))

-- the entries after a count is set
pub entries_set : (bag : Multiset) (a : AtomTree) (n : ℕ) → finite.entries (with_count bag a n) ≡ set_among (finite.entries bag) a n
entries_set bag a n = grind (arith, from_entries bag, bag_set (finite.entries bag) a n (entries_rise bag), entries_rising (set_among (finite.entries bag) a n) (rising_set (finite.entries bag) a n (entries_rise bag)))

-- the count of an atom after one was set
pub count_set : (bag : Multiset) (a q : AtomTree) (n : ℕ) → count_of (with_count bag a n) q ≡ cond (eq_by_cmp atom_cmp q a) n (count_of bag q)
count_set bag a q n = grind (arith, finite.get-remove atom_cmp_total bag a q, finite.get-insert atom_cmp_total bag a n q)

pub count_set_own : (bag : Multiset) (a : AtomTree) (n : ℕ) → count_of (with_count bag a n) a ≡ n
count_set_own bag a n = grind (arith, count_set bag a a n, tied_itself atom_cmp_total a)

pub count_set_other : (bag : Multiset) (a q : AtomTree) (n : ℕ) → q ≢ a → count_of (with_count bag a n) q ≡ count_of bag q
count_set_other bag a q n apart = grind (arith, count_set bag a q n, atom_cmp_ties q a)

-- the multiset without atoms has no copy of any
pub count_empty : (q : AtomTree) → count_of finite.empty q ≡ 0
count_empty q = ap (λ o. unwrap_or o 0) (finite.get-empty atom_cmp q)

-- and none at all, and so no nodes
pub entries_empty : finite.entries (finite.empty {X = ℕ} {R = atom_cmp}) ≡ no_entries
entries_empty = ap (λ z. finite.entries z) (sym empty_seen) ∙ entries_rising no_entries refl

pub copies_empty : copies_in finite.empty ≡ 0
copies_empty = ap total entries_empty

pub nodes_empty : nodes_in_all finite.empty ≡ 0
nodes_empty = ap (λ es. sum_by (λ e. e.1 * atom_nodes e.0) es) entries_empty

pub bag_empty : IsBag finite.empty
bag_empty = rw entries_empty tt

pub bag_set_count : (bag : Multiset) (a : AtomTree) (n : ℕ) → IsGroundAtom a → IsBag bag → IsBag (with_count bag a n)
bag_set_count bag a n known kept = rw (entries_set bag a n) (each_set (finite.entries bag) a n known kept)

-- a fold that sets the count of each entry's atom by a rule sets it once, for an entry
module _ (rule : ℕ → ℕ → ℕ) (unchanged : (n : ℕ) → rule n 0 ≡ n) where
  abbrev pub each_by : List Counted → Multiset → Multiset
  each_by es bag = fold (λ (so_far : Multiset) e. with_count so_far e.0 (rule (count_of so_far e.0) e.1)) bag es

  pub count_each : (es : List Counted) (bag : Multiset) (q : AtomTree) → IsRising es → count_of (each_by es bag) q ≡ rule (count_of bag q) (find_count es q)
  count_each [] bag q rising = sym (unchanged (count_of bag q))
  count_each (e ∷ es) bag q rising = grind (arith, count_each es (with_count bag e.0 (rule (count_of bag e.0) e.1)) q (rest_sorted atom_cmp e es rising), count_set bag e.0 q (rule (count_of bag e.0) e.1), atom_cmp_ties q e.0, below_rest atom_cmp e es rising, find_below atom_cmp q es, unchanged)

  -- ground atoms with copies stay such
  pub bag_each : (es : List Counted) (bag : Multiset) → AllByRecursion IsEntry es → IsBag bag → IsBag (each_by es bag)
  bag_each [] bag all kept = kept
  bag_each (e ∷ es) bag all kept = bag_each es _ all.1 (bag_set_count bag e.0 (rule (count_of bag e.0) e.1) all.0.1 kept)

-- the counts of a sum and of a difference
pub count_sum : (bag other : Multiset) (q : AtomTree) → count_of (sum_of bag other) q ≡ count_of bag q + count_of other q
count_sum bag other q = rw (← count_among_entries other q) (count_each (λ n m. n + m) (λ n. omega arith) (finite.entries other) bag q (entries_rise other))

pub count_difference : (bag other : Multiset) (q : AtomTree) → count_of (difference_of bag other) q ≡ count_of bag q - count_of other q
count_difference bag other q = rw (← count_among_entries other q) (count_each (λ n m. n - m) (λ n. omega arith) (finite.entries other) bag q (entries_rise other))

pub bag_sum : (bag other : Multiset) → IsBag bag → IsBag other → IsBag (sum_of bag other)
bag_sum bag other kept others = bag_each (λ n m. n + m) (λ n. omega arith) (finite.entries other) bag others kept

pub bag_difference : (bag other : Multiset) → IsBag bag → IsBag other → IsBag (difference_of bag other)
bag_difference bag other kept others = bag_each (λ n m. n - m) (λ n. omega arith) (finite.entries other) bag others kept

-- a count that is found is not 0
found_some : (es : List Counted) (q : AtomTree) (n : ℕ) → AllByRecursion IsEntry es → find atom_cmp q es ≡ Some n → 0 < n
found_some [] q n all e = cc
found_some (e ∷ es) q n all found = grind (arith, found_some es q n all.1)

-- so multisets of ground atoms with copies are equal where their counts are
same_found : (x y : Option ℕ) → ((n : ℕ) → x ≡ Some n → 0 < n) → ((n : ℕ) → y ≡ Some n → 0 < n) → unwrap_or x 0 ≡ unwrap_or y 0 → x ≡ y
same_found x y f g e = grind arith

pub same_counts : (bag other : Multiset) → IsBag bag → IsBag other → ((q : AtomTree) → count_of bag q ≡ count_of other q) → bag ≡ other
same_counts bag other kept others same = finite.same_map atom_cmp_total atom_cmp_ties bag other (λ q.
    same_found (finite.get bag q) (finite.get other q)
    (λ n e. found_some (finite.entries bag) q n kept (sym (finite.get-entries bag q) ∙ e))
    (λ n e. found_some (finite.entries other) q n others (sym (finite.get-entries other q) ∙ e)) (same q))

-- what is taken from a multiset and added again leaves it as it was, and the other way round
pub sum_of_difference : (bag other : Multiset) → IsBag bag → IsBag other → IsContained other bag → sum_of (difference_of bag other) other ≡ bag
sum_of_difference bag other kept others contained = grind (arith, same_counts, bag_sum, bag_difference, count_sum, count_difference)

pub difference_of_sum : (bag other : Multiset) → IsBag bag → IsBag other → difference_of (sum_of bag other) other ≡ bag
difference_of_sum bag other kept others = grind (arith, same_counts, bag_difference, bag_sum, count_difference, count_sum)

-- an atom's count is at most the number of copies
pub count_le_copies : (bag : Multiset) (a : AtomTree) → count_of bag a ≤ copies_in bag
count_le_copies bag a = omega (arith, count_le_total (finite.entries bag) a, count_among_entries bag a)

-- the worth of a multiset after a count is set, and of a sum
module _ (worth : AtomTree → ℕ → ℕ) (nothing : (a : AtomTree) → worth a 0 ≡ 0) where
  pub worth_set_count : (bag : Multiset) (a : AtomTree) (n : ℕ) → worth_of worth nothing (finite.entries (with_count bag a n)) + worth a (count_of bag a) ≡ worth_of worth nothing (finite.entries bag) + worth a n
  worth_set_count bag a n = grind (arith, worth_of, entries_set, worth_set, entries_rise, count_among_entries)

  pub worth_sum : ((a : AtomTree) (n m : ℕ) → worth a (n + m) ≡ worth a n + worth a m) → (es : List Counted) (bag : Multiset)
      → worth_of worth nothing (finite.entries (each_by (λ n m. n + m) (λ n. omega arith) es bag)) ≡ worth_of worth nothing (finite.entries bag) + worth_of worth nothing es
  worth_sum adds [] bag = omega arith
  worth_sum adds (e ∷ es) bag =
      let next = with_count bag e.0 (count_of bag e.0 + e.1) in
      omega (arith, worth_sum adds es next, worth_set_count bag e.0 (count_of bag e.0 + e.1), adds e.0 (count_of bag e.0) e.1, sum_by-cons (λ (d : Counted). worth d.0 d.1) e es)

-- no copies have no nodes
no_nodes : (a : AtomTree) → 0 * atom_nodes a ≡ 0
no_nodes a = zero-mul (atom_nodes a)

pub copies_set_count : (bag : Multiset) (a : AtomTree) (n : ℕ) → copies_in (with_count bag a n) + count_of bag a ≡ copies_in bag + n
copies_set_count = worth_set_count (λ a n. n) (λ a. refl)

pub nodes_set_count : (bag : Multiset) (a : AtomTree) (n : ℕ) → nodes_in_all (with_count bag a n) + count_of bag a * atom_nodes a ≡ nodes_in_all bag + n * atom_nodes a
nodes_set_count = worth_set_count (λ a n. n * atom_nodes a) no_nodes

pub copies_sum : (bag other : Multiset) → copies_in (sum_of bag other) ≡ copies_in bag + copies_in other
copies_sum bag other = worth_sum (λ a n. n) (λ a. refl) (λ a n m. refl) (finite.entries other) bag

pub nodes_sum : (bag other : Multiset) → nodes_in_all (sum_of bag other) ≡ nodes_in_all bag + nodes_in_all other
nodes_sum bag other = worth_sum (λ a n. n * atom_nodes a) no_nodes (λ a n m. add-mul n m (atom_nodes a)) (finite.entries other) bag

-- what one copy more makes of the copies
pub copies_with_one : (bag : Multiset) (a : AtomTree) → copies_in (with_count bag a (count_of bag a + 1)) ≡ copies_in bag + 1
copies_with_one bag a = omega (arith, copies_set_count bag a (count_of bag a + 1))

-- sums may be taken in any order and grouping
pub sum_commutes : (bag other : Multiset) → IsBag bag → IsBag other → sum_of bag other ≡ sum_of other bag
sum_commutes bag other kept others = grind (arith, same_counts, bag_sum, count_sum)

pub sum_groups : (x y z : Multiset) → IsBag x → IsBag y → IsBag z → sum_of (sum_of x y) z ≡ sum_of x (sum_of y z)
sum_groups x y z p q r = grind (arith, same_counts, bag_sum, count_sum)

-- one copy more of either part is one copy more of the sum
pub sum_with_one : (bag other : Multiset) (a : AtomTree) → IsGroundAtom a → IsBag bag → IsBag other → sum_of (with_one bag a) other ≡ with_one (sum_of bag other) a
sum_with_one bag other a known kept others =
    let more = with_one bag a in
    let all = sum_of bag other in
    same_counts _ _ (bag_sum more other (bag_set_count bag a (count_of bag a + 1) known kept) others) (bag_set_count all a (count_of all a + 1) known (bag_sum bag other kept others)) (λ q.
    grind (arith, count_sum more other q, count_sum bag other a, count_sum bag other q, count_set bag a q (count_of bag a + 1), count_set all a q (count_of all a + 1), atom_cmp_ties q a))

-- the multiset of a list of ground atoms, and of two lists together
pub bag_gathered : (atoms : List AtomTree) → AllByRecursion IsGroundAtom atoms → IsBag (gathered atoms)
bag_gathered [] all = bag_empty
bag_gathered (a ∷ atoms) all = bag_set_count (gathered atoms) a (count_of (gathered atoms) a + 1) all.0 (bag_gathered atoms all.1)

pub gathered-append : (xs ys : List AtomTree) → AllByRecursion IsGroundAtom xs → AllByRecursion IsGroundAtom ys → gathered (xs ++ ys) ≡ sum_of (gathered xs) (gathered ys)
gathered-append [] ys p q = grind (arith, same_counts, bag_gathered, bag_sum, bag_empty, count_sum, count_empty)
gathered-append (x ∷ xs) ys p q = ap (λ z. with_one z x) (gathered-append xs ys p.1 q) ∙ sym (sum_with_one (gathered xs) (gathered ys) x p.0 (bag_gathered xs p.1) (bag_gathered ys q))

-- Atoms and whole multisets that are added to a multiset and taken from it one by one.

-- nothing is added yet
pub sum_none : (bag : Multiset) → bag ≡ sum_of bag (gathered [])
sum_none bag = sym (ap (λ es. fold (λ (so_far : Multiset) e. with_count so_far e.0 (count_of so_far e.0 + e.1)) bag es) entries_empty)

-- and nothing is left to add
pub sum_ended : {A : Type 0} (f : A → AtomTree) (bag : Multiset) (rest : List A) → length rest ≡ 0 → sum_of bag (gathered (map f rest)) ≡ bag
sum_ended f bag [] none = sym (sum_none bag)
sum_ended f bag (x ∷ rest) none = absurd (omega arith)

-- the sum with nothing before it
pub sum_alone : (bag : Multiset) → IsBag bag → sum_of finite.empty bag ≡ bag
sum_alone bag kept = same_counts _ bag (bag_sum finite.empty bag bag_empty kept) kept (λ q. omega (arith, count_sum finite.empty bag q, count_empty q))

-- a list of one atom is one copy more
sum_one : (bag : Multiset) (a : AtomTree) → IsGroundAtom a → IsBag bag → sum_of bag (gathered (a ∷ [])) ≡ with_one bag a
sum_one bag a known kept = grind (arith, sum_commutes, bag_set_count, bag_empty, sum_with_one, sum_alone)

-- one atom more is added
pub sum_more : (bag : Multiset) (atoms : List AtomTree) (n : ℕ) (a : AtomTree) → IsBag bag → AllByRecursion IsGroundAtom atoms → slice_get atoms n ≡ Some a → with_one (sum_of bag (gathered (take n atoms))) a ≡ sum_of bag (gathered (take (n + 1) atoms))
sum_more bag atoms n a kept known is =
    let before = take n atoms in
    let ground : IsGroundAtom a = holds_at IsGroundAtom atoms n a known is in
    let front : AllByRecursion IsGroundAtom before = all_taken IsGroundAtom atoms n known in
    let one : AllByRecursion IsGroundAtom (a ∷ []) = (ground, tt) in
    sym (sum_one (sum_of bag (gathered before)) a ground (bag_sum bag (gathered before) kept (bag_gathered before front)))
    ∙ sum_groups bag (gathered before) (gathered (a ∷ [])) kept (bag_gathered before front) (bag_gathered (a ∷ []) one)
    ∙ ap (λ z. sum_of bag z) (sym (gathered-append before (a ∷ []) front one))
    ∙ ap (λ xs. sum_of bag (gathered xs)) (sym (take_next atoms n a is))

-- an atom that was added is none of those that are still to come
pub sum_onward : (bag : Multiset) (a : AtomTree) (rest : List AtomTree) → IsBag bag → AllByRecursion IsGroundAtom (a ∷ rest) → sum_of (with_one bag a) (gathered rest) ≡ sum_of bag (gathered (a ∷ rest))
sum_onward bag a rest kept known =
    let others = bag_gathered rest known.1 in
    sum_with_one bag (gathered rest) a known.0 kept others
    ∙ ap (λ (z : Multiset). with_one z a) (sum_commutes bag (gathered rest) kept others)
    ∙ sym (sum_with_one (gathered rest) bag a known.0 others kept)
    ∙ sum_commutes (with_one (gathered rest) a) bag (bag_gathered (a ∷ rest) known) kept

pub bag_with_one : (bag new : Multiset) (a : AtomTree) → IsGroundAtom a → IsBag bag → new ≡ with_one bag a → IsBag new
bag_with_one bag new a ground kept is = subst IsBag (sym is) (bag_set_count bag a (count_of bag a + 1) ground kept)

-- the multiset without so many copies of the entry's atom
abbrev pub without_entry : Multiset → Counted → Multiset
without_entry so_far e = with_count so_far e.0 (count_of so_far e.0 - e.1)

-- the multiset without the first entries of the other
abbrev pub without_first : Multiset → Multiset → ℕ → Multiset
without_first bag other n = fold without_entry bag (take n (finite.entries other))

-- one entry more is taken
pub taken_next : (bag other : Multiset) (n : ℕ) (a : AtomTree) (copies : ℕ) → slice_get (finite.entries other) n ≡ Some (a, copies) → without_first bag other (n + 1) ≡ without_entry (without_first bag other n) (a, copies)
taken_next bag other n a copies is =
    ap (λ es. fold without_entry bag es) (take_next (finite.entries other) n (a, copies) is)
    ∙ fold_more without_entry bag (take n (finite.entries other)) (a, copies)

-- all entries are taken
pub all_entries : (bag other : Multiset) (n : ℕ) → finite.len other ≤ n → without_first bag other n ≡ difference_of bag other
all_entries bag other n most = ap (λ es. fold without_entry bag es) (take_all n (finite.entries other) (subst (λ m. m ≤ n) (finite.len-entries other) most))

-- the atom of an entry is ground
pub ground_entry : (bag : Multiset) (n : ℕ) (a : AtomTree) (copies : ℕ) → IsBag bag → slice_get (finite.entries bag) n ≡ Some (a, copies) → IsGroundAtom a
ground_entry bag n a copies kept is = (holds_at IsEntry (finite.entries bag) n (a, copies) kept is).1

pub tied_atoms : (a b : AtomTree) → eq_by_cmp atom_cmp b a ≡ true → b ≡ a
tied_atoms a b e = atom_cmp_ties b a ((Equal-is (atom_cmp b a)).0 e)

-- a count that is set to what it is
pub set_same : (bag : Multiset) (a : AtomTree) → IsGroundAtom a → IsBag bag → with_count bag a (count_of bag a) ≡ bag
set_same bag a known kept = same_counts _ bag (bag_set_count bag a (count_of bag a) known kept) kept (λ b. count_set bag a b (count_of bag a) ∙ by b (eq_by_cmp atom_cmp b a) refl)
  where
    by : (b : AtomTree) (t : Bool) → eq_by_cmp atom_cmp b a ≡ t → cond t (count_of bag a) (count_of bag b) ≡ count_of bag b
    by b true e = ap (λ (x : AtomTree). count_of bag x) (sym (tied_atoms a b e))
    by b false e = refl

-- a count that is set twice
set_twice : (bag : Multiset) (a : AtomTree) (m n : ℕ) → IsGroundAtom a → IsBag bag → with_count (with_count bag a m) a n ≡ with_count bag a n
set_twice bag a m n known kept = grind (arith, same_counts, bag_set_count, count_set)

-- what one call of take leaves
taken_once : {T E : Type 0} (r : Result T E) (old new : Multiset) (a : AtomTree) → IsGroundAtom a → IsBag old → OnOk r (new ≡ without_one old a) → OnErr r (new ≡ old) → (IsErr r ↔ (count_of old a ≡ 0)) → new ≡ without_one old a
taken_once (Ok t) old new a known kept ok err missing = ok
taken_once (Err e) old new a known kept ok err missing = grind (arith, set_same, missing.0)

-- one copy more is taken
pub taken_more : {T E : Type 0} (r : Result T E) (bag old new : Multiset) (a : AtomTree) (k : ℕ) → IsGroundAtom a → IsBag bag → old ≡ with_count bag a (count_of bag a - k) → OnOk r (new ≡ without_one old a) → OnErr r (new ≡ old) → (IsErr r ↔ (count_of old a ≡ 0)) → new ≡ with_count bag a (count_of bag a - (k + 1))
taken_more r bag old new a k known kept was ok err missing = grind (arith, count_set_own, bag_set_count, taken_once, set_twice)

pub no_copy_less : (n : ℕ) → n ≡ n - 0
no_copy_less n = omega arith

pub kept_along : (bag new : Multiset) (a : AtomTree) (n : ℕ) → IsGroundAtom a → IsBag bag → new ≡ with_count bag a n → IsBag new
kept_along bag new a n known kept is = subst IsBag (sym is) (bag_set_count bag a n known kept)

-- for the functions that add and take lists of atoms
pub ruleset added = (copies_empty, count_le_copies, copies_with_one, sum_none, sum_alone, sum_more, bag_with_one, bag_gathered)

pub ruleset taken = (ground_entry, taken_next, all_entries, kept_along, set_same, taken_more, no_copy_less)

-- The entries of a multiset by their places: their atoms rise, each has its atom's count, and each atom that is there has one.

below_at : (x : AtomTree) (es : List Counted) → below_all atom_cmp x es ≡ true → (j : ℕ) (a : AtomTree) (n : ℕ) → slice_get es j ≡ Some (a, n) → atom_cmp x a ≡ Less
below_at x es below j a n is = holds_at (λ later. atom_cmp x later.0 ≡ Less) es j (a, n) (below_each atom_cmp x es below) is

later_less : (es : List Counted) → IsRising es → (i j : ℕ) (a b : AtomTree) (m n : ℕ) → i < j → slice_get es i ≡ Some (a, m) → slice_get es j ≡ Some (b, n) → atom_cmp a b ≡ Less
later_less [] rising i j a b m n h p q = none_some _ p
later_less (e ∷ es) rising zero (suc j) a b m n h p q = grind (arith, some_same e (a, m), below_at e.0 es (below_rest atom_cmp e es rising) j b n q)
later_less (e ∷ es) rising (suc i) (suc j) a b m n h p q = later_less es (rest_sorted atom_cmp e es rising) i j a b m n (omega arith) p q
later_less (e ∷ es) rising i zero a b m n h p q = absurd (omega arith)

-- of two entries the first is of the lesser atom
pub earlier_is_less : (bag : Multiset) (i j : ℕ) (a b : AtomTree) (m n : ℕ) → i < j → slice_get (finite.entries bag) i ≡ Some (a, m) → slice_get (finite.entries bag) j ≡ Some (b, n) → atom_cmp a b ≡ Less
earlier_is_less bag = later_less (finite.entries bag) (entries_rise bag)

find_placed : (es : List Counted) → IsRising es → (j : ℕ) (a : AtomTree) (n : ℕ) → slice_get es j ≡ Some (a, n) → find atom_cmp a es ≡ Some n
find_placed [] rising j a n is = none_some _ is
find_placed (e ∷ es) rising zero a n is = let here = some_same e (a, n) is in rw (here, tied_itself atom_cmp_total a) refl
find_placed (e ∷ es) rising (suc j) a n is = grind (arith, greater atom_cmp atom_cmp_total, below_at, below_rest, find_placed es (rest_sorted atom_cmp e es rising) j a n is)

-- the count of an atom is that of its entry
pub entry_counted : (bag : Multiset) (i : ℕ) (a : AtomTree) (n : ℕ) → slice_get (finite.entries bag) i ≡ Some (a, n) → count_of bag a ≡ n
entry_counted bag i a n is = ap (λ o. unwrap_or o 0) (finite.get-entries bag a ∙ find_placed (finite.entries bag) (entries_rise bag) i a n is)

place_of_find : (es : List Counted) (a : AtomTree) (n : ℕ) → find atom_cmp a es ≡ Some n → (j : ℕ) × (slice_get es j ≡ Some (a, n))
place_of_find [] a n is = none_some _ is
place_of_find (e ∷ es) a n is = elim (eq_by_cmp atom_cmp a e.0) as (λ t. eq_by_cmp atom_cmp a e.0 ≡ t → cond t (Some e.1) (find atom_cmp a es) ≡ Some n → (j : ℕ) × (slice_get (e ∷ es) j ≡ Some (a, n))) [
  | true ↦ λ tie found. (0, grind (arith, tied_atoms e.0 a))
  | false ↦ λ tie found. let later = place_of_find es a n found in (suc later.0, later.1)
] refl is

-- an atom that is there has an entry
pub entry_there : (bag : Multiset) (a : AtomTree) → 0 < count_of bag a → (i : ℕ) × (slice_get (finite.entries bag) i ≡ Some (a, count_of bag a))
entry_there bag a some = grind (arith, finite.get-entries bag a, place_of_find (finite.entries bag) a (count_of bag a))

-- The multiset of a list of atoms: its copies, its nodes, and which atoms are there.

pub gathered_copies : (atoms : List AtomTree) → copies_in (gathered atoms) ≡ length atoms
gathered_copies [] = copies_empty
gathered_copies (a ∷ atoms) = omega (arith, gathered_copies atoms, copies_with_one (gathered atoms) a)

pub gathered_nodes : (atoms : List AtomTree) → nodes_in_all (gathered atoms) ≡ sum_by atom_nodes atoms
gathered_nodes [] = nodes_empty
gathered_nodes (a ∷ atoms) = grind (arith, nodes_set_count, add-mul, sum_by-cons atom_nodes a atoms, gathered_nodes atoms)

-- no atom loses a copy where one is added
more_copies : (bag : Multiset) (x a : AtomTree) (t : Bool) → eq_by_cmp atom_cmp a x ≡ t → 0 < count_of bag a → 0 < cond t (count_of bag x + 1) (count_of bag a)
more_copies bag x a t e some = grind arith

-- an atom with a copy once one is added is that one, or had a copy
some_before : (bag : Multiset) (x a : AtomTree) (atoms : List AtomTree) (t : Bool) → eq_by_cmp atom_cmp a x ≡ t → (0 < count_of bag a → Contains atoms a) → 0 < cond t (count_of bag x + 1) (count_of bag a) → Contains (x ∷ atoms) a
some_before bag x a atoms true e before some = contains_same x atoms a (sym (tied_atoms x a e))
some_before bag x a atoms false e before some = contains_behind x atoms a (before some)

from_copy : (atoms : List AtomTree) (a : AtomTree) → 0 < count_of (gathered atoms) a → Contains atoms a
from_copy [] a some = absurd (omega (arith, count_empty a))
from_copy (x ∷ atoms) a some = grind (arith, count_set (gathered atoms) x a (count_of (gathered atoms) x + 1), from_copy atoms a, tied_atoms x a, contains_same x atoms a, contains_behind x atoms a)

to_copy : (atoms : List AtomTree) (a : AtomTree) → Contains atoms a → 0 < count_of (gathered atoms) a
to_copy [] a there = absurd (contains_none a there)
to_copy (x ∷ atoms) a there = grind (arith, contains_cases x atoms a there, count_set (gathered atoms) x a (count_of (gathered atoms) x + 1), count_set_own (gathered atoms) x (count_of (gathered atoms) x + 1), to_copy atoms a)

pub gathered_there : (atoms : List AtomTree) (a : AtomTree) → (0 < count_of (gathered atoms) a) ↔ Contains atoms a
gathered_there atoms a = (from_copy atoms a, to_copy atoms a)

-- Multisets in which some atoms are held once.

abbrev held_entry : (AtomTree → Bool) → Counted → Counted
held_entry test e = (e.0, held (test e.0) e.1)

below_held : (test : AtomTree → Bool) (a : AtomTree) (es : List Counted) → below_all atom_cmp a (map (held_entry test) es) ≡ below_all atom_cmp a es
below_held test a [] = refl
below_held test a (e ∷ es) = ap (λ b. is_lt (atom_cmp a e.0) && b) (below_held test a es)

sorted_held : (test : AtomTree → Bool) (es : List Counted) → is_sorted atom_cmp (map (held_entry test) es) ≡ is_sorted atom_cmp es
sorted_held test [] = refl
sorted_held test (e ∷ es) = λ i. below_held test e.0 es i && sorted_held test es i

entries_once : (test : AtomTree → Bool) (bag : Multiset) → finite.entries (once test bag) ≡ map (held_entry test) (finite.entries bag)
entries_once test bag = finite.entries-from_sorted atom_cmp (map (held_entry test) (finite.entries bag)) (subst T (sym (sorted_held test (finite.entries bag))) (finite.entries_sorted bag))

each_held : (test : AtomTree → Bool) (es : List Counted) → AllByRecursion IsEntry es → AllByRecursion IsEntry (map (held_entry test) es)
each_held test [] all = tt
each_held test (e ∷ es) all = grind (arith, each_held test es)

-- how much a test adds to a count
abbrev pub one_if : Bool → ℕ
one_if t = cond t 1 0

pub same_atom : (x y : AtomTree) → eq_by_cmp atom_cmp x y ≡ true → x ≡ y
same_atom x y e = atom_cmp_ties x y ((Equal-is (atom_cmp x y)).0 e)

find_held : (test : AtomTree → Bool) (es : List Counted) (q : AtomTree) → find atom_cmp q (map (held_entry test) es) ≡ option_map (held (test q)) (find atom_cmp q es)
find_held test [] q = refl
find_held test (e ∷ es) q = grind (arith, find_held test es q, same_atom q e.0)

got_once : (test : AtomTree → Bool) (bag : Multiset) (a : AtomTree) → finite.get (once test bag) a ≡ option_map (held (test a)) (finite.get bag a)
got_once test bag a = rw (finite.get-entries (once test bag) a, entries_once, find_held, finite.get-entries bag a)

pub count_once : (test : AtomTree → Bool) (bag : Multiset) (a : AtomTree) → count_of (once test bag) a ≡ held (test a) (count_of bag a)
count_once test bag a = grind (arith, got_once test bag a)

-- where each atom that is there has a copy, so it is where some are held once
pub copies_once : (test : AtomTree → Bool) (bag : Multiset) → ((a : AtomTree) → finite.get bag a ≢ Some 0) → (a : AtomTree) → finite.get (once test bag) a ≢ Some 0
copies_once test bag has a e = grind (arith, got_once test bag a, has a)

pub bag_once : (test : AtomTree → Bool) (bag : Multiset) → IsBag bag → IsBag (once test bag)
bag_once test bag kept = rw entries_once (each_held test (finite.entries bag) kept)

pub same_once : (test : AtomTree → Bool) (bag : Multiset) → IsBag bag → IsOnce test bag → once test bag ≡ bag
same_once test bag kept one = same_counts (once test bag) bag (bag_once test bag kept) kept (λ a. grind (arith, count_once test bag a, one a))

pub count_more : (bag : Multiset) (a b : AtomTree) → count_of (with_one bag a) b ≡ count_of bag b + one_if (eq_by_cmp atom_cmp a b)
count_more bag a b = grind (arith, count_set bag a b (count_of bag a + 1), (eq_by_cmp_equiv atom_cmp_total).symm a b, same_atom a b)

-- what is gained is ground
pub ground_gained : (test : AtomTree → Bool) (bag : Multiset) (atoms : List AtomTree) → AllByRecursion IsGroundAtom atoms → AllByRecursion IsGroundAtom (gained test bag atoms)
ground_gained test bag [] ground = tt
ground_gained test bag (a ∷ atoms) ground = grind (arith, ground_gained test bag atoms ground.1, ground_gained test (with_one bag a) atoms ground.1)

-- a multiset in which what is held once is there at most once stays such where an atom is gained
more_once : (test : AtomTree → Bool) (bag : Multiset) (a : AtomTree) → IsOnce test bag → (test a && nat_lt 0 (count_of bag a)) ≡ false → IsOnce test (with_one bag a)
more_once test bag a one e b is = grind (arith, count_more bag a b, same_atom a b, one b)

-- one atom more, by counts
by_counts : (s tied there : Bool) (n g m k : ℕ) → (s ≡ true → n ≤ 1) → (there ≡ true → tied ≡ true → (s ≡ true) × (0 < n)) → held s (n + g) ≡ n + m → (there ≡ false → held s ((n + one_if tied) + g) ≡ (n + one_if tied) + k) → held s (n + (g + one_if tied)) ≡ n + cond there m (k + one_if tied)
by_counts s tied there n g m k one is skipping taking = grind arith

pub gained_counts : (test : AtomTree → Bool) (bag : Multiset) (atoms : List AtomTree) → IsOnce test bag → (q : AtomTree) → held (test q) (count_of bag q + count_of (gathered atoms) q) ≡ count_of bag q + count_of (gathered (gained test bag atoms)) q
gained_counts test bag [] one q = grind (arith, count_empty q, one q)
gained_counts test bag (a ∷ atoms) one q =
    let n = count_of bag q in
    let there = test a && nat_lt 0 (count_of bag a) in
    let step = by_counts (test q) (eq_by_cmp atom_cmp a q) there n (count_of (gathered atoms) q) (count_of (gathered (gained test bag atoms)) q) (count_of (gathered (gained test (with_one bag a) atoms)) q)
    (one q) (λ e tied. grind (arith, same_atom a q)) (gained_counts test bag atoms one q)
    (λ e. grind (arith, count_more bag a q, gained_counts test (with_one bag a) atoms (more_once test bag a one e) q)) in
    grind (arith, count_more (gathered atoms) a q, count_more (gathered (gained test (with_one bag a) atoms)) a q)

pub gains_all : (test : AtomTree → Bool) (bag : Multiset) (atoms : List AtomTree) → IsBag bag → IsOnce test bag → AllByRecursion IsGroundAtom atoms → once test (sum_of bag (gathered atoms)) ≡ sum_of bag (gathered (gained test bag atoms))
gains_all test bag atoms kept one ground = grind (arith, same_counts, bag_once, bag_sum, bag_gathered, ground_gained, count_once, count_sum, gained_counts)

-- the atoms that are not held once
pub count_others : (test : AtomTree → Bool) (atoms : List AtomTree) (a : AtomTree) → test a ≡ false → count_of (gathered (without test atoms)) a ≡ count_of (gathered atoms) a
count_others test [] a is = refl
count_others test (b ∷ atoms) a is = grind (arith, count_others test atoms a is, count_more (gathered (without test atoms)) b a, count_more (gathered atoms) b a, same_atom b a)

pub count_single : (test : AtomTree → Bool) (atoms : List AtomTree) (a : AtomTree) → test a ≡ true → count_of (gathered (without test atoms)) a ≡ 0
count_single test [] a is = count_empty a
count_single test (b ∷ atoms) a is = grind (arith, count_single test atoms a is, count_more (gathered (without test atoms)) b a, same_atom b a)

-- two lists together, by counts
pub count_joined : (xs ys : List AtomTree) (a : AtomTree) → count_of (gathered (xs ++ ys)) a ≡ count_of (gathered xs) a + count_of (gathered ys) a
count_joined [] ys a = omega (arith, count_empty a)
count_joined (x ∷ xs) ys a = omega (arith, count_joined xs ys a, count_more (gathered xs) x a, count_more (gathered (xs ++ ys)) x a)

-- what is gained goes by the counts of those atoms alone that pass the test
pub gained_alike : (test : AtomTree → Bool) (bag other : Multiset) (atoms : List AtomTree) → ((a : AtomTree) → test a ≡ true → count_of bag a ≡ count_of other a) → gained test bag atoms ≡ gained test other atoms
gained_alike test bag other [] alike = refl
gained_alike test bag other (a ∷ atoms) alike =
    let taken = gained_alike test (with_one bag a) (with_one other a) atoms (λ b is. grind (arith, alike b is, count_more bag a b, count_more other a b)) in
    grind (arith, gained_alike test bag other atoms alike, alike a, taken)

-- what is gained is among what is added, and no more
pub gained_among : (test : AtomTree → Bool) (bag : Multiset) (atoms : List AtomTree) (x : AtomTree) → Contains (gained test bag atoms) x → Contains atoms x
gained_among test bag [] x there = there
gained_among test bag (a ∷ atoms) x there =
    elim (test a && nat_lt 0 (count_of bag a)) as (λ t. Contains (cond t (gained test bag atoms) (a ∷ gained test (with_one bag a) atoms)) x → Contains (a ∷ atoms) x) [
      | true ↦ λ h. contains_behind a atoms x (gained_among test bag atoms x h)
      | false ↦ λ h. ⊎_elim (contains_same a atoms x) (λ later. contains_behind a atoms x (gained_among test (with_one bag a) atoms x later)) (contains_cases a (gained test (with_one bag a) atoms) x h)
    ] there

pub gained_few : (test : AtomTree → Bool) (bag : Multiset) (atoms : List AtomTree) → length (gained test bag atoms) ≤ length atoms
gained_few test bag [] = omega arith
gained_few test bag (a ∷ atoms) = grind (arith, gained_few test bag atoms, gained_few test (with_one bag a) atoms)

-- what a list comes to, held once, is what the multiset without atoms gains
pub once_gathered : (test : AtomTree → Bool) (atoms : List AtomTree) → AllByRecursion IsGroundAtom atoms → once test (gathered atoms) ≡ gathered (gained test finite.empty atoms)
once_gathered test atoms ground = grind (arith, sum_alone (gathered atoms) (bag_gathered atoms ground), bag_gathered atoms ground, gains_all, bag_empty, count_empty, sum_alone, bag_gathered, ground_gained)
