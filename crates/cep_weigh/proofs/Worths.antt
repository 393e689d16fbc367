-- What the copies of a multiset are worth.
use Rattle.std.proofs.Common.{◌≡◌, T, ℕ, ◌+◌, Bool, true, false, cond, not, ◌&&◌, ◌==◌, List, [], ◌∷◌, Option, Some, None, unwrap_or, refl, sym, ap, subst, ◌∙◌, arith, map}
use Rattle.std.specs.Prelude.{sum_by, fold, count_by}
use Rattle.std.specs.Ordering.{is_eq, is_lt, eq_by_cmp}
use Rattle.std.proofs.lemmas.Bool.{eqb-true}
use Rattle.std.proofs.lemmas.List.Sums.{sum_by-cons}
use Rattle.std.specs.declared.cmp.Ordering.TheVariants.{Less, Equal, Greater}
use Rattle.std.specs.Cmp.{eq_by_cmp_equiv, alike_right}
use Rattle.cep_base.proofs.Sorted.{is_less}
use Rattle.cep_base.proofs.Bools.{and_parts}
use Rattle.cep_term.specs.Entries.{IsRising, find_count}
use Rattle.cep_weigh.specs.Weights.{copies_of_pred}
use Rattle.std.specs.FinMap.Entries.{find, put, where_key, below_all, by_order, is_sorted, is_sorted-where_key, find-where_key}
use Rattle.cep_term.specs.Tree.{AtomTree}
use Rattle.cep_term.specs.Order.{atom_cmp}
use Rattle.cep_term.specs.BagLaws.{BagLaws}
use Rattle.cep_term.specs.Multiset.{Multiset, count_of, with_count, gathered, sum_of, held, once}
use Rattle.std.specs.FinMap as finite

-- What the copies of a multiset are worth, by any function that is nothing for no copies: after a count is set, in a sum, and of a list that is gathered.

abbrev pub Counted : Type 0
Counted = AtomTree × ℕ

is_true : (b : Bool) → T b → b ≡ true
is_true b h = grind arith

-- the entries without the atom's
abbrev without : AtomTree → List Counted → List Counted
without a es = where_key atom_cmp (λ b. not (eq_by_cmp atom_cmp a b)) es

turned : (b : Bool) (o : Option ℕ) → cond (not b) o None ≡ cond b None o
turned b o = grind arith

module _ (laws : BagLaws) where
  below_further : (a b : AtomTree) (es : List Counted) → atom_cmp a b ≡ Less → below_all atom_cmp b es ≡ true → below_all atom_cmp a es ≡ true
  below_further a b [] less h = refl
  below_further a b (e ∷ es) less h = let parts = and_parts (is_lt (atom_cmp b e.0)) (below_all atom_cmp b es) h in rw (laws.total.trans a b e.0 less (is_less (atom_cmp b e.0) parts.0), below_further a b es less parts.1)

  find_below : (a : AtomTree) (es : List Counted) → below_all atom_cmp a es ≡ true → find atom_cmp a es ≡ None
  find_below a [] h = refl
  find_below a (e ∷ es) h = let parts = and_parts (is_lt (atom_cmp a e.0)) (below_all atom_cmp a es) h in rw (is_less (atom_cmp a e.0) parts.0, find_below a es parts.1)

  keep_below : (a : AtomTree) (es : List Counted) → below_all atom_cmp a es ≡ true → without a es ≡ es
  keep_below a [] h = refl
  keep_below a (e ∷ es) h = let parts = and_parts (is_lt (atom_cmp a e.0)) (below_all atom_cmp a es) h in rw (is_less (atom_cmp a e.0) parts.0, keep_below a es parts.1)

  -- the entries after a count is set
  entries_removed : (bag : Multiset) (a : AtomTree) → finite.entries (finite.remove bag a) ≡ without a (finite.entries bag)
  entries_removed bag a =
      let es = finite.entries bag in
      let rises : T (is_sorted atom_cmp (without a es)) = is_sorted-where_key atom_cmp (λ b. not (eq_by_cmp atom_cmp a b)) es (finite.entries_sorted bag) in
      ap (λ (z : Multiset). finite.entries z) (finite.same_map laws.total laws.ties (finite.remove bag a) (finite.from_sorted (without a es)) (λ q.
      finite.get-remove laws.total bag a q
      ∙ sym (finite.get-from_sorted atom_cmp (without a es) q rises
      ∙ find-where_key atom_cmp (λ b. not (eq_by_cmp atom_cmp a b)) q (λ x tied. ap (λ r. not (is_eq r)) (sym (alike_right laws.total q x a tied))) es
      ∙ turned (eq_by_cmp atom_cmp a q) (find atom_cmp q es)
      ∙ ap (λ b. cond b None (find atom_cmp q es)) ((eq_by_cmp_equiv laws.total).symm a q)
      ∙ ap (λ o. cond (eq_by_cmp atom_cmp q a) None o) (sym (finite.get-entries bag q)))))
      ∙ finite.entries-from_sorted atom_cmp (without a es) rises

  module _ (worth : AtomTree → ℕ → ℕ) (nothing : (a : AtomTree) → worth a 0 ≡ 0) where
    abbrev pub worth_of : List Counted → ℕ
    worth_of es = sum_by (λ e. worth e.0 e.1) es

    worth_of-cons : (e : Counted) (es : List Counted) → worth_of (e ∷ es) ≡ worth e.0 e.1 + worth_of es
    worth_of-cons e es = sum_by-cons (λ (d : Counted). worth d.0 d.1) e es

    worth_none : (a : AtomTree) (es : List Counted) → below_all atom_cmp a es ≡ true → worth a (find_count es a) ≡ 0
    worth_none a es below = ap (λ o. worth a (unwrap_or o 0)) (find_below a es below) ∙ nothing a

    worth_put : (es : List Counted) (a : AtomTree) (n : ℕ) → IsRising es → worth_of (put atom_cmp a n es) + worth a (find_count es a) ≡ worth_of es + worth a n
    worth_put [] a n rising = omega (arith, worth_of-cons (a, n) [], nothing a)
    worth_put (e ∷ es) a n rising =
        let parts = and_parts (below_all atom_cmp e.0 es) (is_sorted atom_cmp es) rising in
        elim (atom_cmp a e.0) as (λ r. atom_cmp a e.0 ≡ r → worth_of (by_order r ((a, n) ∷ e ∷ es) ((e.0, n) ∷ es) (e ∷ put atom_cmp a n es)) + worth a (unwrap_or (cond (is_eq r) (Some e.1) (find atom_cmp a es)) 0) ≡ worth_of (e ∷ es) + worth a n) [
          | Less ↦ λ less. omega (arith, worth_of-cons (a, n) (e ∷ es), worth_none a es (below_further a e.0 es less parts.0))
          | Equal ↦ λ same. let atoms = laws.ties a e.0 same in omega (arith, worth_of-cons (e.0, n) es, worth_of-cons e es, ap (λ b. worth b n) atoms, ap (λ b. worth b e.1) atoms)
          | Greater ↦ λ more. omega (arith, worth_of-cons e (put atom_cmp a n es), worth_of-cons e es, worth_put es a n parts.1)
        ] refl

    worth_without : (es : List Counted) (a : AtomTree) → IsRising es → worth_of (without a es) + worth a (find_count es a) ≡ worth_of es
    worth_without [] a rising = omega (arith, nothing a)
    worth_without (e ∷ es) a rising =
        let parts = and_parts (below_all atom_cmp e.0 es) (is_sorted atom_cmp es) rising in
        elim (atom_cmp a e.0) as (λ r. atom_cmp a e.0 ≡ r → worth_of (cond (not (is_eq r)) (e ∷ without a es) (without a es)) + worth a (unwrap_or (cond (is_eq r) (Some e.1) (find atom_cmp a es)) 0) ≡ worth_of (e ∷ es)) [
          | Less ↦ λ less. omega (arith, worth_of-cons e (without a es), worth_of-cons e es, worth_without es a parts.1)
          | Equal ↦ λ same.
              let atoms = laws.ties a e.0 same in
              let kept = keep_below a es (subst (λ b. below_all atom_cmp b es ≡ true) (sym atoms) parts.0) in
              omega (arith, ap worth_of kept, worth_of-cons e es, ap (λ b. worth b e.1) atoms)
          | Greater ↦ λ more. omega (arith, worth_of-cons e (without a es), worth_of-cons e es, worth_without es a parts.1)
        ] refl

    pub worth_set : (bag : Multiset) (a : AtomTree) (n : ℕ) → worth_of (finite.entries (with_count bag a n)) + worth a (count_of bag a) ≡ worth_of (finite.entries bag) + worth a n
    worth_set bag a n =
        let es = finite.entries bag in
        let rising = is_true (is_sorted atom_cmp es) (finite.entries_sorted bag) in
        let counted : find_count es a ≡ count_of bag a = ap (λ o. unwrap_or o 0) (sym (finite.get-entries bag a)) in
        elim (n == 0) as (λ b. (n == 0) ≡ b → worth_of (finite.entries (cond b (finite.remove bag a) (finite.insert bag a n))) + worth a (count_of bag a) ≡ worth_of es + worth a n) [
          | true ↦ λ e. omega (arith, ap worth_of (entries_removed bag a), worth_without es a rising, ap (worth a) counted, nothing a, ap (worth a) (eqb-true n 0 e))
          | false ↦ λ e. omega (arith, ap worth_of (finite.entries-insert laws.total bag a n), worth_put es a n rising, ap (worth a) counted)
        ] refl

    pub worth_sum : ((a : AtomTree) (n m : ℕ) → worth a (n + m) ≡ worth a n + worth a m) → (es : List Counted) (bag : Multiset)
        → worth_of (finite.entries (fold (λ (so_far : Multiset) e. with_count so_far e.0 (count_of so_far e.0 + e.1)) bag es)) ≡ worth_of (finite.entries bag) + worth_of es
    worth_sum adds [] bag = omega arith
    worth_sum adds (e ∷ es) bag = omega (arith, worth_sum adds es (with_count bag e.0 (count_of bag e.0 + e.1)), worth_set bag e.0 (count_of bag e.0 + e.1), adds e.0 (count_of bag e.0) e.1, worth_of-cons e es)

-- The copies of a predicate, in sums, in lists that are gathered, and where facts are held once.

-- what copies of an atom are worth where a test decides about it
abbrev worth_if : (AtomTree → Bool) → AtomTree → ℕ → ℕ
worth_if test a n = cond (test a) n 0

worth_nothing : (test : AtomTree → Bool) (a : AtomTree) → worth_if test a 0 ≡ 0
worth_nothing test a = elim (test a) as (λ t. ◌≡◌ {A = ℕ} (cond t 0 0) 0) [ true ↦ refl | false ↦ refl ]

worth_adds : (test : AtomTree → Bool) (a : AtomTree) (n m : ℕ) → worth_if test a (n + m) ≡ worth_if test a n + worth_if test a m
worth_adds test a n m = elim (test a) as (λ t. cond t (n + m) 0 ≡ cond t n 0 + cond t m 0) [ true ↦ refl | false ↦ refl ]

abbrev of_pred : ℕ → AtomTree → Bool
of_pred pred a = a.pred == pred

pub copies_sum : BagLaws → (bag other : Multiset) (pred : ℕ) → copies_of_pred (sum_of bag other) pred ≡ copies_of_pred bag pred + copies_of_pred other pred
copies_sum laws bag other pred = worth_sum laws (worth_if (of_pred pred)) (worth_nothing (of_pred pred)) (worth_adds (of_pred pred)) (finite.entries other) bag

-- where there is no copy at all there is none of a predicate
none_counted : (test : AtomTree → Bool) (es : List (AtomTree × ℕ)) → sum_by (λ e. e.1) es ≡ 0 → sum_by (λ e. cond (test e.0) e.1 0) es ≡ 0
none_counted test [] none = refl
none_counted test (e ∷ es) none =
    let all = sum_by-cons (λ (d : AtomTree × ℕ). d.1) e es in
    let some = sum_by-cons (λ (d : AtomTree × ℕ). cond (test d.0) d.1 0) e es in
    let rest = none_counted test es (omega arith) in
    let nothing : cond (test e.0) e.1 0 ≡ 0 = ap (λ n. cond (test e.0) n 0) (omega arith) ∙ worth_nothing test e.0 in
    omega arith

copies_empty : BagLaws → (pred : ℕ) → copies_of_pred finite.empty pred ≡ 0
copies_empty laws pred = none_counted (of_pred pred) (finite.entries finite.empty) laws.empty_copies

pub copies_gathered : BagLaws → (atoms : List AtomTree) (pred : ℕ) → copies_of_pred (gathered atoms) pred ≡ count_by (of_pred pred) atoms
copies_gathered laws [] pred = copies_empty laws pred
copies_gathered laws (a ∷ atoms) pred =
    let set = worth_set laws (worth_if (of_pred pred)) (worth_nothing (of_pred pred)) (gathered atoms) a (count_of (gathered atoms) a + 1) in
    let adds = worth_adds (of_pred pred) a (count_of (gathered atoms) a) 1 in
    let cons = sum_by-cons (λ x. cond (of_pred pred x) 1 0) a atoms in
    omega (arith, copies_gathered laws atoms pred)

-- the entries where some atoms are held once
abbrev held_entry : (AtomTree → Bool) → AtomTree × ℕ → AtomTree × ℕ
held_entry test e = (e.0, held (test e.0) e.1)

below_held : (test : AtomTree → Bool) (a : AtomTree) (es : List (AtomTree × ℕ)) → below_all atom_cmp a (map (held_entry test) es) ≡ below_all atom_cmp a es
below_held test a [] = refl
below_held test a (e ∷ es) = ap (λ b. is_lt (atom_cmp a e.0) && b) (below_held test a es)

sorted_held : (test : AtomTree → Bool) (es : List (AtomTree × ℕ)) → is_sorted atom_cmp (map (held_entry test) es) ≡ is_sorted atom_cmp es
sorted_held test [] = refl
sorted_held test (e ∷ es) = λ i. below_held test e.0 es i && sorted_held test es i

entries_once : (test : AtomTree → Bool) (bag : Multiset) → finite.entries (once test bag) ≡ map (held_entry test) (finite.entries bag)
entries_once test bag = finite.entries-from_sorted atom_cmp (map (held_entry test) (finite.entries bag)) (subst T (sym (sorted_held test (finite.entries bag))) (finite.entries_sorted bag))

-- a predicate of which no atom is held once has all its copies
module _ (test : AtomTree → Bool) (pred : ℕ) (apart : (a : AtomTree) → of_pred pred a ≡ true → test a ≡ false) where
  held_copies : (a : AtomTree) (n : ℕ) → worth_if (of_pred pred) a (held (test a) n) ≡ worth_if (of_pred pred) a n
  held_copies a n = grind arith

  copies_held : (es : List (AtomTree × ℕ)) → sum_by (λ e. cond (of_pred pred e.0) e.1 0) (map (held_entry test) es) ≡ sum_by (λ e. cond (of_pred pred e.0) e.1 0) es
  copies_held [] = refl
  copies_held (e ∷ es) =
      sum_by-cons (λ (d : AtomTree × ℕ). cond (of_pred pred d.0) d.1 0) (held_entry test e) (map (held_entry test) es)
      ∙ (λ i. held_copies e.0 e.1 i + copies_held es i)
      ∙ sym (sum_by-cons (λ (d : AtomTree × ℕ). cond (of_pred pred d.0) d.1 0) e es)

  pub copies_once : (bag : Multiset) → copies_of_pred (once test bag) pred ≡ copies_of_pred bag pred
  copies_once bag = ap (sum_by (λ e. cond (of_pred pred e.0) e.1 0)) (entries_once test bag) ∙ copies_held (finite.entries bag)
