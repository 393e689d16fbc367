-- A multiset does not depend on the order in which its atoms are gathered.
use Rattle.std.proofs.Common.{◌≡◌, ◌≢◌, ℕ, ◌+◌, ◌<◌, List, [], ◌∷◌, length, get_or, map, sum_by, refl, sym, ap, subst, ◌∙◌, arith, min, Bool, true, false, ◌&&◌, take, nat_lt, ◌++◌}
use Rattle.std.specs.declared.cmp.Ordering.{Ordering}
use Rattle.std.specs.declared.cmp.Ordering.TheVariants.{Less, Equal, Greater}
use Rattle.std.specs.Cmp.{tied_itself}
use Rattle.std.specs.List.{AllByRecursion}
use Rattle.std.specs.List.Sorted.{IsPermutation}
use Rattle.std.proofs.lemmas.List.{get_or-map, take_more}
use Rattle.std.proofs.lemmas.List.Sums.{sum_by-cons}
use Rattle.std.proofs.lemmas.List.Sorted.{Contains-permutation, IsPermutation-sym, sum_by-IsPermutation, IsPermutation-to_front}
use Rattle.cep_term.specs.Tree.{AtomTree, IsGroundAtom}
use Rattle.cep_term.specs.BagLaws.{BagLaws}
use Rattle.cep_term.specs.Order.{atom_cmp}
use Rattle.cep_term.specs.Multiset.{Multiset, count_of, with_one, gathered, held, once, IsBag}
use Rattle.cep_base.proofs.Elements.{all_at, all_of}
use Rattle.std.proofs.lemmas.Bool.{ltb-true, ltb-false}
use Rattle.cep_base.proofs.Lists.{all_taken}

-- what holds of all holds of all in another order
pub all_reordered : {X : Type 0} (P : X → Type 0) (xs ys : List X) → IsPermutation xs ys → AllByRecursion P xs → AllByRecursion P ys
all_reordered P xs ys same all = all_of P ys (λ y there. all_at P xs y all (Contains-permutation ys xs y (IsPermutation-sym xs ys same) there))

-- one where two atoms tie
abbrev tally_by : Ordering → ℕ
tally_by Less = 0
tally_by Equal = 1
tally_by Greater = 0

abbrev tally : AtomTree → AtomTree → ℕ
tally a x = tally_by (atom_cmp a x)

module _ (laws : BagLaws) where
  differs : (a x : AtomTree) (o : Ordering) → atom_cmp a x ≡ o → o ≢ Equal → a ≢ x
  differs a x o is unequal same = unequal (sym is ∙ subst (λ y. atom_cmp a y ≡ Equal) same (tied_itself laws.total a))

  counted_more : (a x : AtomTree) (bag : Multiset) (rest : ℕ) (o : Ordering) → atom_cmp a x ≡ o → count_of bag a ≡ rest → count_of (with_one bag x) a ≡ tally_by o + rest
  counted_more a x bag rest o is was = grind (arith, differs)

  -- the copies of an atom are the times that it stands in the list
  counted : (a : AtomTree) (atoms : List AtomTree) → count_of (gathered atoms) a ≡ sum_by (tally a) atoms
  counted a [] = laws.empty a
  counted a (x ∷ atoms) = counted_more a x (gathered atoms) (sum_by (tally a) atoms) (atom_cmp a x) refl (counted a atoms) ∙ sym (sum_by-cons (tally a) x atoms)

  pub same_gathered : (xs ys : List AtomTree) → IsPermutation xs ys → AllByRecursion IsGroundAtom xs → gathered ys ≡ gathered xs
  same_gathered xs ys same all = grind (arith, all_reordered, counted, sum_by-IsPermutation, tally)

-- the atom at a place of a list that is mapped
pub atom_at : {X : Type 0} (f : X → AtomTree) (xs : List X) (k : ℕ) (x : X) → k < length xs → x ≡ get_or xs k x → get_or (map f xs) k (f x) ≡ f x
atom_at f xs k x within is = get_or-map f xs k x (f x) within ∙ ap f (sym is)

-- Atoms that are gathered one after another, those that pass a test once.
held_again : (b : Bool) (n : ℕ) → (b && nat_lt 0 (held b n)) ≡ true → held b (n + 1) ≡ held b n
held_again true n there = let more = ltb-true 0 (min 1 n) there in omega (arith, more)
held_again false n there = absurd cc

held_first : (b : Bool) (n : ℕ) → (b && nat_lt 0 (held b n)) ≡ false → held b (n + 1) ≡ held b n + 1
held_first b n none = grind (arith, ltb-false)

module _ (laws : BagLaws) (test : AtomTree → Bool) where
  module _ (bag : Multiset) (a : AtomTree) (ground : IsGroundAtom a) (kept : IsBag bag) where
    abbrev more : Multiset
    more = with_one bag a

    more_kept : IsBag more
    more_kept = laws.set_kept bag a (count_of bag a + 1) ground kept

    other : (x : AtomTree) (o : Ordering) → atom_cmp x a ≡ o → o ≢ Equal → count_of more x ≡ count_of bag x
    other x o is unequal = laws.others bag a x (count_of bag a + 1) (differs laws x a o is unequal)

    -- one that is held once already changes nothing
    again : (test a && nat_lt 0 (count_of (once test bag) a)) ≡ true → once test more ≡ once test bag
    again there = laws.equal (once test more) (once test bag) (laws.once_kept test more more_kept) (laws.once_kept test bag kept)
        (λ x. laws.once_count test more x ∙ by x (atom_cmp x a) refl ∙ sym (laws.once_count test bag x))
      where
        own : held (test a) (count_of more a) ≡ held (test a) (count_of bag a)
        own = ap (held (test a)) (laws.own bag a (count_of bag a + 1))
            ∙ held_again (test a) (count_of bag a) (ap (λ n. test a && nat_lt 0 n) (sym (laws.once_count test bag a)) ∙ there)

        by : (x : AtomTree) (o : Ordering) → atom_cmp x a ≡ o → held (test x) (count_of more x) ≡ held (test x) (count_of bag x)
        by x Less is = ap (held (test x)) (other x Less is (λ e. cc))
        by x Equal is = subst (λ y. held (test y) (count_of more y) ≡ held (test y) (count_of bag y)) (sym (laws.ties x a is)) own
        by x Greater is = ap (held (test x)) (other x Greater is (λ e. cc))

    -- and any other is added
    first : (test a && nat_lt 0 (count_of (once test bag) a)) ≡ false → once test more ≡ with_one (once test bag) a
    first none = laws.equal (once test more) (with_one (once test bag) a) (laws.once_kept test more more_kept) (laws.set_kept (once test bag) a (count_of (once test bag) a + 1) ground (laws.once_kept test bag kept))
        (λ x. laws.once_count test more x ∙ by x (atom_cmp x a) refl)
      where
        own : held (test a) (count_of more a) ≡ count_of (with_one (once test bag) a) a
        own = ap (held (test a)) (laws.own bag a (count_of bag a + 1))
            ∙ held_first (test a) (count_of bag a) (ap (λ n. test a && nat_lt 0 n) (sym (laws.once_count test bag a)) ∙ none)
            ∙ ap (λ n. n + 1) (sym (laws.once_count test bag a)) ∙ sym (laws.own (once test bag) a (count_of (once test bag) a + 1))

        aside : (x : AtomTree) (o : Ordering) → atom_cmp x a ≡ o → o ≢ Equal → held (test x) (count_of more x) ≡ count_of (with_one (once test bag) a) x
        aside x o is unequal = ap (held (test x)) (other x o is unequal) ∙ sym (laws.once_count test bag x)
            ∙ sym (laws.others (once test bag) a x (count_of (once test bag) a + 1) (differs laws x a o is unequal))

        by : (x : AtomTree) (o : Ordering) → atom_cmp x a ≡ o → held (test x) (count_of more x) ≡ count_of (with_one (once test bag) a) x
        by x Less is = aside x Less is (λ e. cc)
        by x Equal is = subst (λ y. held (test y) (count_of more y) ≡ count_of (with_one (once test bag) a) y) (sym (laws.ties x a is)) own
        by x Greater is = aside x Greater is (λ e. cc)

  -- one more atom, after those that were gathered
  module _ (atoms : List AtomTree) (k : ℕ) (a : AtomTree) (old : Multiset) (within : k < length atoms) (at : get_or atoms k a ≡ a) (all : AllByRecursion IsGroundAtom atoms) (was : old ≡ once test (gathered (take k atoms))) where
    abbrev front : Multiset
    front = gathered (take k atoms)

    front_kept : IsBag front
    front_kept = laws.gathered_kept (take k atoms) (all_taken IsGroundAtom atoms k all)

    ground : IsGroundAtom a
    ground = all_at IsGroundAtom atoms a all (k, within, at)

    taken : gathered (take (k + 1) atoms) ≡ with_one front a
    taken = rw (take_more atoms k a within, at, same_gathered laws (a ∷ take k atoms) (take k atoms ++ a ∷ []) (IsPermutation-sym _ _ (IsPermutation-to_front (take k atoms) a)) (ground, all_taken IsGroundAtom atoms k all))

    pub passed_over : (test a && nat_lt 0 (count_of old a)) ≡ true → old ≡ once test (gathered (take (k + 1) atoms))
    passed_over there = was ∙ sym (again front a ground front_kept (ap (λ bag. test a && nat_lt 0 (count_of bag a)) (sym was) ∙ there)) ∙ ap (once test) (sym taken)

    pub added : (new : Multiset) → (test a && nat_lt 0 (count_of old a)) ≡ false → new ≡ with_one old a → new ≡ once test (gathered (take (k + 1) atoms))
    added new none is = is ∙ ap (λ bag. with_one bag a) was ∙ sym (first front a ground front_kept (ap (λ bag. test a && nat_lt 0 (count_of bag a)) (sym was) ∙ none)) ∙ ap (once test) (sym taken)
