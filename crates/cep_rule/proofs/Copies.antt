-- Multisets and lists in order that are told by what they hold.
use Rattle.std.proofs.Common.{◌≡◌, ◌≢◌, ℕ, ◌+◌, Bool, cond, List, [], ◌∷◌, Some, sym, ◌∙◌, arith, ap, refl, Contains}
use Rattle.std.specs.Prelude.{fold}
use Rattle.std.specs.List.{AllByRecursion}
use Rattle.std.specs.Ordering.{eq_by_cmp, nat_cmp, ordering_then, ordering_reverse}
use Rattle.std.specs.FinMap.{get-entries, get-empty, get-insert, get-remove, same_map, IsAntisymmetric, nat_cmp-IsAntisymmetric, slice_cmp-IsAntisymmetric}
use Rattle.std.specs.FinMap.Entries.{find}
use Rattle.std.specs.declared.cmp.Ordering.TheVariants.{Less, Equal, Greater}
use Rattle.std.specs.declared.cmp.Ordering.{Ordering}
use Rattle.cep_term.specs.Tree.{AtomTree}
use Rattle.cep_term.specs.Order.{atom_cmp, tree_cmp}
use Rattle.cep_term.specs.BagLaws.{BagLaws}
use Rattle.cep_term.specs.Multiset.{Multiset, count_of, with_count, with_one, gathered, sum_of, IsBag, IsEntry}
use Rattle.cep_base.proofs.Elements.{contains_none, contains_first, contains_behind, contains_cases, all_at}
use Rattle.std.specs.Cmp.{IsTotalOrder, nat_cmp_total, on_total, then_total}
use Rattle.std.specs.Cmp.Lexicographic.{slice_cmp, lists_total}
use Rattle.cep_rule.specs.declared.parts.Parts.{Parts}
use Rattle.cep_rule.specs.declared.offer.Offer.{Offer}
use Rattle.cep_rule.specs.Offers.{offer_cmp, AreOffers}
use Rattle.std.specs.FinMap as finite

-- Multisets in which each atom that is there has a copy: the counts alone say which one it is.

-- Each atom that is there has a copy.
abbrev pub HasCopies : Multiset → Type 0
HasCopies bag = (a : AtomTree) → finite.get bag a ≢ Some 0

-- no entry is found without a copy
found_some : (entries : List (AtomTree × ℕ)) → AllByRecursion IsEntry entries → (b : AtomTree) → find atom_cmp b entries ≢ Some 0
found_some [] each b e = cc
found_some (e ∷ entries) each b is = grind (arith, found_some entries each.1 b)

pub copies-bag : (bag : Multiset) → IsBag bag → HasCopies bag
copies-bag bag is a e = found_some (finite.entries bag) is a (sym (get-entries bag a) ∙ e)

module _ (laws : BagLaws) where
  copies-with_count : (bag : Multiset) (a : AtomTree) (n : ℕ) → HasCopies bag → HasCopies (with_count bag a n)
  copies-with_count bag a n has b e = grind (arith, has b, get-remove laws.total bag a b, get-insert laws.total bag a n b)

  pub copies-gathered : (atoms : List AtomTree) → HasCopies (gathered atoms)
  copies-gathered [] b e = let none = get-empty {X = ℕ} atom_cmp b in absurd cc
  copies-gathered (a ∷ atoms) b e = copies-with_count (gathered atoms) a (count_of (gathered atoms) a + 1) (copies-gathered atoms) b e

  copies-added : (entries : List (AtomTree × ℕ)) (bag : Multiset) → HasCopies bag → HasCopies (fold (λ (so_far : Multiset) e. with_count so_far e.0 (count_of so_far e.0 + e.1)) bag entries)
  copies-added [] bag has = has
  copies-added (e ∷ entries) bag has = copies-added entries (with_count bag e.0 (count_of bag e.0 + e.1)) (copies-with_count bag e.0 (count_of bag e.0 + e.1) has)

  pub copies-sum_of : (bag other : Multiset) → HasCopies bag → HasCopies (sum_of bag other)
  copies-sum_of bag other has = copies-added (finite.entries other) bag has

  pub same_counts : (one other : Multiset) → HasCopies one → HasCopies other → ((a : AtomTree) → count_of one a ≡ count_of other a) → one ≡ other
  same_counts one other has has' same = same_map laws.total laws.ties one other (λ a. grind (arith, has a, has' a, same a))

-- how much a test adds to a count
abbrev pub one_if : Bool → ℕ
one_if t = cond t 1 0

module _ (laws : BagLaws) where
  -- one more copy
  pub count_more : (bag : Multiset) (a b : AtomTree) → count_of (with_one bag a) b ≡ count_of bag b + one_if (eq_by_cmp atom_cmp a b)
  count_more bag a b = grind (arith, laws.own, laws.others, laws.total, laws.ties)

-- Two lists that are strictly increasing and have the same elements are one list.

module _ {X : Type 0} (Before : X → X → Type 0) (apart : (x y : X) → Before x y → Before y x → ⊥) where
  -- each element of the one list is one of the other
  abbrev IsAmong : List X → List X → Type 0
  IsAmong xs ys = (x : X) → Contains xs x → Contains ys x

  -- each stands before all that follow it
  abbrev Rises : List X → Type 0
  Rises [] = Unit {0}
  Rises (x ∷ xs) = AllByRecursion (Before x) xs × Rises xs

  -- the first elements are the same
  same_first : (x y : X) (xs ys : List X) → Rises (x ∷ xs) → Rises (y ∷ ys) → IsAmong (x ∷ xs) (y ∷ ys) → IsAmong (y ∷ ys) (x ∷ xs) → x ≡ y
  same_first x y xs ys rises rises' among among' = grind (arith, contains_cases x xs y (among' y (contains_first y ys)), contains_cases y ys x (among x (contains_first x xs)), all_at (Before y) ys x rises'.0, all_at (Before x) xs y rises.0, apart)

  -- after the first elements too, each is one of the other
  among_rest : (x y : X) (xs ys : List X) → Rises (x ∷ xs) → x ≡ y → IsAmong (x ∷ xs) (y ∷ ys) → IsAmong xs ys
  among_rest x y xs ys rises same among z there = grind (arith, all_at (Before x) xs z rises.0 there, contains_cases y ys z (among z (contains_behind x xs z there)), contains_behind x xs z there, apart)

  -- two lists that rise and have the same elements are one
  pub same_rising : (xs ys : List X) → Rises xs → Rises ys → IsAmong xs ys → IsAmong ys xs → xs ≡ ys
  same_rising [] [] rises rises' among among' = refl
  same_rising [] (y ∷ ys) rises rises' among among' = absurd (contains_none y (among' y (contains_first y ys)))
  same_rising (x ∷ xs) [] rises rises' among among' = absurd (contains_none x (among x (contains_first x xs)))
  same_rising (x ∷ xs) (y ∷ ys) rises rises' among among' =
      let same = same_first x y xs ys rises rises' among among' in
      let rest = same_rising xs ys rises.1 rises'.1 (among_rest x y xs ys rises same among) (among_rest y x ys xs rises' (sym same) among') in
      cc

-- The order of offers is total, and so the offers of a group in a state are one list.

both_equal : (a b : Ordering) → ordering_then a b ≡ Equal → (a ≡ Equal) × (b ≡ Equal)
both_equal a b e = grind arith

module _ (trees : IsTotalOrder tree_cmp) where
  pub offer_cmp_total : IsTotalOrder offer_cmp
  offer_cmp_total = then_total (on_total (λ (x : Offer). x.rule) nat_cmp_total) (on_total (λ (x : Offer). x.values) (lists_total trees))

  pub offer_cmp_ties : IsAntisymmetric tree_cmp → (one other : Offer) → offer_cmp one other ≡ Equal → one ≡ other
  offer_cmp_ties ties one other e = grind (arith, both_equal (nat_cmp one.rule other.rule) (slice_cmp tree_cmp one.values other.values) e, slice_cmp-IsAntisymmetric ties one.values other.values, nat_cmp-IsAntisymmetric one.rule other.rule)

  -- no two offers stand before each other
  apart : (x y : Offer) → offer_cmp x y ≡ Less → offer_cmp y x ≡ Less → ⊥
  apart x y e f = let turned : Less ≡ Greater = sym e ∙ offer_cmp_total.antisymm x y ∙ ap ordering_reverse f in cc

  pub one_offers : (program : Parts) (height : ℕ) (state : Multiset) (group : ℕ) (one other : List Offer) → AreOffers program height state group one → AreOffers program height state group other → one ≡ other
  one_offers program height state group one other are are' = same_rising (λ x y. offer_cmp x y ≡ Less) apart one other are.in_order are'.in_order (λ x there. are'.each x (are.no_other x there)) (λ x there. are.each x (are'.no_other x there))
