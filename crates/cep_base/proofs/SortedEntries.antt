-- Edits of sorted entries at the place of a key, as edits of the map for which they stand. The list may be the image of the one that is edited.
use Rattle.std.proofs.Common.{◌≡◌, ℕ, zero, suc, true, not, List, [], ◌∷◌, map, get_or, set, Some, None, refl, ap, ◌∙◌, arith}
use Rattle.std.specs.List.{insert, remove}
use Rattle.std.specs.declared.cmp.Ordering.{Ordering}
use Rattle.std.specs.declared.cmp.Ordering.TheVariants.{Less, Equal, Greater}
use Rattle.std.specs.Ordering.{is_lt, eq_by_cmp}
use Rattle.std.specs.Cmp.{IsTotalOrder, tied_itself}
use Rattle.std.specs.FinMap.Entries.{find, put, where_key, below_all, is_sorted}
use Rattle.std.proofs.lemmas.Bool.{and_parts}
use Rattle.cep_base.specs.Sorted.{IsPlaceOf, IsGapOf}
use Rattle.cep_base.proofs.Sorted.{is_less}

module _ {K : Type 0} (cmp : K → K → Ordering) (total : IsTotalOrder cmp) where
  -- equal keys tie, a lesser one is passed over, and a greater one ends the search
  pub tied : (k other : K) → other ≡ k → cmp k other ≡ Equal
  tied k other same = ap (cmp k) same ∙ tied_itself total k

  pub greater : (k other : K) → cmp other k ≡ Less → cmp k other ≡ Greater
  greater k other less = rw (total.antisymm k other, less) refl

  pub lesser : (k other : K) → cmp other k ≡ Greater → cmp k other ≡ Less
  lesser k other more = rw (total.antisymm k other, more) refl

module _ {K V : Type 0} (cmp : K → K → Ordering) where
  -- what sorted entries say of the first one and of the rest
  pub below_rest : (e : K × V) (es : List (K × V)) → is_sorted cmp (e ∷ es) ≡ true → below_all cmp e.0 es ≡ true
  below_rest e es sorted = (and_parts _ _ sorted).0

  pub rest_sorted : (e : K × V) (es : List (K × V)) → is_sorted cmp (e ∷ es) ≡ true → is_sorted cmp es ≡ true
  rest_sorted e es sorted = (and_parts _ _ sorted).1

  -- a key below all entries is below each
  pub below_one : (k : K) (e : K × V) (es : List (K × V)) → below_all cmp k (e ∷ es) ≡ true → (cmp k e.0 ≡ Less) × (below_all cmp k es ≡ true)
  below_one k e es below = let parts = and_parts (is_lt (cmp k e.0)) (below_all cmp k es) below in (is_less _ parts.0, parts.1)

  -- such a key is found in none of them, and all of them are kept without it
  pub find_below : (k : K) (es : List (K × V)) → below_all cmp k es ≡ true → find cmp k es ≡ None
  find_below k [] below = refl
  find_below k (e ∷ es) below = grind (arith, find_below k es)

  pub keep_below : (k : K) (es : List (K × V)) → below_all cmp k es ≡ true → where_key cmp (λ other. not (eq_by_cmp cmp k other)) es ≡ es
  keep_below k [] below = refl
  keep_below k (e ∷ es) below = grind (arith, keep_below k es)

  module _ (total : IsTotalOrder cmp) where
    -- a key that is less than another is below all that the other is below
    pub below_further : (k other : K) (es : List (K × V)) → cmp k other ≡ Less → below_all cmp other es ≡ true → below_all cmp k es ≡ true
    below_further k other [] below rest = refl
    below_further k other (e ∷ es) below rest = grind (arith, below_further k other es below, total.trans k other e.0)

    module _ {X : Type 0} (f : X → K × V) (k : K) where
      -- what stands at the key's place comes with the key
      pub find_at : (xs : List X) (i : ℕ) (d : X) → IsPlaceOf (λ e. e.0) cmp (map f xs) k i → find cmp k (map f xs) ≡ Some (f (get_or xs i d)).1
      find_at [] i d at = absurd at
      find_at (x ∷ xs) zero d at = grind (arith, tied cmp total k (f x).0 at)
      find_at (x ∷ xs) (suc i) d at = grind (arith, find_at xs i d at.1, greater cmp total k (f x).0 at.0)

      -- a key that has a gap comes with nothing
      pub find_gap : (xs : List X) (i : ℕ) → is_sorted cmp (map f xs) ≡ true → IsGapOf (λ e. e.0) cmp (map f xs) k i → find cmp k (map f xs) ≡ None
      find_gap [] i sorted gap = refl
      find_gap (x ∷ xs) zero sorted gap =
          let first = lesser cmp total k (f x).0 gap in
          grind (arith, find_below k (map f xs), below_further k (f x).0 (map f xs) first (below_rest (f x) (map f xs) sorted))
      find_gap (x ∷ xs) (suc i) sorted gap = grind (arith, greater cmp total k (f x).0 gap.0, find_gap xs i (rest_sorted (f x) (map f xs) sorted) gap.1)

      -- to write an entry over the key's own is to put it
      pub put_at : (xs : List X) (i : ℕ) (v : V) (x : X) → IsPlaceOf (λ e. e.0) cmp (map f xs) k i → f x ≡ (k, v) → map f (set xs i x) ≡ put cmp k v (map f xs)
      put_at [] i v x at is = absurd at
      put_at (y ∷ xs) zero v x at is = grind (arith, tied cmp total k (f y).0 at)
      put_at (y ∷ xs) (suc i) v x at is = grind (arith, put_at xs i v x at.1 is, greater cmp total k (f y).0 at.0)

      -- to write an entry into the key's gap is to put it
      pub put_gap : (xs : List X) (i : ℕ) (v : V) (x : X) → IsGapOf (λ e. e.0) cmp (map f xs) k i → f x ≡ (k, v) → map f (insert xs i x) ≡ put cmp k v (map f xs)
      put_gap [] zero v x gap is = rw is refl
      put_gap [] (suc i) v x gap is = absurd gap
      put_gap (y ∷ xs) zero v x gap is = grind (arith, lesser cmp total k (f y).0 gap)
      put_gap (y ∷ xs) (suc i) v x gap is = grind (arith, put_gap xs i v x gap.1 is, greater cmp total k (f y).0 gap.0)

      -- to remove the entry at the key's place is to keep all others
      pub remove_at : (xs : List X) (i : ℕ) → is_sorted cmp (map f xs) ≡ true → IsPlaceOf (λ e. e.0) cmp (map f xs) k i
          → map f (remove xs i) ≡ where_key cmp (λ other. not (eq_by_cmp cmp k other)) (map f xs)
      remove_at [] i sorted at = absurd at
      remove_at (y ∷ xs) zero sorted at = grind (arith, tied cmp total k (f y).0 at, keep_below k (map f xs), below_rest (f y) (map f xs) sorted)
      remove_at (y ∷ xs) (suc i) sorted at = grind (arith, remove_at xs i (rest_sorted (f y) (map f xs) sorted) at.1, greater cmp total k (f y).0 at.0)
