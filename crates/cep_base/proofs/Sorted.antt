-- Where a binary search ends in a list whose items increase by a key, and edits that keep it so. The list may be the image of the one that is searched.
use Rattle.std.proofs.Common.{◌≡◌, ℕ, zero, suc, ◌<◌, ◌≤◌, ◌-◌, Bool, true, false, cond, List, [], ◌∷◌, length, map, get_or, refl, sym, ap, ◌∙◌, arith}
use Rattle.std.specs.Prelude.{Result, Ok, Err, IfOk, IfErr}
use Rattle.std.specs.List.{AllByRecursion}
use Rattle.std.specs.declared.cmp.Ordering.{Ordering}
use Rattle.std.specs.List.Sorted.{IsSearchInRange, IsBinarySearchResult, IsNonDecreasingBy}
use Rattle.std.specs.Ordering.{is_lt, ordering_index, ordering_reverse}
use Rattle.std.specs.declared.cmp.Ordering.TheVariants.{Less, Equal, Greater}
use Rattle.std.specs.Cmp.{IsTotalOrder, alike_right}
use Rattle.std.specs.FinMap.{IsAntisymmetric}
use Rattle.std.specs.FinMap.Entries.{below_all}
use Rattle.std.proofs.lemmas.Bool.{and_parts}
use Rattle.cep_base.specs.Sorted.{IsIncreasing, IsPlaceOf, IsGapOf}
use Rattle.std.specs.FinMap as finite

pub is_less : (r : Ordering) → is_lt r ≡ true → r ≡ Less
is_less Less e = refl
is_less Equal e = cc
is_less Greater e = cc

-- the place that a search answers is within the list, or at its end
pub in_bounds : (r : Result ℕ ℕ) (n : ℕ) → IsSearchInRange r n → IfOk r (λ at. at < n) × IfErr r (λ at. at ≤ n)
in_bounds (Ok at) n bound = (bound, tt)
in_bounds (Err at) n bound = (tt, bound)

-- entries that std's test finds sorted increase by their keys
module _ {K V : Type 0} (cmp : K → K → Ordering) where
  pub below_each : (k : K) (entries : List (K × V)) → below_all cmp k entries ≡ true → AllByRecursion (λ later. cmp k later.0 ≡ Less) entries
  below_each k [] below = tt
  below_each k (entry ∷ entries) below = let parts = and_parts _ _ below in (is_less _ parts.0, below_each k entries parts.1)

  pub increasing_from_sorted : (entries : List (K × V)) → finite.is_sorted cmp entries ≡ true → IsIncreasing (λ entry. entry.0) cmp entries
  increasing_from_sorted [] sorted = tt
  increasing_from_sorted (entry ∷ entries) sorted = let parts = and_parts _ _ sorted in (below_each entry.0 entries parts.0, increasing_from_sorted entries parts.1)

module _ {E K X : Type 0} (key : E → K) (cmp : K → K → Ordering) (f : X → E) where
  -- an item below all is below the one at a place
  pub below_at : (k : K) (xs : List X) (j : ℕ) (d : X) → AllByRecursion (λ later. cmp k (key later) ≡ Less) (map f xs) → j < length xs → cmp k (key (f (get_or xs j d))) ≡ Less
  below_at k [] j d below within = absurd (omega arith)
  below_at k (x ∷ xs) zero d below within = below.0
  below_at k (x ∷ xs) (suc j) d below within = below_at k xs j d below.1 (omega arith)

  -- a place between lesser and greater items is the gap
  pub gap_from_sides : (k : K) (xs : List X) (i : ℕ) → i ≤ length xs
      → ((j : ℕ) (d : X) → j < i → cmp (key (f (get_or xs j d))) k ≡ Less)
      → ((j : ℕ) (d : X) → i ≤ j → j < length xs → cmp (key (f (get_or xs j d))) k ≡ Greater) → IsGapOf key cmp (map f xs) k i
  gap_from_sides k [] zero within before after = tt
  gap_from_sides k [] (suc i) within before after = absurd (omega arith)
  gap_from_sides k (x ∷ xs) zero within before after = after 0 x (omega arith) (omega arith)
  gap_from_sides k (x ∷ xs) (suc i) within before after =
      (before 0 x (omega arith), gap_from_sides k xs i (omega arith) (λ j d lt. before (suc j) d (omega arith)) (λ j d ge lt. after (suc j) d (omega arith) (omega arith)))

  module _ (total : IsTotalOrder cmp) where
    pub turned : (one other : K) (r : Ordering) → cmp one other ≡ r → cmp other one ≡ ordering_reverse r
    turned one other r e = total.antisymm other one ∙ ap ordering_reverse e

    -- the comparisons with a key never decrease along the list
    rank_step : (one other k : K) → cmp one other ≡ Less → ordering_index (cmp one k) ≤ ordering_index (cmp other k)
    rank_step one other k less = by (cmp other k) refl
      where
        by : (r : Ordering) → cmp other k ≡ r → ordering_index (cmp one k) ≤ ordering_index r
        by Less e = rw (total.trans one other k less e) (omega arith)
        by Equal e = rw (sym (alike_right total other k one e) ∙ less) (omega arith)
        by Greater e = elim (cmp one k) as (λ r. ordering_index r ≤ 2) [ Less ↦ omega arith | Equal ↦ omega arith | Greater ↦ omega arith ]

    pub ranks_increase : (k : K) (xs : List X) → IsIncreasing key cmp (map f xs) → IsNonDecreasingBy (λ x. ordering_index (cmp (key (f x)) k)) xs
    ranks_increase k [] up i j d le lt = absurd (omega arith)
    ranks_increase k (x ∷ xs) up zero zero d le lt = omega arith
    ranks_increase k (x ∷ xs) up zero (suc j) d le lt = rank_step (key (f x)) (key (f (get_or xs j d))) k (below_at (key (f x)) xs j d up.0 (omega arith))
    ranks_increase k (x ∷ xs) up (suc i) zero d le lt = absurd (omega arith)
    ranks_increase k (x ∷ xs) up (suc i) (suc j) d le lt = ranks_increase k xs up.1 i j d (omega arith) (omega arith)

    -- after a last item that is lesser is the gap
    gap_after : (k : K) (xs : List X) (j : ℕ) (last : X) → IsIncreasing key cmp (map f xs) → length xs ≤ suc j → j < length xs → last ≡ get_or xs j last → cmp (key (f last)) k ≡ Less
        → IsGapOf key cmp (map f xs) k (length xs)
    gap_after k [] j last up le lt is less = tt
    gap_after k (x ∷ []) zero last up le lt is less = (sym (ap (λ e. cmp (key (f e)) k) is) ∙ less, tt)
    gap_after k (x ∷ []) (suc j) last up le lt is less = absurd (omega arith)
    gap_after k (x ∷ y ∷ xs) zero last up le lt is less = absurd (omega arith)
    gap_after k (x ∷ y ∷ xs) (suc j) last up le lt is less =
        let below : cmp (key (f x)) (key (f last)) ≡ Less = ap (λ e. cmp (key (f x)) (key (f e))) is ∙ below_at (key (f x)) (y ∷ xs) j last up.0 (omega arith) in
        (total.trans (key (f x)) (key (f last)) k below less, gap_after k (y ∷ xs) j last up.1 (omega arith) (omega arith) is less)

    pub gap_at_end : (k : K) (xs : List X) (last : X) → IsIncreasing key cmp (map f xs) → last ≡ get_or xs (length xs - 1) last → cmp (key (f last)) k ≡ Less → IsGapOf key cmp (map f xs) k (length xs)
    gap_at_end k [] last up is less = tt
    gap_at_end k (x ∷ xs) last up is less = gap_after k (x ∷ xs) (length (x ∷ xs) - 1) last up (omega arith) (omega arith) is less

    module _ (ties : IsAntisymmetric cmp) where
      -- an item that ties with the key is at the key's place
      pub place_from_tie : (k : K) (xs : List X) (i : ℕ) (d : X) → IsIncreasing key cmp (map f xs) → i < length xs → cmp (key (f (get_or xs i d))) k ≡ Equal → IsPlaceOf key cmp (map f xs) k i
      place_from_tie k [] i d up lt tie = absurd (omega arith)
      place_from_tie k (x ∷ xs) zero d up lt tie = ties (key (f x)) k tie
      place_from_tie k (x ∷ xs) (suc i) d up lt tie =
          let below = below_at (key (f x)) xs i d up.0 (omega arith) in
          (sym (alike_right total (key (f (get_or xs i d))) k (key (f x)) tie) ∙ below, place_from_tie k xs i d up.1 (omega arith) tie)

      -- so a binary search ends at the key's place or at its gap
      pub searched : (k : K) (xs : List X) (r : Result ℕ ℕ) → IsIncreasing key cmp (map f xs) → IsSearchInRange r (length xs) → IsBinarySearchResult (λ x. cmp (key (f x)) k) xs r
          → record { found : IfOk r (IsPlaceOf key cmp (map f xs) k); absent : IfErr r (IsGapOf key cmp (map f xs) k) }
      searched k [] (Ok at) up bound is = absurd (omega arith)
      searched k (x ∷ xs) (Ok at) up bound is = record { found = place_from_tie k (x ∷ xs) at x up bound (is x); absent = tt }
      searched k xs (Err at) up bound is =
          let parts = is (ranks_increase k xs up) in
          record { found = tt; absent = gap_from_sides k xs at bound (λ j d lt. parts.0 j d (omega arith) lt) (λ j d ge lt. parts.1 j d ge lt) }
