-- What the set of heads' keys says of the clauses.
use Rattle.std.proofs.Common.{◌≡◌, ℕ, zero, suc, ◌≤◌, Bool, true, false, List, [], ◌∷◌, ◌++◌, length, slice_get, Option, Some, None, IfSome, IsSomeAnd, refl, sym, ap, ◌∙◌, arith}
use Rattle.std.specs.Prelude.{IsTrue}
use Rattle.std.specs.declared.cmp.Ordering.{Ordering}
use Rattle.std.specs.declared.cmp.Ordering.TheVariants.{Equal}
use Rattle.std.specs.Ordering.{is_gt, nat_cmp, ordering_then}
use Rattle.std.specs.BTreeSet.{BTreeSet, contains, IsKeyRangeOf, Updates}
use Rattle.std.specs.BTreeMap.Range.{IsLeBy}
use Rattle.std.specs.declared.ops.Bound.TheVariants.{Included, Unbounded}
use Rattle.cep_rule.specs.Patterns.{ClauseTree}
use Rattle.cep_rule.specs.Heads.{first_constructor}
use Rattle.cep_rule.specs.HeadSet.{HeadKey, head_cmp, head_key, HaveHeads}

-- A key is one of this predicate and this first constructor, with no greater number.
abbrev pub IsLike : ℕ → Option ℕ → ℕ → HeadKey → Type 0
IsLike pred first n key = (key.0 ≡ pred) × ((key.1 ≡ first) × (key.2 ≤ n))

not_greater : (one other : Ordering) → is_gt (ordering_then one other) ≡ false → is_gt one ≡ false
not_greater one other is = grind arith

-- what is between two keys that differ by their numbers alone is like them
between : (pred : ℕ) (first : Option ℕ) (from n : ℕ) (key : HeadKey) → IsLeBy head_cmp (pred, first, from) key → IsLeBy head_cmp key (pred, first, n) → IsLike pred first n key
between pred None from n (p, None, m) low high = grind arith
between pred None from n (p, Some c, m) low high = grind arith
between pred (Some c) from n (p, None, m) low high = grind arith
between pred (Some c) from n (p, Some d, m) low high = let one = same_pred low high in let two = same_con one low high in (one, (ap Some two, no_later one two high))
  where
    tied : (x y : ℕ) → is_gt (nat_cmp x y) ≡ false → is_gt (nat_cmp y x) ≡ false → y ≡ x
    tied x y low high = grind arith

    same_pred : IsLeBy head_cmp (pred, Some c, from) (p, Some d, m) → IsLeBy head_cmp (p, Some d, m) (pred, Some c, n) → p ≡ pred
    same_pred low high = tied pred p (not_greater _ (nat_cmp c d) (not_greater _ (nat_cmp from m) low)) (not_greater _ (nat_cmp d c) (not_greater _ (nat_cmp m n) high))

    equal : (x y : ℕ) → x ≡ y → nat_cmp x y ≡ Equal
    equal x y is = grind arith

    same_con : p ≡ pred → IsLeBy head_cmp (pred, Some c, from) (p, Some d, m) → IsLeBy head_cmp (p, Some d, m) (pred, Some c, n) → d ≡ c
    same_con one low high = tied c d (not_greater _ (nat_cmp from m) (rw (equal pred p (sym one)) at low)) (not_greater _ (nat_cmp m n) (rw (equal p pred one) at high))

    no_later : p ≡ pred → d ≡ c → IsLeBy head_cmp (p, Some d, m) (pred, Some c, n) → m ≤ n
    no_later one two high = let by_number : is_gt (nat_cmp m n) ≡ false = rw (equal p pred one, equal d c two) at high in grind arith

later : (pred : ℕ) (first : Option ℕ) (from n : ℕ) → from ≤ n → IsLeBy head_cmp (pred, first, from) (pred, first, n)
later pred first from n after = grind arith

-- of the keys from one on the first is like that of a clause which begins so
pub first_like : (clauses : List ClauseTree) (heads : BTreeSet HeadKey) (keys : List HeadKey) (pred : ℕ) (first : Option ℕ) (from n : ℕ) (Q : Type 0) → HaveHeads clauses heads → IsKeyRangeOf head_cmp (Included (pred, first, from)) Unbounded heads keys → from ≤ n
    → (IsSomeAnd (slice_get keys 0) (IsLike pred first n) → Q) → IfSome (slice_get clauses n) (λ clause. clause.head.pred ≡ pred → first_constructor clause.head.args ≡ first → Q)
first_like clauses heads keys pred first from n Q have range after so = by (slice_get clauses n) (have n)
  where
    among : (keys : List HeadKey) → IsKeyRangeOf head_cmp (Included (pred, first, from)) Unbounded heads keys → contains head_cmp heads (pred, first, n) ≡ true → IsSomeAnd (slice_get keys 0) (IsLike pred first n)
    among [] range has = let none = range.5 refl (pred, first, n) (later pred first from n after, tt) in cc
    among (key ∷ keys) range has = between pred first from n key range.1.0.0 (range.2 (pred, first, n) (later pred first from n after, tt) has)

    by : (o : Option ClauseTree) → IfSome o (λ clause. IsTrue (contains head_cmp heads (head_key n clause))) → IfSome o (λ clause. clause.head.pred ≡ pred → first_constructor clause.head.args ≡ first → Q)
    by None has = tt
    by (Some clause) has = λ same_pred same_first. so (among keys range (ap (λ p. contains head_cmp heads (p, first, n)) (sym same_pred) ∙ ap (λ f. contains head_cmp heads (clause.head.pred, f, n)) (sym same_first) ∙ has))

module _ (heads more : BTreeSet HeadKey) (new : HeadKey) (updates : Updates head_cmp heads more new true) where
  -- the keys of the clauses stay
  pub heads_stay : (clauses : List ClauseTree) → HaveHeads clauses heads → HaveHeads clauses more
  heads_stay clauses have n = grind (arith, updates.0)

  -- and one more clause has the new one
  pub heads_more : (clauses : List ClauseTree) (clause : ClauseTree) → new ≡ head_key (length clauses) clause → HaveHeads clauses heads → HaveHeads (clauses ++ clause ∷ []) more
  heads_more clauses clause is have = at clauses (λ n c. contains head_cmp more (head_key n c)) (heads_stay clauses have) (ap (contains head_cmp more) (sym is) ∙ updates.1)
    where
      at : (clauses : List ClauseTree) (P : ℕ → ClauseTree → Bool) → ((n : ℕ) → IfSome (slice_get clauses n) (λ c. IsTrue (P n c))) → IsTrue (P (length clauses) clause) → (n : ℕ) → IfSome (slice_get (clauses ++ clause ∷ []) n) (λ c. IsTrue (P n c))
      at [] P have last zero = last
      at [] P have last (suc n) = tt
      at (c ∷ clauses) P have last zero = have zero
      at (c ∷ clauses) P have last (suc n) = at clauses (λ k. P (suc k)) (λ k. have (suc k)) last n
