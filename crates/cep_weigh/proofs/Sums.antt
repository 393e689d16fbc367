-- Weighed sums, what a step does to them, and claims over whole runs.
use Rattle.std.proofs.Common.{◌≡◌, ⊎_elim, true, false, cond, ◌==◌, eq-eqb, ℕ, ◌+◌, ◌*◌, List, [], ◌∷◌, Contains, refl, sym, ap, subst, ◌∙◌, arith, mul-add, mul-one, ℤ, pos, neg_ℤ, ◌+ℤ◌, ◌-ℤ◌, ◌*ℤ◌, ◌≤ℤ◌, zero, suc, ◌<◌, ◌≤◌, ◌^◌, Bool, not, ◌++◌, length, map, take, get_or, slice_get, Some, IsTrue, ◌↔◌, ◌&&◌, ◌||◌, IsSomeAnd, ◌<ℤ◌}
use Rattle.std.specs.List.{AllByRecursion}
use Rattle.std.proofs.lemmas.Int.{ints, to_z-of_z}
use Rattle.std.proofs.lemmas.Bool.{eqb-true, eqb-false, ne_eqb, false≢true}
use Rattle.std.proofs.Math.IntN.{*ℤ-zero}
use Rattle.cep_base.proofs.Elements.{contains_none, contains_cases, all_at}
use Rattle.cep_base.proofs.Lists.{take_next, all_weaker}
use Rattle.cep_claim.specs.declared.weight.Claim.{Claim}
use Rattle.cep_claim.specs.declared.weight.Part.{Part}
use Rattle.cep_claim.proofs.Spelled.{fits}
use Rattle.cep_weigh.proofs.Worths.{copies_sum, copies_gathered, copies_once}
use Rattle.cep_claim.specs.Factors.{AreNotNegative, IsFactor, HaveOwnPredicates}
use Rattle.cep_weigh.specs.Weights.{weighed, Wants, ArePositive, factor_of, factors_of, copies_of_pred, used_of, made_of, weight_of, left_sum, right_sum, AllKeepTo, AreOfLinear}
use Rattle.std.specs.Prelude.{filter, if◌then◌else◌, sum_by, count_by}
use Rattle.std.proofs.lemmas.List.Sums.{sum_by-cons, sum_by-append}
use mir.Syntax.{w64}
use mir.Val.{SFits, to_z, of_z}
use Rattle.cep_term.specs.Tree.{AtomTree, Tree}
use Rattle.cep_term.specs.BagLaws.{BagLaws}
use Rattle.cep_term.specs.Multiset.{Multiset, gathered, sum_of, once}
use Rattle.cep_rule.specs.Patterns.{PremiseTree}
use Rattle.cep_rule.specs.declared.signature.Signature.{Signature}
use Rattle.cep_rule.specs.declared.rule.Rule.{Rule}
use Rattle.cep_rule.specs.Typing.{is_fact}
use Rattle.cep_rule.specs.Step.{Step}
use Rattle.cep_base.specs.declared.kind.PredKind.TheVariants.{Linear}
use Rattle.cep_rule.specs.Instances.{full_instance, full_instances}
use Rattle.cep_rule.specs.declared.parts.Parts.{Parts}
use Rattle.cep_claim.specs.declared.weight.Claim.TheVariants.{Keep, Most, Fall}
use Rattle.cep_weigh.specs.WeightRuns.{Follows, IsRun, GoesAsClaimed}

-- Weighed sums: how they change, and that they are not negative.

neg_sum : (x y : ℕ) → neg_ℤ (pos (x + y)) ≡ neg_ℤ (pos x) +ℤ neg_ℤ (pos y)
neg_sum x y = omega (arith, ints)

pub scaled : (f : ℤ) (a b : ℕ) → f *ℤ pos (a + b) ≡ (f *ℤ pos a) +ℤ (f *ℤ pos b)
scaled f a b = grind (arith, mul-add, neg_sum)

both : (x y z w x' y' z' w' : ℤ) → x +ℤ y ≡ z +ℤ w → x' +ℤ y' ≡ z' +ℤ w' → (x +ℤ x') +ℤ (y +ℤ y') ≡ (z +ℤ z') +ℤ (w +ℤ w')
both x y z w x' y' z' w' e f = omega (arith, ints)

-- where counts change alike at each part, the sums change alike
pub weighed_alike : (parts : List Part) (n u o m : ℕ → ℕ) → AllByRecursion (λ part. n part.pred + u part.pred ≡ o part.pred + m part.pred) parts → weighed parts n +ℤ weighed parts u ≡ weighed parts o +ℤ weighed parts m
weighed_alike [] n u o m all = refl
weighed_alike (part ∷ parts) n u o m all =
    both (part.factor *ℤ pos (n part.pred)) (part.factor *ℤ pos (u part.pred)) (part.factor *ℤ pos (o part.pred)) (part.factor *ℤ pos (m part.pred)) _ _ _ _
    (sym (scaled part.factor (n part.pred) (u part.pred)) ∙ ap (λ k. part.factor *ℤ pos k) all.0 ∙ scaled part.factor (o part.pred) (m part.pred))
    (weighed_alike parts n u o m all.1)

pub by_difference : (new left old right : ℤ) → new +ℤ left ≡ old +ℤ right → new ≡ old +ℤ (right -ℤ left)
by_difference new left old right e = omega (arith, ints)

-- what is wanted of the sides is what is wanted of the states, and the other way round
pub wants_states : (claim : Claim) (new left old right : ℤ) → new ≡ old +ℤ (right -ℤ left) → Wants claim left right → Wants claim old new
wants_states claim new left old right e wants = grind (arith, ints)

pub wants_sides : (claim : Claim) (new left old right : ℤ) → new ≡ old +ℤ (right -ℤ left) → Wants claim old new → Wants claim left right
wants_sides claim new left old right e wants = grind (arith, ints)

scaled_not_negative : (f : ℤ) (n : ℕ) → pos 0 ≤ℤ f → pos 0 ≤ℤ (f *ℤ pos n)
scaled_not_negative f n some = grind (arith, ints)

pub weighed_not_negative : (parts : List Part) (count : ℕ → ℕ) → AreNotNegative parts → pos 0 ≤ℤ weighed parts count
weighed_not_negative [] count all = omega (arith, ints)
weighed_not_negative (part ∷ parts) count all = grind (arith, scaled_not_negative, ints, part.factor, part.pred, all.0, weighed_not_negative parts count all.1, all.1)

pub positive_not_negative : (parts : List Part) → ArePositive parts → AreNotNegative parts
positive_not_negative [] all = tt
positive_not_negative (part ∷ parts) all = grind (arith, ints, part.factor, all.0, positive_not_negative parts all.1, all.1)

-- no part is more than the whole
pub part_within : (parts : List Part) (part : Part) (count : ℕ → ℕ) → AreNotNegative parts → Contains parts part → (part.factor *ℤ pos (count part.pred)) ≤ℤ weighed parts count
part_within [] part count all there = absurd (contains_none part there)
part_within (first ∷ parts) part count all there =
    ⊎_elim
    (λ (same : first ≡ part). subst (λ (p : Part). (p.factor *ℤ pos (count p.pred)) ≤ℤ ((first.factor *ℤ pos (count first.pred)) +ℤ weighed parts count)) same (before _ _ (weighed_not_negative parts count all.1)))
    (λ later. behind _ _ _ (scaled_not_negative first.factor (count first.pred) all.0) (part_within parts part count all.1 later))
    (contains_cases first parts part there)
  where
    before : (x y : ℤ) → pos 0 ≤ℤ y → x ≤ℤ (x +ℤ y)
    before x y q = omega (arith, ints)

    behind : (x y z : ℤ) → pos 0 ≤ℤ x → z ≤ℤ y → z ≤ℤ (x +ℤ y)
    behind x y z p q = omega (arith, ints)

-- sums of counts
pub weighed_sum : (parts : List Part) (n m : ℕ → ℕ) → weighed parts (λ p. n p + m p) ≡ weighed parts n +ℤ weighed parts m
weighed_sum [] n m = refl
weighed_sum (part ∷ parts) n m = regroup (part.factor *ℤ pos (n part.pred + m part.pred)) (part.factor *ℤ pos (n part.pred)) (part.factor *ℤ pos (m part.pred)) (weighed parts (λ p. n p + m p)) (weighed parts n) (weighed parts m) (scaled part.factor (n part.pred) (m part.pred)) (weighed_sum parts n m)
  where
    regroup : (xy x y s s' t' : ℤ) → xy ≡ x +ℤ y → s ≡ s' +ℤ t' → xy +ℤ s ≡ (x +ℤ s') +ℤ (y +ℤ t')
    regroup xy x y s s' t' e f = omega (arith, ints)

pub scaled_none : (f : ℤ) → f *ℤ pos 0 ≡ pos 0
scaled_none f = *ℤ-zero f

pub scaled_one : (f : ℤ) → f *ℤ pos 1 ≡ f
scaled_one f = grind (arith, mul-one)

pub weighed_none : (parts : List Part) → weighed parts (λ p. 0) ≡ pos 0
weighed_none [] = refl
weighed_none (part ∷ parts) = λ i. scaled_none part.factor i +ℤ weighed_none parts i

pub weighed_one : (parts : List Part) (pred : ℕ) → weighed parts (λ p. cond (pred == p) 1 0) ≡ factor_of parts pred
weighed_one [] pred = refl
weighed_one (part ∷ parts) pred = λ i. one i +ℤ weighed_one parts pred i
  where
    one : part.factor *ℤ pos (cond (pred == part.pred) 1 0) ≡ cond (part.pred == pred) part.factor (pos 0)
    one = elim (pred == part.pred) as (λ t. (pred == part.pred) ≡ t → part.factor *ℤ pos (cond t 1 0) ≡ cond (part.pred == pred) part.factor (pos 0)) [
      | true ↦ λ e. scaled_one part.factor ∙ ap (λ t. cond t part.factor (pos 0)) (sym (eq-eqb part.pred pred (sym (eqb-true pred part.pred e))))
      | false ↦ λ e. scaled_none part.factor ∙ ap (λ t. cond t part.factor (pos 0)) (sym (not_equal part.pred pred (λ same. eqb-false pred part.pred e (sym same))))
    ] refl
      where
        not_equal : (a b : ℕ) → (a ≡ b → ⊥) → (a == b) ≡ false
        not_equal a b apart = elim (a == b) as (λ t. (a == b) ≡ t → t ≡ false) [ true ↦ λ e. absurd (apart (eqb-true a b e)) | false ↦ λ e. refl ] refl

-- Sums that are added one after another, and how large they are.

-- numbers that items stand for, added
abbrev pub added : {X : Type 0} → (X → ℤ) → List X → ℤ
added f [] = pos 0
added f (x ∷ xs) = f x +ℤ added f xs

added_last : {X : Type 0} (f : X → ℤ) (xs : List X) (x : X) → added f (xs ++ x ∷ []) ≡ added f xs +ℤ f x
added_last f [] x = grind (arith, ints)
added_last f (y ∷ xs) x = group (f y) (added f (xs ++ x ∷ [])) (added f xs) (f x) (added_last f xs x) where
  group : (a b c d : ℤ) → b ≡ c +ℤ d → a +ℤ b ≡ (a +ℤ c) +ℤ d
  group a b c d e = omega (arith, ints)

pub added_next : {X : Type 0} (f : X → ℤ) (xs : List X) (i : ℕ) (x : X) → slice_get xs i ≡ Some x → added f (take (i + 1) xs) ≡ added f (take i xs) +ℤ f x
added_next f xs i x at = ap (added f) (take_next xs i x at) ∙ added_last f (take i xs) x

-- what a premise adds to the left sum
abbrev pub used : List Part → PremiseTree → ℤ
used parts premise = if premise.kept then pos 0 else factor_of parts premise.atom.pred

pub used_is : (parts : List Part) (premises : List PremiseTree) → added (used parts) premises ≡ factors_of parts (map (λ premise. premise.atom.pred) (filter (λ premise. not premise.kept) premises))
used_is parts [] = refl
used_is parts (premise ∷ premises) = grind (arith, ints, premise.kept, used_is parts premises, premise.atom.pred)

pub made_is : (parts : List Part) (atoms : List AtomTree) → added (λ a. factor_of parts a.pred) atoms ≡ factors_of parts (map (λ a. a.pred) atoms)
made_is parts [] = refl
made_is parts (a ∷ atoms) = ap (λ z. factor_of parts a.pred +ℤ z) (made_is parts atoms)

-- products distribute, and are bounded
doubled : (x y : ℤ) (n : ℕ) → (x +ℤ y) *ℤ pos n ≡ (x *ℤ pos n) +ℤ (y *ℤ pos n)
doubled x y zero = scaled_none (x +ℤ y) ∙ sym (λ i. scaled_none x i +ℤ scaled_none y i)
doubled x y (suc n) =
    more (x +ℤ y) n ∙ join x y ((x +ℤ y) *ℤ pos n) (x *ℤ pos n) (y *ℤ pos n) (doubled x y n) ∙ sym (λ i. more x n i +ℤ more y n i)
  where
    more : (z : ℤ) (m : ℕ) → z *ℤ pos (suc m) ≡ (z *ℤ pos m) +ℤ z
    more z m = ap (λ (k : ℕ). z *ℤ pos k) (one m) ∙ scaled z m 1 ∙ ap (λ w. (z *ℤ pos m) +ℤ w) (scaled_one z) where
      one : (m : ℕ) → suc m ≡ m + 1
      one m = omega arith

    join : (x y s a b : ℤ) → s ≡ a +ℤ b → s +ℤ (x +ℤ y) ≡ (a +ℤ x) +ℤ (b +ℤ y)
    join x y s a b e = omega (arith, ints)

-- A number is within so many times the greatest factor.
pub record IsWithin (n : ℕ) (z : ℤ) : Type 0 where
  pub low : neg_ℤ (pos (1000000 * n)) ≤ℤ z
  pub high : z ≤ℤ pos (1000000 * n)

pub product_within : (f : ℤ) (n : ℕ) → neg_ℤ (pos 1000000) ≤ℤ f → f ≤ℤ pos 1000000 → IsWithin n (f *ℤ pos n)
product_within f zero low high = subst (IsWithin 0) (sym (scaled_none f)) (record { low = omega (arith, ints); high = omega (arith, ints) })
product_within f (suc n) low high = grind (arith, scaled, scaled_one, ints, product_within f n low high)

pub worth_within : (f from : ℤ) (n : ℕ) → SFits w64 f → from ≡ pos n → n < 2 ^ 32 → neg_ℤ (pos 1000000) ≤ℤ f → f ≤ℤ pos 1000000 → IsWithin n (to_z w64 (of_z w64 (to_z w64 (of_z w64 f) *ℤ to_z w64 (of_z w64 from))))
worth_within f from n fits' is small low high = grind (arith, product_within f n low high, ints, to_z-of_z)

-- what the copies of one predicate weigh
weighed_some : (parts : List Part) (pred n : ℕ) → weighed parts (λ p. cond (pred == p) n 0) ≡ factor_of parts pred *ℤ pos n
weighed_some [] pred n = grind (arith, ints)
weighed_some (part ∷ parts) pred n = (λ i. one i +ℤ weighed_some parts pred n i) ∙ sym (doubled (cond (part.pred == pred) part.factor (pos 0)) (factor_of parts pred) n)
  where
    none : pos 0 ≡ pos 0 *ℤ pos n
    none = nothing n where
      nothing : (n : ℕ) → pos 0 ≡ pos 0 *ℤ pos n
      nothing n = omega (arith, ints)

    one : part.factor *ℤ pos (cond (pred == part.pred) n 0) ≡ cond (part.pred == pred) part.factor (pos 0) *ℤ pos n
    one = elim (pred == part.pred) as (λ t. (pred == part.pred) ≡ t → part.factor *ℤ pos (cond t n 0) ≡ cond (part.pred == pred) part.factor (pos 0) *ℤ pos n) [
      | true ↦ λ e. ap (λ t. cond t part.factor (pos 0) *ℤ pos n) (sym (eq-eqb part.pred pred (sym (eqb-true pred part.pred e))))
      | false ↦ λ e. scaled_none part.factor ∙ none ∙ ap (λ t. cond t part.factor (pos 0) *ℤ pos n) (sym (ne_eqb part.pred pred (λ same. eqb-false pred part.pred e (sym same))))
    ] refl

-- what an entry of a state weighs
abbrev pub entry_worth : List Part → AtomTree × ℕ → ℤ
entry_worth parts e = factor_of parts e.0.pred *ℤ pos e.1

pub entries_are : (parts : List Part) (entries : List (AtomTree × ℕ)) → added (entry_worth parts) entries ≡ weighed parts (λ pred. sum_by (λ e. if e.0.pred == pred then e.1 else 0) entries)
entries_are parts [] = sym (weighed_none parts)
entries_are parts (e ∷ entries) =
    (λ i. sym (weighed_some parts e.0.pred e.1) i +ℤ entries_are parts entries i)
    ∙ sym (weighed_sum parts (λ p. cond (e.0.pred == p) e.1 0) (λ p. sum_by (λ d. if d.0.pred == p then d.1 else 0) entries))
    ∙ sym (λ i. weighed parts (λ p. sum_by-cons (λ (d : AtomTree × ℕ). if d.0.pred == p then d.1 else 0) e entries i))

-- the copies of some entries
abbrev pub copies_among : List (AtomTree × ℕ) → ℕ
copies_among [] = 0
copies_among (e ∷ entries) = e.1 + copies_among entries

copies_last : (entries : List (AtomTree × ℕ)) (e : AtomTree × ℕ) → copies_among (entries ++ e ∷ []) ≡ copies_among entries + e.1
copies_last [] e = omega arith
copies_last (d ∷ entries) e = let h = copies_last entries e in omega arith

pub copies_next : (entries : List (AtomTree × ℕ)) (i : ℕ) (e : AtomTree × ℕ) → slice_get entries i ≡ Some e → copies_among (take (i + 1) entries) ≡ copies_among (take i entries) + e.1
copies_next entries i e at = ap copies_among (take_next entries i e at) ∙ copies_last (take i entries) e

pub copies_front : (entries : List (AtomTree × ℕ)) (i : ℕ) → copies_among (take i entries) ≤ sum_by (λ e. e.1) entries
copies_front [] zero = omega arith
copies_front [] (suc i) = omega arith
copies_front (e ∷ entries) zero = omega arith
copies_front (e ∷ entries) (suc i) = let h = copies_front entries i in let s = sum_by-cons (λ (d : AtomTree × ℕ). d.1) e entries in omega arith

-- the factor of a predicate of different ones is that of its part
no_factor : (parts : List Part) (pred : ℕ) → AllByRecursion (λ later. ¬ (later.pred ≡ pred)) parts → factor_of parts pred ≡ pos 0
no_factor [] pred apart = refl
no_factor (part ∷ parts) pred apart = (λ i. cond (ne_eqb part.pred pred apart.0 i) part.factor (pos 0) +ℤ no_factor parts pred apart.1 i)

pub first_factor : (parts : List Part) (d : Part) (pred : ℕ) → 1 ≤ length parts → HaveOwnPredicates parts → (get_or parts 0 d).pred ≡ pred → factor_of parts pred ≡ (get_or parts 0 d).factor
first_factor [] d pred some apart is = absurd (omega arith)
first_factor (part ∷ parts) d pred some apart is =
    (λ i. cond (eq-eqb part.pred pred is i) part.factor (pos 0) +ℤ no_factor parts pred (subst (λ p. AllByRecursion (λ later. ¬ (later.pred ≡ p)) parts) is apart.0) i) ∙ nothing part.factor
  where
    nothing : (a : ℤ) → a +ℤ pos 0 ≡ a
    nothing a = omega (arith, ints)

pub first_fits : (parts : List Part) (d : Part) → 1 ≤ length parts → AllByRecursion (λ part. IsFactor part.factor) parts → SFits w64 (get_or parts 0 d).factor
first_fits [] d some factors = absurd (omega arith)
first_fits (part ∷ parts) d some factors = fits part.factor factors.0

-- a test that failed
pub unwanted : (b : Bool) (claim : Claim) (left right : ℤ) → SFits w64 left → SFits w64 right → (IsTrue b ↔ Wants claim (to_z w64 (of_z w64 left)) (to_z w64 (of_z w64 right))) → b ≡ false → ¬ Wants claim left right
unwanted b claim left right l r tells is wants = grind (arith, to_z-of_z, tells.1)

-- What a step does to the copies of a linear predicate.

-- The predicate is declared and linear.
abbrev pub IsLinear : Signature → ℕ → Type 0
IsLinear signature pred = IsSomeAnd (slice_get signature.preds pred) (λ decl. decl.kind ≡ Linear)

abbrev of_pred : ℕ → AtomTree → Bool
of_pred pred a = a.pred == pred

-- no atom of it is a fact
pub linear_is_no_fact : (signature : Signature) (pred : ℕ) → IsLinear signature pred → (a : AtomTree) → of_pred pred a ≡ true → is_fact signature a ≡ false
linear_is_no_fact signature pred linear a is = grind (arith, eqb-true, signature.preds, a.pred)

-- an instance has the predicate of its pattern
instance_preds : (values : List Tree) (pred : ℕ) (atoms : List AtomTree) → count_by (of_pred pred) (full_instances values atoms) ≡ count_by (of_pred pred) atoms
instance_preds values pred [] = refl
instance_preds values pred (a ∷ atoms) = omega (arith, instance_preds values pred atoms, sum_by-cons (λ x. cond (of_pred pred x) 1 0) a atoms, sum_by-cons (λ x. cond (of_pred pred x) 1 0) (full_instance values a) (full_instances values atoms))

module _ (laws : BagLaws) (signature : Signature) (pred : ℕ) (linear : IsLinear signature pred) where
  side_copies : (values : List Tree) (atoms : List AtomTree) (rest : Multiset) → copies_of_pred (once (is_fact signature) (sum_of (once (is_fact signature) (gathered (full_instances values atoms))) rest)) pred ≡ count_by (of_pred pred) atoms + copies_of_pred rest pred
  side_copies values atoms rest = grind (arith, linear_is_no_fact signature pred linear, copies_once, copies_sum laws (once (is_fact signature) (gathered (full_instances values atoms))) rest pred, copies_gathered laws (full_instances values atoms) pred, instance_preds values pred atoms)

  abbrev atom_in : PremiseTree → AtomTree
  atom_in premise = premise.atom

  abbrev is_kept : PremiseTree → Bool
  is_kept premise = premise.kept || is_fact signature premise.atom

  abbrev is_used : PremiseTree → Bool
  is_used premise = not premise.kept && (of_pred pred premise.atom)

  -- each premise of the predicate is kept or is used up
  parted : (premises : List PremiseTree) → count_by (of_pred pred) (map atom_in premises) ≡ count_by (of_pred pred) (map atom_in (filter is_kept premises)) + count_by is_used premises
  parted [] = refl
  parted (premise ∷ premises) =
      let needed = sum_by-cons (λ x. cond (of_pred pred x) 1 0) premise.atom (map atom_in premises) in
      let kept = sum_by-cons (λ x. cond (of_pred pred x) 1 0) premise.atom (map atom_in (filter is_kept premises)) in
      let used = sum_by-cons (λ x. cond (is_used x) 1 0) premise premises in
      by premise.kept (is_fact signature premise.atom) (of_pred pred premise.atom) (linear_is_no_fact signature pred linear premise.atom) (parted premises) needed kept used
    where
      all : ℕ
      all = count_by (of_pred pred) (map atom_in premises)

      kept_rest : ℕ
      kept_rest = count_by (of_pred pred) (map atom_in (filter is_kept premises))

      by : (k f p : Bool) → (p ≡ true → f ≡ false) → all ≡ kept_rest + count_by is_used premises
          → count_by (of_pred pred) (map atom_in (premise ∷ premises)) ≡ cond p 1 0 + all
          → count_by (of_pred pred) (map atom_in (premise ∷ filter is_kept premises)) ≡ cond p 1 0 + kept_rest
          → count_by is_used (premise ∷ premises) ≡ cond (not k && p) 1 0 + count_by is_used premises
          → count_by (of_pred pred) (map atom_in (premise ∷ premises)) ≡ count_by (of_pred pred) (map atom_in (cond (k || f) (premise ∷ filter is_kept premises) (filter is_kept premises))) + count_by is_used (premise ∷ premises)
      by true f true apart rest needed kept used = omega arith
      by true f false apart rest needed kept used = omega arith
      by false true true apart rest needed kept used = absurd (false≢true (sym (apart refl)))
      by false true false apart rest needed kept used = omega arith
      by false false true apart rest needed kept used = omega arith
      by false false false apart rest needed kept used = omega arith

  -- a step takes what is used up, and puts what is made
  pub step_copies : (rule : Rule) (values : List Tree) (old new : Multiset) → Step signature rule values old new → copies_of_pred new pred + used_of rule pred ≡ copies_of_pred old pred + made_of rule pred
  step_copies rule values old new step = grind (arith, side_copies, sum_by-append, parted, step.rest, step.before, rule.right, step.after, rule.premises)

-- Claims over whole runs, by induction.

pub step_weights : BagLaws → (signature : Signature) (parts : List Part) (rule : Rule) (values : List Tree) (old new : Multiset) → AreOfLinear signature parts → Step signature rule values old new → weight_of parts new ≡ weight_of parts old +ℤ (right_sum parts rule -ℤ left_sum parts rule)
step_weights laws signature parts rule values old new linear step =
    by_difference _ _ _ _
    (weighed_alike parts (copies_of_pred new) (used_of rule) (copies_of_pred old) (made_of rule)
    (all_weaker (λ (part : Part). IsLinear signature part.pred) _ parts (λ part is. step_copies laws signature part.pred is rule values old new step) linear))

module _ (program : Parts) (claim : Claim) (parts : List Part) (changes : (rule : Rule) (values : List Tree) (old new : Multiset) → Step program.signature rule values old new → weight_of parts new ≡ weight_of parts old +ℤ (right_sum parts rule -ℤ left_sum parts rule)) (kept : AllKeepTo program claim parts) where
  pub run_claimed : (state : Multiset) (run : List Multiset) → IsRun program state run → GoesAsClaimed claim parts state run
  run_claimed state [] is = tt
  run_claimed state (next ∷ later) is =
      let follows : Follows program state next = is.0 in (
        wants_states claim (weight_of parts next) (left_sum parts follows.rule) (weight_of parts state) (right_sum parts follows.rule)
            (changes follows.rule follows.values state next follows.step)
            (all_at (λ (rule : Rule). Wants claim (left_sum parts rule) (right_sum parts rule)) program.rules follows.rule kept follows.of_program),
        run_claimed next later is.1,
      )

pub run_keeps : (parts : List Part) (state : Multiset) (run : List Multiset) → GoesAsClaimed Keep parts state run → AllByRecursion (λ later. weight_of parts later ≡ weight_of parts state) run
run_keeps parts state [] goes = tt
run_keeps parts state (next ∷ later) goes = (goes.0, all_weaker (λ s. weight_of parts s ≡ weight_of parts next) _ later (λ s e. e ∙ goes.0) (run_keeps parts next later goes.1))

no_greater : (x y z : ℤ) → x ≤ℤ y → y ≤ℤ z → x ≤ℤ z
no_greater x y z p q = omega (arith, ints)

pub run_falls : (parts : List Part) (state : Multiset) (run : List Multiset) → GoesAsClaimed Most parts state run → AllByRecursion (λ later. weight_of parts later ≤ℤ weight_of parts state) run
run_falls parts state [] goes = tt
run_falls parts state (next ∷ later) goes = (goes.0, all_weaker (λ s. weight_of parts s ≤ℤ weight_of parts next) _ later (λ s e. no_greater _ _ _ e goes.0) (run_falls parts next later goes.1))

one_step : (n : ℕ) (x y : ℤ) → pos n ≤ℤ x → x <ℤ y → pos (suc n) ≤ℤ y
one_step n x y p q = omega (arith, ints)

pub run_ends : (parts : List Part) (state : Multiset) (run : List Multiset) → AreNotNegative parts → GoesAsClaimed Fall parts state run → pos (length run) ≤ℤ weight_of parts state
run_ends parts state [] some goes = weighed_not_negative parts (copies_of_pred state) some
run_ends parts state (next ∷ later) some goes = one_step (length later) _ _ (run_ends parts next later some goes.1) goes.0
