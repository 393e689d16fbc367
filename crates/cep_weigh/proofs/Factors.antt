-- Factors one after another, and what a claim that is kept says of runs.
use Rattle.std.proofs.Common.{◌≡◌, ⊎_elim, Bool, true, false, cond, not, ◌&&◌, ◌==◌, ℕ, ◌+◌, ◌/◌, ◌<◌, ◌≤◌, List, [], ◌∷◌, map, Contains, refl, sym, ap, subst, ◌∙◌, arith, le-div_iff_mul-le, ℤ, pos, ◌+ℤ◌, ◌*ℤ◌, ◌≤ℤ◌, ◌<ℤ◌, length, slice_get, Some, ◌-ℤ◌}
use Rattle.std.specs.Prelude.{filter, count_by}
use Rattle.std.proofs.lemmas.Int.{ints}
use Rattle.std.proofs.lemmas.List.Sums.{sum_by-cons}
use Rattle.std.proofs.lemmas.Option.{slice_get_within}
use Rattle.cep_base.proofs.Elements.{all_at, contains_cases}
use Rattle.cep_base.proofs.Lists.{all_from_places}
use Rattle.cep_term.specs.Multiset.{Multiset}
use Rattle.cep_term.specs.Tree.{Tree}
use Rattle.cep_rule.specs.Patterns.{PremiseTree}
use Rattle.cep_rule.specs.declared.rule.Rule.{Rule}
use Rattle.cep_rule.specs.declared.parts.Parts.{Parts}
use Rattle.cep_rule.specs.Step.{Step}
use Rattle.cep_claim.specs.declared.weight.Claim.{Claim}
use Rattle.cep_claim.specs.declared.weight.Claim.TheVariants.{Most, Fall}
use Rattle.cep_claim.specs.declared.weight.Part.{Part}
use Rattle.cep_weigh.specs.WeightRuns.{GoesAsClaimed, HoldsOfRun, HoldsOfRuns}
use Rattle.cep_claim.specs.Factors.{AreNotNegative}
use Rattle.cep_weigh.specs.Weights.{weighed, copies_of_pred, weight_of, Wants, ArePositive, factors_of, left_sum, right_sum, KeepsTo, AllKeepTo}
use Rattle.cep_weigh.proofs.Sums.{weighed_sum, weighed_none, weighed_one, positive_not_negative, part_within, run_falls, run_claimed, run_keeps, run_ends}

-- Sums of factors, one after another, and what bounds the copies of a predicate.

module _ {X : Type 0} (pred_of : X → ℕ) (parts : List Part) where
  counts_one : (x : X) (xs : List X) (p : ℕ) → count_by (λ y. pred_of y == p) (x ∷ xs) ≡ cond (pred_of x == p) 1 0 + count_by (λ y. pred_of y == p) xs
  counts_one x xs p = sum_by-cons (λ y. cond (pred_of y == p) 1 0) x xs

  pub weighed_factors : (xs : List X) → weighed parts (λ p. count_by (λ y. pred_of y == p) xs) ≡ factors_of parts (map pred_of xs)
  weighed_factors [] = weighed_none parts
  weighed_factors (x ∷ xs) =
      (λ i. weighed parts (λ p. counts_one x xs p i))
      ∙ weighed_sum parts (λ p. cond (pred_of x == p) 1 0) (λ p. count_by (λ y. pred_of y == p) xs)
      ∙ (λ i. weighed_one parts (pred_of x) i +ℤ weighed_factors xs i)

no_more : (n : ℕ) → 0 + n ≡ n
no_more n = omega arith

-- those that pass a test are counted among those that a filter keeps
count_filtered : {X : Type 0} (test other : X → Bool) (xs : List X) → count_by (λ x. test x && other x) xs ≡ count_by other (filter test xs)
count_filtered test other [] = refl
count_filtered test other (x ∷ xs) =
    sum_by-cons (λ y. cond (test y && other y) 1 0) x xs ∙ by (test x) (count_filtered test other xs)
  where
    by : (t : Bool) → count_by (λ y. test y && other y) xs ≡ count_by other (filter test xs) → cond (t && other x) 1 0 + count_by (λ y. test y && other y) xs ≡ count_by other (cond t (x ∷ filter test xs) (filter test xs))
    by true rest = ap (λ n. cond (other x) 1 0 + n) rest ∙ sym (sum_by-cons (λ y. cond (other y) 1 0) x (filter test xs))
    by false rest = no_more _ ∙ rest

pub left_factors : (parts : List Part) (premises : List PremiseTree) → weighed parts (λ p. count_by (λ premise. not premise.kept && (premise.atom.pred == p)) premises) ≡ factors_of parts (map (λ premise. premise.atom.pred) (filter (λ premise. not premise.kept) premises))
left_factors parts premises =
    (λ i. weighed parts (λ p. count_filtered (λ premise. not premise.kept) (λ premise. premise.atom.pred == p) premises i))
    ∙ weighed_factors (λ premise. premise.atom.pred) parts (filter (λ premise. not premise.kept) premises)

-- whatever is claimed, no weight of a run is greater
falls_too : (claim : Claim) (x y : ℤ) → Wants claim x y → Wants Most x y
falls_too claim x y wants = grind (arith, ints)

goes_too : (claim : Claim) (parts : List Part) (state : Multiset) (run : List Multiset) → GoesAsClaimed claim parts state run → GoesAsClaimed Most parts state run
goes_too claim parts state [] goes = tt
goes_too claim parts state (next ∷ later) goes = (falls_too claim _ _ goes.0, goes_too claim parts next later goes.1)

itself : (x : ℤ) → x ≤ℤ x
itself x = omega (arith, ints)

no_greater : (x y z : ℤ) → x ≤ℤ y → y ≤ℤ z → x ≤ℤ z
no_greater x y z p q = omega (arith, ints)

divided : (f w n : ℕ) (x y : ℤ) → x ≡ pos f → y ≡ pos w → pos 0 <ℤ x → (x *ℤ pos n) ≤ℤ y → n ≤ w / f
divided f w n x y e e' some within = grind (arith, le-div_iff_mul-le, ints)

pub copies_bounded : (claim : Claim) (parts : List Part) (part : Part) (state later : Multiset) (run : List Multiset) (weight factor : ℕ) → GoesAsClaimed claim parts state run → ArePositive parts → Contains parts part → part.factor ≡ pos factor → weight_of parts state ≡ pos weight → Contains (state ∷ run) later → copies_of_pred later part.pred ≤ weight / factor
copies_bounded claim parts part state later run weight factor goes some there is_factor is_weight in_run =
    let low : weight_of parts later ≤ℤ weight_of parts state = ⊎_elim
    (λ (same : state ≡ later). subst (λ s. weight_of parts s ≤ℤ weight_of parts state) same (itself (weight_of parts state)))
    (λ behind. all_at (λ s. weight_of parts s ≤ℤ weight_of parts state) run later (run_falls parts state run (goes_too claim parts state run goes)) behind)
    (contains_cases state run later in_run) in
    divided factor weight (copies_of_pred later part.pred) part.factor (weight_of parts state) is_factor is_weight
    (all_at (λ (p : Part). pos 0 <ℤ p.factor) parts part some there)
    (no_greater _ _ _ (part_within parts part (copies_of_pred later) (positive_not_negative parts some) there) low)

-- What a claim that is kept says of runs.

run_holds : (claim : Claim) (parts : List Part) (state : Multiset) (run : List Multiset) → (claim ≡ Fall → AreNotNegative parts) → GoesAsClaimed claim parts state run → HoldsOfRun claim parts state run
run_holds claim parts state run signs goes = grind (arith, run_keeps, run_ends)

pub claims_hold : (program : Parts) (claim : Claim) (parts : List Part)
    → ((rule : Rule) (values : List Tree) (old new : Multiset) → Step program.signature rule values old new → weight_of parts new ≡ weight_of parts old +ℤ (right_sum parts rule -ℤ left_sum parts rule))
    → (claim ≡ Fall → AreNotNegative parts) → AllKeepTo program claim parts → HoldsOfRuns program claim parts
claims_hold program claim parts changes signs kept = grind (arith, run_holds, run_claimed, copies_bounded, program.start)

pub kept_all : (program other : Parts) (claim : Claim) (sum parts : List Part) (i : ℕ) → other ≡ program → parts ≡ sum → length other.rules ≤ i
    → ((number : ℕ) (rule : Rule) → number < i → slice_get other.rules number ≡ Some rule → KeepsTo claim parts rule) → AllKeepTo program claim sum
kept_all program other claim sum parts i same is all each = grind (arith, all_from_places, slice_get_within, other.rules)
