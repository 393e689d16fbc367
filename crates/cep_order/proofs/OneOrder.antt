-- A seed gives one order.
use Rattle.std.proofs.Common.{◌≡◌, ◌↔◌, ⊎_elim, ℕ, suc, ◌+◌, ◌<◌, List, [], ◌∷◌, ◌++◌, length, get_or, refl, sym, ap, ◌∙◌, subst, arith, Contains}
use Rattle.std.specs.Prelude.{slice_get}
use Rattle.std.specs.List.Sorted.{IsStrictlyIncreasing}
use Rattle.std.proofs.lemmas.Bool.{cases_eq}
use Rattle.std.proofs.lemmas.List.Kept.{AllPairs-from_increasing}
use Rattle.std.proofs.lemmas.Option.{slice_get_within}
use Rattle.cep_choice.specs.Draws.{place_drawn}
use Rattle.cep_base.proofs.Elements.{contains_none, contains_cases, contains_same, contains_behind, contains_at}
use Rattle.cep_base.proofs.Lists.{some_same}
use Rattle.cep_order.specs.declared.step_cause.StepCause.{StepCause}
use Rattle.cep_order.specs.Orders.{IsTaken, AreTaken, IsOrderBy}

-- Strictly increasing lists with the same elements are the same.
rest_increases : (x : ℕ) (xs : List ℕ) → IsStrictlyIncreasing (x ∷ xs) → IsStrictlyIncreasing xs
rest_increases x xs increases k within = let next : suc k + 1 ≡ suc (k + 1) = omega arith in subst (λ n. get_or xs k 0 < get_or (x ∷ xs) n 0) next (increases (suc k) (omega arith))

first_is_least : (x : ℕ) (xs : List ℕ) (y : ℕ) → IsStrictlyIncreasing (x ∷ xs) → Contains xs y → x < y
first_is_least x xs y increases there = subst (λ n. x < n) there.2 (AllPairs-from_increasing (x ∷ xs) increases 0 (suc there.0) y (omega arith) (omega (arith, there.1)))

same_first : (x : ℕ) (xs : List ℕ) (y : ℕ) (ys : List ℕ) → IsStrictlyIncreasing (x ∷ xs) → IsStrictlyIncreasing (y ∷ ys) → Contains (y ∷ ys) x → Contains (x ∷ xs) y → x ≡ y
same_first x xs y ys one other here there =
    ⊎_elim
    (λ same. sym same)
    (λ later. ⊎_elim (λ same. same) (λ again. let less = first_is_least y ys x other later in absurd (omega (arith, less, first_is_least x xs y one again))) (contains_cases x xs y there))
    (contains_cases y ys x here)

rest_same : (x : ℕ) (xs : List ℕ) (y : ℕ) (ys : List ℕ) (n : ℕ) → IsStrictlyIncreasing (x ∷ xs) → x ≡ y → (Contains (x ∷ xs) n → Contains (y ∷ ys) n) → Contains xs n → Contains ys n
rest_same x xs y ys n increases same goes there = grind (arith, first_is_least x xs n increases there, contains_cases y ys n (goes (contains_behind x xs n there)), contains_behind x xs n there)

pub same_increasing : (xs ys : List ℕ) → IsStrictlyIncreasing xs → IsStrictlyIncreasing ys → ((n : ℕ) → (Contains xs n ↔ Contains ys n)) → xs ≡ ys
same_increasing [] [] one other same = refl
same_increasing [] (y ∷ ys) one other same = absurd (contains_none y ((same y).1 (contains_same y ys y refl)))
same_increasing (x ∷ xs) [] one other same = absurd (contains_none x ((same x).0 (contains_same x xs x refl)))
same_increasing (x ∷ xs) (y ∷ ys) one other same =
    let first = same_first x xs y ys one other ((same x).0 (contains_same x xs x refl)) ((same y).1 (contains_same y ys y refl)) in
    let rest = same_increasing xs ys (rest_increases x xs one) (rest_increases y ys other) (λ n. (rest_same x xs y ys n one first (same n).0, rest_same y ys x xs n other (sym first) (same n).1)) in
    ap (λ n. n ∷ xs) first ∙ ap (λ (ns : List ℕ). y ∷ ns) rest

module _ (seed : ℕ) (causes : List StepCause) where
  -- One step is taken next.
  module _ (drawn : ℕ) (taken : List ℕ) (place one_drawn other other_drawn : ℕ) (one : IsTaken seed causes drawn taken place one_drawn) (two : IsTaken seed causes drawn taken other other_drawn) where
    same_ready : one.ready ≡ two.ready
    same_ready = same_increasing one.ready two.ready one.are.increasing two.are.increasing (λ n. (λ there. (two.are.each n).1 ((one.are.each n).0 there), λ there. (one.are.each n).1 ((two.are.each n).0 there)))

    same_count : length one.ready ≡ length two.ready
    same_count = ap (λ (ns : List ℕ). length ns) same_ready

    same_at : (one.at ≡ two.at) × (one_drawn ≡ other_drawn)
    same_at =
        let here = slice_get_within one.ready one.at place one.there in
        ⊎_elim
        (λ lone. (omega (arith, here, (slice_get_within two.ready two.at other two.there), lone, same_count), one.lone lone ∙ sym (two.lone (sym same_count ∙ lone))))
        (λ apart.
        let several = one.several (omega (arith, here)) in
        let others = two.several (omega (arith, here, same_count)) in
        (omega (arith, several.0, others.0, ap (place_drawn seed drawn) same_count), several.1 ∙ sym others.1))
        (cases_eq (length one.ready) 1)

    same_place : place ≡ other
    same_place = some_same place other (sym one.there ∙ ap (λ (ns : List ℕ). slice_get ns one.at) same_ready ∙ ap (slice_get two.ready) same_at.0 ∙ two.there)

  ready_one : (drawn : ℕ) (taken : List ℕ) (place drawn' : ℕ) → (is : IsTaken seed causes drawn taken place drawn') → Contains is.ready place
  ready_one drawn taken place drawn' is = contains_at is.ready is.at place is.there

  same_taken : (drawn : ℕ) (taken places others : List ℕ) → AreTaken seed causes drawn taken places → AreTaken seed causes drawn taken others → places ≡ others
  same_taken drawn taken [] [] one two = refl
  same_taken drawn taken [] (other ∷ others) one two = absurd (one other ((two.1.are.each other).0 (ready_one drawn taken other two.0 two.1)))
  same_taken drawn taken (place ∷ places) [] one two = absurd (two place ((one.1.are.each place).0 (ready_one drawn taken place one.0 one.1)))
  same_taken drawn taken (place ∷ places) (other ∷ others) one two =
      let same = same_place drawn taken place one.0 other two.0 one.1 two.1 in
      let drawn_same = (same_at drawn taken place one.0 other two.0 one.1 two.1).1 in
      let moved = subst (λ n. AreTaken seed causes two.0 (taken ++ n ∷ []) others) (sym same) two.2 in
      let rest = same_taken one.0 (taken ++ place ∷ []) places others one.2 (subst (λ n. AreTaken seed causes n (taken ++ place ∷ []) others) (sym drawn_same) moved) in
      ap (λ n. n ∷ places) same ∙ ap (λ (ns : List ℕ). other ∷ ns) rest

pub one_order : (seed : ℕ) (causes : List StepCause) (order other : List ℕ) → IsOrderBy seed causes order → IsOrderBy seed causes other → order ≡ other
one_order seed causes order other one two = grind (arith, same_taken, one.numbers, one.places, two.places, one.taken, two.taken, two.numbers)
