-- Steps that are taken as they get ready are a reordering.
use Rattle.std.proofs.Common.{◌≡◌, ◌⊎◌, inl, inr, ⊎_elim, ℕ, zero, suc, ◌+◌, ◌-◌, ◌<◌, ◌≤◌, List, [], ◌∷◌, ◌++◌, map, length, append_assoc, append-nil, refl, sym, ap, ◌∙◌, subst, arith, Contains}
use Rattle.std.specs.List.{AllByRecursion}
use Rattle.cep_cause.proofs.Ordered.{three}
use Rattle.cep_cause.proofs.Central.{got, at_within}
use Rattle.cep_base.proofs.Elements.{contains_none, contains_cases, contains_same, contains_behind, contains_left, contains_right, contains_at, all_of, all_at}
use Rattle.cep_order.specs.declared.step_cause.StepCause.{StepCause}
use Rattle.cep_order.specs.Orders.{NamesEarlier, PrecedesIn, IsReadyIn, IsTaken, AreTaken, IsOrderBy}
use Rattle.cep_cause.specs.Touches.{Touch}
use Rattle.cep_cause.specs.Reorderings.{Precedes, Respects, IsReordering, step_places, IsOrder, RestsOn}
use Rattle.cep_cause.specs.Graphs.{AreCauses}

-- What precedes precedes in the graph.
precedes_in : (touches : List Touch) (causes : List StepCause) (i j : ℕ) → AreCauses touches causes → Precedes touches i j → PrecedesIn causes i j
precedes_in touches causes i j are is =
    let one = got causes i (let many = are.many in let within = at_within touches i is.earlier is.at_earlier in omega arith) in
    let other = got causes j (let many = are.many in let within = at_within touches j is.later is.at_later in omega arith) in
    let cause = are.each j is.later other.0 is.at_later other.1 in
    record {
      is_earlier = is.is_earlier;
      earlier = one.0;
      at_earlier = one.1;
      later = other.0;
      at_later = other.1;
      why = ⊎_elim
          (λ (rests : RestsOn is.later is.earlier). inl ((cause.after i).1 (is.is_earlier, record { earlier = is.earlier; at = is.at_earlier; rests = rests })))
          (λ barrier. inr (⊎_elim (λ here. inl ((are.each i is.earlier one.0 is.at_earlier one.1).barrier ∙ here)) (λ there. inr (cause.barrier ∙ there)) barrier))
          is.why;
    }

among_or_not : (places : List ℕ) (place : ℕ) → Contains places place ⊎ (Contains places place → ⊥)
among_or_not [] place = inr (λ there. contains_none place there)
among_or_not (first ∷ places) place = grind (arith, contains_same, three first place, contains_behind, contains_cases, among_or_not places place)

module _ (seed : ℕ) (causes : List StepCause) where
  ready_first : (drawn : ℕ) (taken : List ℕ) (place drawn' : ℕ) → IsTaken seed causes drawn taken place drawn' → IsReadyIn causes taken place
  ready_first drawn taken place drawn' is = (is.are.each place).0 (contains_at is.ready is.at place is.there)

  -- What is taken later was not taken, and is a step.
  taken_later : (drawn : ℕ) (taken places : List ℕ) (place : ℕ) → AreTaken seed causes drawn taken places → Contains places place → (Contains taken place → ⊥) × (place < length causes)
  taken_later drawn taken [] place are there = absurd (contains_none place there)
  taken_later drawn taken (first ∷ places) place are there =
      ⊎_elim
      (λ same. let ready = ready_first drawn taken first are.0 are.1 in (λ was. ready.not_taken (subst (λ n. Contains taken n) (sym same) was), subst (λ n. n < length causes) same ready.within))
      (λ later. let rest = taken_later are.0 (taken ++ (first ∷ [])) places place are.2 later in (λ was. rest.0 (contains_left taken (first ∷ []) place was), rest.1))
      (contains_cases first places place there)

  -- In the end each step is taken.
  module _ (taken : List ℕ) (none : (place : ℕ) → IsReadyIn causes taken place → ⊥) where
    all_below : (bound place : ℕ) → place < bound → place < length causes → Contains taken place
    all_below zero place less within = absurd (omega arith)
    all_below (suc bound) place less within =
        ⊎_elim
        (λ there. there)
        (λ missing. absurd (none place (record { within = within; not_taken = missing; before = λ earlier precedes. all_below bound earlier (let first = precedes.is_earlier in omega arith) (let first = precedes.is_earlier in omega arith) })))
        (among_or_not taken place)

  all_taken : (drawn : ℕ) (taken places : List ℕ) (place : ℕ) → AreTaken seed causes drawn taken places → place < length causes → Contains (taken ++ places) place
  all_taken drawn taken [] place are within = subst (λ (all : List ℕ). Contains all place) (sym (append-nil taken)) (all_below taken are (length causes) place within within)
  all_taken drawn taken (first ∷ places) place are within = subst (λ (all : List ℕ). Contains all place) (append_assoc taken (first ∷ []) places) (all_taken are.0 (taken ++ (first ∷ [])) places place are.2 within)

  taken_respects : (touches : List Touch) → AreCauses touches causes → (drawn : ℕ) (taken places : List ℕ) → AreTaken seed causes drawn taken places → Respects touches places
  taken_respects touches graph drawn taken [] are = tt
  taken_respects touches graph drawn taken (first ∷ places) are =
      let ready = ready_first drawn taken first are.0 are.1 in (
        all_of (λ later. ¬ (first ≡ later) × ¬ Precedes touches later first) places (λ later there.
            let new = (taken_later are.0 (taken ++ (first ∷ [])) places later are.2 there).0 in (
              λ same. new (contains_right taken (first ∷ []) later (contains_same first [] later same)),
              λ precedes. new (contains_left taken (first ∷ []) later (ready.before later (precedes_in touches causes later first graph precedes))),
            )),
        taken_respects touches graph are.0 (taken ++ (first ∷ [])) places are.2,
      )

-- what is counted from 1 and back is as it was
step_places_of : (places : List ℕ) → step_places (map (λ place. place + 1) places) ≡ places
step_places_of [] = refl
step_places_of (place ∷ places) = ap (λ rest. (place + 1 - 1) ∷ rest) (step_places_of places) ∙ ap (λ n. n ∷ places) (omega arith)

all_counted : (places : List ℕ) → AllByRecursion (λ number. 0 < number) (map (λ place. place + 1) places)
all_counted [] = tt
all_counted (place ∷ places) = (omega arith, all_counted places)

-- The order that a seed gives is one of the graph's.
pub order_by_is_one : (seed : ℕ) (touches : List Touch) (causes : List StepCause) (order : List ℕ) → AreCauses touches causes → IsOrderBy seed causes order → IsOrder touches order
order_by_is_one seed touches causes order graph is = record {
  counted = subst (AllByRecursion (λ number. 0 < number)) (sym is.numbers) (all_counted is.places);
  reorders = subst (IsReordering touches) (sym (ap step_places is.numbers ∙ step_places_of is.places)) (record {
    steps = λ place. (
      λ there. let within = (taken_later seed causes 0 [] is.places place is.taken there).1 in let long = graph.many in omega arith,
      λ within. all_taken seed causes 0 [] is.places place is.taken (let long = graph.many in omega arith),
    );
    respects = taken_respects seed causes touches graph 0 [] is.places is.taken;
  });
}

-- The numbers in an entry are those of earlier steps.
pub names_earlier : (touches : List Touch) (causes : List StepCause) → AreCauses touches causes → NamesEarlier causes
names_earlier touches causes graph place cause at =
    let touch = got touches place (let many = graph.many in let within = at_within causes place cause at in omega arith) in
    let is = graph.each place touch.0 cause touch.1 at in
    all_of (λ number. (0 < number) × (number ≤ place)) cause.after (λ number there.
    let some : 0 < number = all_at (λ number. 0 < number) cause.after number is.counted there in
    let less = ((is.after (number - 1)).0 (subst (λ n. Contains cause.after n) (omega arith) there)).0 in
    (some, omega arith))
