-- Offers and flags that are gone through one by one, by counts.
use Rattle.std.proofs.Common.{◌≡◌, ℕ, ◌+◌, ◌≤◌, ◌<◌, Bool, true, false, List, [], ◌∷◌, ap, ◌∙◌, arith, zero, suc, ◌^◌, ◌++◌, length, take, Some, slice_get, refl, sym, append-nil}
use Rattle.std.specs.Prelude.{sum_by}
use Rattle.std.specs.List.{AllByRecursion, flat_map}
use Rattle.std.proofs.lemmas.List.Sums.{sum_by-cons}
use Rattle.std.specs.FinMap as finite
use Rattle.cep_term.specs.Tree.{AtomTree, IsGroundAtom}
use Rattle.cep_term.specs.BagLaws.{BagLaws}
use Rattle.cep_term.specs.Multiset.{Multiset, count_of, sum_of, IsContained, held, gathered, difference_of, copies_in, IsBag, IsOnce}
use Rattle.cep_rule.specs.declared.parts.Parts.{Parts}
use Rattle.cep_rule.specs.declared.offer.Offer.{Offer}
use Rattle.cep_rule.specs.Typing.{is_fact}
use Rattle.cep_rule.specs.State.{joined, Fits}
use Rattle.cep_round.specs.Rounds.{needs, sum_of_sides, all_need, AreAdmitted, admitted, used_with, used_after, all_give, Together}
use Rattle.std.proofs.lemmas.Grind.{flat_map-append}
use Rattle.cep_base.specs.declared.limits.TheConstants.{MOST_COPIES}
use Rattle.cep_rule.specs.declared.signature.Signature.{Signature}

-- What several offers need and give, by counts.

held_join : (t : Bool) (x y : ℕ) → held t (x + held t y) ≡ held t (x + y)
held_join t x y = grind arith

held_less : (t : Bool) (n m : ℕ) → n ≤ m → held t n ≤ m
held_less t n m within = grind arith

module _ (laws : BagLaws) (program : Parts) where
  pub join_count : (x y : Multiset) (a : AtomTree) → count_of (joined program.signature x y) a ≡ held (is_fact program.signature a) (count_of x a + count_of y a)
  join_count x y a = laws.once_count (is_fact program.signature) (sum_of x y) a ∙ ap (held (is_fact program.signature a)) (laws.sum x y a)

  -- the copies of an atom on one side of all offers
  abbrev pub count_all : (Parts → Offer → Multiset) → AtomTree → List Offer → ℕ
  count_all side a offers = sum_by (λ (offer : Offer). count_of (side program offer) a) offers

  pub all_count : (side : Parts → Offer → Multiset) (offers : List Offer) (a : AtomTree) → count_of (sum_of_sides side program offers) a ≡ held (is_fact program.signature a) (count_all side a offers)
  all_count side [] a = grind (arith, laws.empty a)
  all_count side (offer ∷ offers) a = grind (arith, join_count (side program offer) (sum_of_sides side program offers) a, all_count side offers a, held_join, sum_by-cons (λ (o : Offer). count_of (side program o) a) offer offers)

  -- what is used, and what those need that are admitted after it, is there
  admitted_there : (state used : Multiset) (offers : List Offer) (flags : List Bool) (a : AtomTree) → AreAdmitted program state used offers flags → held (is_fact program.signature a) (count_of used a) ≤ count_of state a
      → held (is_fact program.signature a) (count_of used a + count_all needs a (admitted offers flags)) ≤ count_of state a
  admitted_there state used (offer ∷ offers) (true ∷ flags) a are within = grind (arith, sum_by-cons (λ (o : Offer). count_of (needs program o) a) offer (admitted offers flags), join_count used (needs program offer) a, admitted_there state (joined program.signature used (needs program offer)) offers flags a are.1, are.0 a)
  admitted_there state used (offer ∷ offers) (false ∷ flags) a are within = admitted_there state used offers flags a are.1 within
  admitted_there state used offers flags a are within = grind arith

  pub what_is_admitted : (state : Multiset) (offers : List Offer) (flags : List Bool) → AreAdmitted program state finite.empty offers flags → IsContained (all_need program (admitted offers flags)) state
  what_is_admitted state offers flags are a = grind (arith, laws.empty a, admitted_there state finite.empty offers flags a are, held_less, all_count needs (admitted offers flags) a)

facts_within : (t : Bool) (u n state count : ℕ) → count ≡ held t (u + n) → (t ≡ false → n ≡ 0) → u ≤ state → n ≤ state → count ≤ state
facts_within t u n state count e none used needed = grind arith

pub facts_there : BagLaws → (program : Parts) (state used : Multiset) (offer : Offer) → IsContained used state → IsContained (needs program offer) state → ((a : AtomTree) → is_fact program.signature a ≡ false → count_of (needs program offer) a ≡ 0) → IsContained (joined program.signature used (needs program offer)) state
facts_there laws program state used offer within within' none a = grind (arith, facts_within, join_count, program.signature)

pub each_admitted : (P : Offer → Type 0) (offers : List Offer) (flags : List Bool) → AllByRecursion P offers → AllByRecursion P (admitted offers flags)
each_admitted P (offer ∷ offers) (true ∷ flags) all = (all.0, each_admitted P offers flags all.1)
each_admitted P (offer ∷ offers) (false ∷ flags) all = each_admitted P offers flags all.1
each_admitted P offers flags all = grind arith

pub copies_there : BagLaws → (program : Parts) (state used : Multiset) (offer : Offer) (a : AtomTree) → is_fact program.signature a ≡ false → count_of state a < count_of used a + count_of (needs program offer) a → ¬ IsContained (joined program.signature used (needs program offer)) state
copies_there laws program state used offer a linear few = grind (arith, join_count, program.signature)

-- Offers and flags that are gone through one by one.

pub as_many_flags : (program : Parts) (state used : Multiset) (offers : List Offer) (flags : List Bool) → AreAdmitted program state used offers flags → length flags ≡ length offers
as_many_flags program state used (offer ∷ offers) (true ∷ flags) are = ap suc (as_many_flags program state (used_with program used offer) offers flags are.1)
as_many_flags program state used (offer ∷ offers) (false ∷ flags) are = ap suc (as_many_flags program state used offers flags are.1)
as_many_flags program state used offers flags are = grind arith

-- one offer more, which is admitted or blocked
next_by_suc : (offers : List Offer) (flags : List Bool) (n : ℕ) (offer : Offer) → slice_get offers n ≡ Some offer → slice_get flags n ≡ Some true
    → admitted (take (suc n) offers) (take (suc n) flags) ≡ admitted (take n offers) (take n flags) ++ offer ∷ []
next_by_suc (first ∷ offers) (t ∷ flags) (suc n) offer is is' = grind (arith, next_by_suc offers flags n offer is is')
next_by_suc offers flags n offer is is' = grind arith

same_by_suc : (offers : List Offer) (flags : List Bool) (n : ℕ) → slice_get flags n ≡ Some false → admitted (take (suc n) offers) (take (suc n) flags) ≡ admitted (take n offers) (take n flags)
same_by_suc [] flags zero is = refl
same_by_suc [] flags (suc n) is = refl
same_by_suc (first ∷ offers) [] n is = absurd cc
same_by_suc (first ∷ offers) (true ∷ flags) zero is = grind arith
same_by_suc (first ∷ offers) (false ∷ flags) zero is = grind arith
same_by_suc (first ∷ offers) (true ∷ flags) (suc n) is = ap (λ more. first ∷ more) (same_by_suc offers flags n is)
same_by_suc (first ∷ offers) (false ∷ flags) (suc n) is = same_by_suc offers flags n is

pub next_admitted : (offers : List Offer) (flags : List Bool) (n : ℕ) (offer : Offer) → slice_get offers n ≡ Some offer → slice_get flags n ≡ Some true
    → admitted (take (n + 1) offers) (take (n + 1) flags) ≡ admitted (take n offers) (take n flags) ++ offer ∷ []
next_admitted offers flags n offer is is' = let e : n + 1 ≡ suc n = omega arith in rw e (next_by_suc offers flags n offer is is')

pub next_blocked : (offers : List Offer) (flags : List Bool) (n : ℕ) → slice_get flags n ≡ Some false → admitted (take (n + 1) offers) (take (n + 1) flags) ≡ admitted (take n offers) (take n flags)
next_blocked offers flags n is = let e : n + 1 ≡ suc n = omega arith in rw e (same_by_suc offers flags n is)

pub few_admitted : (offers : List Offer) (flags : List Bool) → length (admitted offers flags) ≤ length offers
few_admitted (offer ∷ offers) (t ∷ flags) = grind (arith, few_admitted offers flags)
few_admitted offers flags = grind arith

held_few : (t : Bool) (n m : ℕ) → t ≡ true → n ≡ held t m → n ≤ 1
held_few t n m is e = grind arith

module _ (laws : BagLaws) (program : Parts) where
  joined_once : (x y : Multiset) → IsOnce (is_fact program.signature) (joined program.signature x y)
  joined_once x y a is = held_few (is_fact program.signature a) _ _ is (join_count laws program x y a)

  pub used_once : (used : Multiset) (offers : List Offer) (flags : List Bool) → IsOnce (is_fact program.signature) used → IsOnce (is_fact program.signature) (used_after program used offers flags)
  used_once used (offer ∷ offers) (true ∷ flags) once = used_once (used_with program used offer) offers flags (joined_once used (needs program offer))
  used_once used (offer ∷ offers) (false ∷ flags) once = used_once used offers flags once
  used_once used offers flags once = grind arith

  pub empty_once : IsOnce (is_fact program.signature) finite.empty
  empty_once a is = let none = laws.empty a in omega arith

  pub empty_within : (state : Multiset) → IsContained finite.empty state
  empty_within state a = let none = laws.empty a in omega arith

  pub used_within : (state used : Multiset) (offers : List Offer) (flags : List Bool) → AreAdmitted program state used offers flags → IsContained used state → IsContained (used_after program used offers flags) state
  used_within state used (offer ∷ offers) (true ∷ flags) are within = used_within state (used_with program used offer) offers flags are.1 are.0
  used_within state used (offer ∷ offers) (false ∷ flags) are within = used_within state used offers flags are.1 within
  used_within state used offers flags are within = grind arith

-- what is contained in a state that fits has few copies
pub few_copies : BagLaws → (part state : Multiset) → IsBag part → IsBag state → IsContained part state → Fits state → copies_in part ≤ MOST_COPIES
few_copies laws part state bag bag' within fits = omega (arith, ap copies_in (laws.taken_and_added state part bag' bag within), laws.sum_copies (difference_of state part) part, fits.copies)

-- adding the atoms of a side is adding the side
same_joined : (t : Bool) (u n m : ℕ) → m ≡ held t n → held t (u + n) ≡ held t (u + m)
same_joined t u n m e = grind arith

pub joined_gathered : BagLaws → (program : Parts) (used side : Multiset) (atoms : List AtomTree) → IsBag used → IsBag side → IsBag (gathered atoms) → ((a : AtomTree) → count_of side a ≡ held (is_fact program.signature a) (count_of (gathered atoms) a))
    → joined program.signature used (gathered atoms) ≡ joined program.signature used side
joined_gathered laws program used side atoms bag side_bag atoms_bag same =
    laws.equal (joined program.signature used (gathered atoms)) (joined program.signature used side)
    (laws.once_kept (is_fact program.signature) _ (laws.sum_kept used (gathered atoms) bag atoms_bag))
    (laws.once_kept (is_fact program.signature) _ (laws.sum_kept used side bag side_bag))
    (λ a. rw (join_count laws program used (gathered atoms) a, join_count laws program used side a) (same_joined (is_fact program.signature a) (count_of used a) (count_of (gathered atoms) a) (count_of side a) (same a)))

pub exchanged : BagLaws → (program : Parts) (offers : List Offer) (needed given : List AtomTree) (state new : Multiset)
    → ((a : AtomTree) → count_of (all_need program offers) a ≡ held (is_fact program.signature a) (count_of (gathered needed) a))
    → ((a : AtomTree) → count_of (all_give program offers) a ≡ held (is_fact program.signature a) (count_of (gathered given) a))
    → IsContained (all_need program offers) state
    → new ≡ joined program.signature (difference_of state (joined program.signature finite.empty (gathered needed))) (gathered given)
    → Together program offers state new
exchanged laws program offers needed given state new needs_are gives_are contained is = grind (arith, join_count, program.signature, laws.empty, laws.difference)

-- what is left of a state has no more copies than it
pub few_left : BagLaws → (signature : Signature) (state : Multiset) (needed given : List AtomTree) → IsBag state → AllByRecursion IsGroundAtom needed → copies_in state + length given < 2 ^ 32
    → (none taken copied left : Multiset) → none ≡ finite.empty → taken ≡ joined signature none (gathered needed) → copied ≡ state → left ≡ difference_of copied taken
    → copies_in left + length given < 2 ^ 32
few_left laws signature state needed given bag ground few none taken copied left none_is taken_is copied_is left_is =
    let none_bag : IsBag none = rw none_is laws.empty_kept in
    let taken_bag : IsBag taken = rw taken_is (laws.once_kept (is_fact signature) _ (laws.sum_kept none (gathered needed) none_bag (laws.gathered_kept needed ground))) in
    let left_bag = laws.difference_kept state taken bag taken_bag in
    let all = ap copies_in (laws.taken_and_added state (difference_of state taken) bag left_bag (λ a. let less = laws.difference state taken a in omega arith)) in
    let both = laws.sum_copies (difference_of state (difference_of state taken)) (difference_of state taken) in
    rw (left_is, copied_is) (omega arith)

-- one offer more is gone through
pub moved_on : (program : Parts) (state : Multiset) (offers offers' : List Offer) (flags flags' : List Bool) (used used' : Multiset) → offers ≡ offers' → flags ≡ flags' → used ≡ used'
    → AreAdmitted program state finite.empty offers' flags' × (used_after program finite.empty offers' flags' ≡ used') → AreAdmitted program state finite.empty offers flags × (used ≡ used_after program finite.empty offers flags)
moved_on program state offers offers' flags flags' used used' e f g grown = rw (e, f, g) (grown.0, sym grown.1)

pub gathered_more : (side : Offer → List AtomTree) (offers next : List Offer) (offer : Offer) (old new : List AtomTree) → next ≡ offers ++ offer ∷ [] → old ≡ flat_map side offers → new ≡ old ++ side offer → new ≡ flat_map side next
gathered_more side offers next offer old new longer so_far more = rw (more, so_far, longer, flat_map-append side offers (offer ∷ []), append-nil (side offer)) refl

pub gathered_same : (side : Offer → List AtomTree) (offers next : List Offer) (old new : List AtomTree) → next ≡ offers → old ≡ flat_map side offers → new ≡ old → new ≡ flat_map side next
gathered_same side offers next old new same so_far is = rw (is, so_far, same) refl

pub true_not_false : true ≡ false → ⊥
true_not_false e = cc

-- Flags that are found one after another.

module _ (program : Parts) (state : Multiset) (next : Offer) where
  pub one_admitted : (used : Multiset) (offers : List Offer) (flags : List Bool) → AreAdmitted program state used offers flags → IsContained (joined program.signature (used_after program used offers flags) (needs program next)) state
      → AreAdmitted program state used (offers ++ next ∷ []) (flags ++ true ∷ []) × (used_after program used (offers ++ next ∷ []) (flags ++ true ∷ []) ≡ joined program.signature (used_after program used offers flags) (needs program next))
  one_admitted used (offer ∷ offers) (true ∷ flags) are within = let later = one_admitted (joined program.signature used (needs program offer)) offers flags are.1 within in ((are.0, later.0), later.1)
  one_admitted used (offer ∷ offers) (false ∷ flags) are within = let later = one_admitted used offers flags are.1 within in ((are.0, later.0), later.1)
  one_admitted used offers flags are within = grind arith

  pub one_blocked : (used : Multiset) (offers : List Offer) (flags : List Bool) → AreAdmitted program state used offers flags → ¬ IsContained (joined program.signature (used_after program used offers flags) (needs program next)) state
      → AreAdmitted program state used (offers ++ next ∷ []) (flags ++ false ∷ []) × (used_after program used (offers ++ next ∷ []) (flags ++ false ∷ []) ≡ used_after program used offers flags)
  one_blocked used (offer ∷ offers) (true ∷ flags) are not_within = let later = one_blocked (joined program.signature used (needs program offer)) offers flags are.1 not_within in ((are.0, later.0), later.1)
  one_blocked used (offer ∷ offers) (false ∷ flags) are not_within = let later = one_blocked used offers flags are.1 not_within in ((are.0, later.0), later.1)
  one_blocked used offers flags are not_within = grind arith
