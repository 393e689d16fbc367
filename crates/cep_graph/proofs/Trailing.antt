-- One step more, and the numbers on which it rests.
use Rattle.std.proofs.Common.{◌≡◌, ◌↔◌, ℕ, ◌<◌, true, List, [], sym, ap, ◌∙◌, subst, arith, Contains, inl, inr, ⊎_elim, ◌+◌, ◌≤◌, Bool, false, cond, not, ◌∷◌, ◌++◌, length, refl, append-nil}
use Rattle.std.specs.Prelude.{nat_lt, Result, Ok, Err, IfOk}
use Rattle.std.specs.List.{AllByRecursion, filter, dedup}
use Rattle.std.specs.Ordering.{nat_cmp}
use Rattle.std.specs.List.Retain.{IsFiltered, DiffersFromLast}
use Rattle.std.specs.List.Sorted.{IsStrictlyIncreasing, IsPermutation, IsSorted}
use Rattle.std.proofs.lemmas.Bool.Decides.{nat_tests}
use Rattle.std.proofs.lemmas.Bool.{false≢true}
use Rattle.std.proofs.lemmas.List.Filters.{dedup_is}
use Rattle.std.proofs.lemmas.List.Sorted.{IsPermutation-sym, Contains-permutation}
use Rattle.std.proofs.lemmas.List.Kept.{IsStrictlyIncreasing-filter, Contains-dedup_nat, Contains-from_dedup}
use Rattle.std.proofs.lemmas.Map.Keys.{IsStrictlyIncreasing-dedup}
use Rattle.cep_base.proofs.Elements.{all_of, contains_none, contains_first, contains_behind, contains_either, all_at, both_all}
use Rattle.cep_graph.proofs.Made.{filter_cases, filter_there}
use Rattle.cep_graph.specs.Queues.{Queues}
use Rattle.cep_graph.specs.Trails.{IsTrail, IsTouchBy, HasTouched, TouchesBy}
use lib.Dec.{eqb}
use Rattle.cep_term.specs.Tree.{Tree, AtomTree, IsGroundAtom, IsAtomInRange}
use Rattle.cep_term.specs.Multiset.{gained}
use Rattle.cep_graph.proofs.Taken.{picks_present}
use Rattle.cep_rule.specs.declared.signature.Signature.{Signature}
use Rattle.cep_rule.specs.declared.rule.Rule.{Rule}
use Rattle.cep_rule.specs.Typing.{is_fact, IsTyped, AreValues}
use Rattle.cep_rule.specs.Patterns.{PremiseTree}
use Rattle.cep_rule.specs.Instances.{full_instances, full_instance}
use Rattle.cep_rule.specs.Program.{IsTypedRule}
use Rattle.cep_rule.specs.TypeLaws.{TypeLaws}
use Rattle.cep_cause.proofs.Tokened.{made_later}
use Rattle.cep_cause.specs.Tokens.{Token, numbered, token_state, has_number, staying, picked_to_go}
use Rattle.cep_cause.specs.Touches.{Touch, present_after}
use Rattle.cep_graph.specs.Traces.{NumbersIncrease, AreTraced, IsTaking, TakesFor, AreFresh, MakesFor}
use Rattle.cep_graph.proofs.Tracing.{has_more}
use Rattle.cep_base.proofs.Lists.{holds_at_mapped, all_from_places, all_weaker}

-- Numbers that are sorted, each once, and without 0.

positive : (n : ℕ) → nat_lt 0 n ≡ true → 0 < n
positive n is = grind (arith, nat_tests)

is_positive : (n : ℕ) → 0 < n → nat_lt 0 n ≡ true
is_positive n is = grind (arith, nat_tests)

module _ (old sorted lone after : List ℕ) (moved : IsPermutation old sorted) (in_order : IsSorted nat_cmp sorted) (filtered : IsFiltered (DiffersFromLast eqb) [] sorted lone) (is : after ≡ filter (λ n. nat_lt 0 n) lone) where
  once : lone ≡ dedup eqb sorted
  once = dedup_is eqb sorted lone filtered

  pub after_increasing : IsStrictlyIncreasing after
  after_increasing = subst IsStrictlyIncreasing (sym is) (IsStrictlyIncreasing-filter (λ n. nat_lt 0 n) lone (subst IsStrictlyIncreasing (sym once) (IsStrictlyIncreasing-dedup sorted in_order)))

  pub after_counted : AllByRecursion (λ n. 0 < n) after
  after_counted = subst (AllByRecursion (λ n. 0 < n)) (sym is) (all_of (λ n. 0 < n) (filter (λ n. nat_lt 0 n) lone) (λ n there. positive n (filter_cases (λ n. nat_lt 0 n) lone n there).1))

  pub after_same : (n : ℕ) → 0 < n → (Contains after n ↔ Contains old n)
  after_same n some = (
    λ there. Contains-permutation sorted old n (IsPermutation-sym old sorted moved)
        (Contains-from_dedup eqb sorted n (subst (λ ns. Contains ns n) once (filter_cases (λ n. nat_lt 0 n) lone n (subst (λ ns. Contains ns n) is there)).0)),
    λ there. subst (λ ns. Contains ns n) (sym is) (filter_there (λ n. nat_lt 0 n) lone n (subst (λ ns. Contains ns n) (sym once) (Contains-dedup_nat sorted n (Contains-permutation old sorted n moved there))) (is_positive n some)),
  )

-- One step more.

all_stay : (present : List Token) → staying [] present ≡ present
all_stay [] = refl
all_stay (token ∷ present) = ap (λ (tokens : List Token). token ∷ tokens) (all_stay present)

increasing_part : (p : Token → Bool) (tokens : List Token) → NumbersIncrease tokens → NumbersIncrease (filter p tokens)
increasing_part p [] rise = tt
increasing_part p (first ∷ tokens) rise = by (p first) (increasing_part p tokens rise.1)
  where
    by : (t : Bool) → NumbersIncrease (filter p tokens) → NumbersIncrease (cond t (first ∷ filter p tokens) (filter p tokens))
    by true rest = (all_of (λ (later : Token). first.number < later.number) (filter p tokens) (λ token there. all_at (λ (later : Token). first.number < later.number) tokens token rise.0 (filter_cases p tokens token there).0), rest)
    by false rest = rest

increasing_both : (xs ys : List Token) → NumbersIncrease xs → NumbersIncrease ys → ((one other : Token) → Contains xs one → Contains ys other → one.number < other.number) → NumbersIncrease (xs ++ ys)
increasing_both [] ys rise rise' less = rise'
increasing_both (x ∷ xs) ys rise rise' less = (
  both_all (λ (later : Token). x.number < later.number) xs ys rise.0 (all_of (λ (later : Token). x.number < later.number) ys (λ token there. less x token (contains_first x xs) there)),
  increasing_both xs ys rise.1 rise' (λ one other here there. less one other (contains_behind x xs one here) there),
)

pub numbered_increase : (next : ℕ) (atoms : List AtomTree) → NumbersIncrease (numbered next atoms)
numbered_increase next [] = tt
numbered_increase next (a ∷ atoms) = (all_of (λ (later : Token). next < later.number) (numbered (next + 1) atoms) (λ token there. let few = (made_later (next + 1) atoms token there).0 in omega arith), numbered_increase (next + 1) atoms)

-- the first tokens have numbers below the next one
pub numbered_below : (atoms : List AtomTree) (token : Token) → Contains (numbered 0 atoms) token → token.number < length (numbered 0 atoms)
numbered_below atoms token there = let few = (made_later 0 atoms token there).1 in omega arith

module _ (signature : Signature) (values : List Tree) (rule : Rule) (done : List Touch) (present : List Token) (next : ℕ) (touch : Touch) (old : Queues)
    (trail : IsTrail signature done present next old) (is : IsTouchBy signature values rule next present touch) where
  made_new : (token : Token) → Contains touch.makes token → (next ≤ token.number) × (token.number < next + length touch.makes)
  made_new token there = grind (arith, made_later next (gained (is_fact signature) (token_state (staying touch.removes present)) (full_instances values rule.right)) token (subst (λ (ts : List Token). Contains ts token) is.makes there))

  used_old : (token : Token) → Contains touch.uses token → token.number < next
  used_old token there = trail.below token (picks_present signature values present [] rule.premises touch.uses token is.uses there)

  taking : IsTaking signature values present [] [] rule.premises touch.uses touch
  taking = record {
    increasing = trail.increasing;
    picks = is.uses;
    linear = λ token there linear. (λ e. absurd (false≢true e), λ none. absurd (contains_none token none));
    facts = λ token there fact. refl;
    all = λ token. (λ there. inr there, λ either. ⊎_elim (λ none. absurd (contains_none token none)) (λ there. there) either);
    fresh = λ token there made. let few = (made_new token made).0 in let less = trail.below token there in absurd (omega arith);
  }

  fresh : AreFresh done touch
  fresh token made =
      let few = (made_new token made).0 in (
        λ there. let less = used_old token there in absurd (omega arith),
        λ place has. let less = trail.passed place token (inl has) in absurd (omega arith),
        λ place has. let less = trail.passed place token (inr has) in absurd (omega arith),
      )

  next_trail : (new : Queues) → AreTraced signature (done ++ touch ∷ []) (present_after present touch) new → IsTrail signature (done ++ touch ∷ []) (present_after present touch) (next + length touch.makes) new
  next_trail new traced = record {
    increasing = increasing_both (staying touch.removes present) touch.makes (increasing_part (λ (t : Token). not (has_number touch.removes t.number)) present trail.increasing)
        (subst NumbersIncrease (sym is.makes) (numbered_increase next _))
        (λ one other here made. let less = trail.below one (stayed one here) in let few = (made_new other made).0 in omega arith);
    below = λ token there. ⊎_elim
        (λ here. let less = trail.below token (stayed token here) in omega arith)
        (λ made. (made_new token made).1)
        (contains_either (staying touch.removes present) touch.makes token there);
    passed = λ place token has. ⊎_elim
        (λ makes. ⊎_elim (λ before. let less = trail.passed place token (inl before) in omega arith) (λ now. (made_new token now.1).1) (has_more (λ (t : Touch). t.makes) done touch token place makes))
        (λ uses. ⊎_elim (λ before. let less = trail.passed place token (inr before) in omega arith) (λ now. let less = used_old token now.1 in omega arith) (has_more (λ (t : Touch). t.uses) done touch token place uses))
        has;
    traced = traced;
  }
    where
      stayed : (token : Token) → Contains (staying touch.removes present) token → Contains present token
      stayed token here = (filter_cases (λ (t : Token). not (has_number touch.removes t.number)) present token here).0

  pub touched : (number : ℕ) (mid new : Queues) (numbers after : List ℕ) → number ≡ length done + 1
      → TakesFor signature values rule.premises number old mid [] numbers
      → MakesFor signature values rule.right number mid new
      → IsStrictlyIncreasing after → AllByRecursion (λ n. 0 < n) after → ((n : ℕ) → 0 < n → (Contains after n ↔ Contains numbers n))
      → HasTouched signature done present next touch new after
  touched number mid new numbers after last takes makes increasing counted same =
      let taken = takes done present [] [] touch.uses touch last taking (subst (λ (ts : List Token). AreTraced signature done ts old) (sym (all_stay present)) trail.traced) in
      let removes : staying (picked_to_go signature rule.premises touch.uses ++ []) present ≡ staying touch.removes present = ap (λ (gone : List Token). staying gone present) (append-nil (picked_to_go signature rule.premises touch.uses) ∙ sym is.removes) in
      let traced = subst (λ (ts : List Token). AreTraced signature (done ++ touch ∷ []) ts mid) removes taken.traced in
      let made = makes done touch [] (staying touch.removes present) next last fresh is.makes traced in
      record {
        increasing = increasing;
        counted = counted;
        rests = λ place. (
          λ there. ⊎_elim (λ none. absurd (contains_none (place + 1) none)) (λ rests. record { earlier = rests.earlier; at = rests.at; rests = (rests.rests.0, ⊎_elim (λ one. inl one) (λ other. inr (other.0, subst (λ (ts : List Token). Contains ts rests.rests.0) (sym is.removes) other.1)) rests.rests.1) })
              ((taken.adds place).0 ((same (place + 1) (omega arith)).0 there)),
          λ rests. (same (place + 1) (omega arith)).1 ((taken.adds place).1 (inr (record { earlier = rests.earlier; at = rests.at; rests = (rests.rests.0, ⊎_elim (λ one. inl one) (λ other. inr (other.0, subst (λ (ts : List Token). Contains ts rests.rests.0) is.removes other.1)) rests.rests.1) }))),
        );
        trail = next_trail new (subst (λ (ts : List Token). AreTraced signature (done ++ touch ∷ []) (staying touch.removes present ++ ts) new) (sym is.makes) made);
      }

-- the numbers, once they are in order
pub touch_ends : {E : Type 0} (signature : Signature) (values : List Tree) (rule : Rule) (number : ℕ) (old mid new : Queues) (numbers : List ℕ) (result : Result (List ℕ) E)
    → TakesFor signature values rule.premises number old mid [] numbers
    → MakesFor signature values rule.right number mid new
    → IfOk result IsStrictlyIncreasing → IfOk result (AllByRecursion (λ n. 0 < n)) → IfOk result (λ after. (n : ℕ) → 0 < n → (Contains after n ↔ Contains numbers n))
    → IfOk result (TouchesBy signature values rule number old new)
touch_ends signature values rule number old mid new numbers (Ok after) takes makes increasing counted same =
    λ done present next touch last trail is. touched signature values rule done present next touch old trail is number mid new numbers after last takes makes increasing counted same
touch_ends signature values rule number old mid new numbers (Err e) takes makes increasing counted same = tt

-- The atoms of a well-typed rule, with values of the right types.

module _ (laws : TypeLaws) (signature : Signature) (rule : Rule) (values : List Tree) (typed : IsTypedRule signature rule) (are : AreValues signature.cons rule.kinds values) where
  in_range : (a : AtomTree) → IsTyped signature rule.kinds a → IsAtomInRange (length values) a
  in_range a is = subst (λ n. IsAtomInRange n a) (sym (laws.as_many signature.cons rule.kinds values are)) (laws.in_range signature rule.kinds a is)

  pub premises_in_range : AllByRecursion (λ (premise : PremiseTree). IsAtomInRange (length values) premise.atom) rule.premises
  premises_in_range = all_from_places (λ (premise : PremiseTree). IsAtomInRange (length values) premise.atom) rule.premises
      (λ n premise at. in_range premise.atom (holds_at_mapped (IsTyped signature rule.kinds) (λ (p : PremiseTree). p.atom) rule.premises n premise typed.premises at))

  pub premises_ground : AllByRecursion (λ (premise : PremiseTree). IsGroundAtom (full_instance values premise.atom)) rule.premises
  premises_ground = all_from_places (λ (premise : PremiseTree). IsGroundAtom (full_instance values premise.atom)) rule.premises
      (λ n premise at. laws.ground signature rule.kinds values premise.atom are (holds_at_mapped (IsTyped signature rule.kinds) (λ (p : PremiseTree). p.atom) rule.premises n premise typed.premises at))

  pub right_in_range : AllByRecursion (λ (a : AtomTree). IsAtomInRange (length values) a) rule.right
  right_in_range = all_weaker (IsTyped signature rule.kinds) (λ (a : AtomTree). IsAtomInRange (length values) a) rule.right in_range typed.right

  pub right_ground : AllByRecursion (λ (a : AtomTree). IsGroundAtom (full_instance values a)) rule.right
  right_ground = all_weaker (IsTyped signature rule.kinds) (λ (a : AtomTree). IsGroundAtom (full_instance values a)) rule.right (λ a is. laws.ground signature rule.kinds values a are is) typed.right
