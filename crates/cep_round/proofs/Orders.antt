-- Offers done one after another in any order, and what they use and give.
use Rattle.std.proofs.Common.{◌≡◌, ◌⊎◌, inl, inr, cond, ℕ, ◌+◌, ◌-◌, ◌<◌, ◌≤◌, Bool, true, false, ◌||◌, List, [], ◌∷◌, ◌++◌, map, Contains, Some, slice_get, refl, sym, ap, subst, ◌∙◌, arith, IsPermutation, ◌*◌, length, ◌^◌, take}
use Rattle.std.specs.Prelude.{filter, IfSome}
use Rattle.std.specs.List.{AllByRecursion, flat_map}
use Rattle.std.proofs.lemmas.Bool.{cases_lt}
use Rattle.std.proofs.lemmas.List.{map-append, length-map, length-append, take_all}
use Rattle.std.proofs.lemmas.List.Sums.{sum_by-cons}
use Rattle.std.proofs.lemmas.List.Sorted.{sum_by-IsPermutation, Contains-permutation, IsPermutation-sym}
use Rattle.cep_base.proofs.Elements.{all_at, all_of, contains_cases, contains_behind, contains_same, contains_right, both_all}
use Rattle.cep_base.proofs.Lists.{holds_at, some_same, all_mapped, filter_few, all_weaker, all_flat}
use Rattle.cep_term.specs.Tree.{Tree, AtomTree, IsGroundAtom, IsAtomInRange}
use Rattle.cep_term.specs.Multiset.{Multiset, count_of, gathered, IsContained, IsBag, IsOnce, held, difference_of, copies_in}
use Rattle.cep_rule.proofs.StepLaws.{all_kept}
use Rattle.cep_rule.specs.declared.rule.Rule.{Rule}
use Rattle.cep_rule.specs.declared.parts.Parts.{Parts}
use Rattle.cep_rule.specs.declared.offer.Offer.{Offer}
use Rattle.cep_rule.specs.Patterns.{PremiseTree}
use Rattle.cep_rule.specs.Binding.{needed_of}
use Rattle.cep_rule.specs.Typing.{AreValues, is_fact, IsTyped}
use Rattle.cep_rule.specs.State.{IsState, joined}
use Rattle.cep_rule.specs.Instances.{full_instance, full_instances, kept_of, left_of, right_of}
use Rattle.cep_rule.specs.Derivations.{IsDerivable}
use Rattle.cep_rule.specs.Offers.{Applies}
use Rattle.cep_rule.specs.Steps.{MakesFit}
use Rattle.cep_rule.specs.Program.{IsTypedRule, IsDividedRule, IsProgram}
use Rattle.cep_round.specs.RoundLaws.{RoundLaws}
use Rattle.cep_round.specs.Rounds.{needs, gives, sum_of_sides, all_need, Together, used_with, admitted, AreAdmitted, AreChosen}
use Rattle.cep_round.specs.Orders.{MakesFitAtoms, IsOfferDone, AreOffersDone, KeepHeights}
use Rattle.cep_round.proofs.Admitted.{join_count, count_all, all_count, each_admitted, as_many_flags, few_admitted, joined_gathered, exchanged}
use Rattle.cep_base.specs.declared.limits.TheConstants.{MOST_PREMISES, MOST_RIGHT, MOST_COPIES, MOST_HEIGHT}
use Rattle.cep_rule.specs.Limits.{IsSmallRule}
use Rattle.cep_round.specs.Sides.{needed_by, given_by, IsOfProgram}
use Rattle.std.specs.FinMap as finite

-- Offers done one after another, in any order.

-- counts of one atom: l needed and r given by the first offer, s needed and g given by those after it, x the rest, o before and n after the first
held_few : (t : Bool) (n m : ℕ) → t ≡ true → n ≡ held t m → n ≤ 1
held_few t n m is e = grind arith

some_held : (t : Bool) (n m : ℕ) → n ≡ held t m → 0 < n → 0 < m
some_held t n m e some = grind arith

held_some : (t : Bool) (n m : ℕ) → n ≡ held t m → 0 < m → 0 < n
held_some t n m e some = grind arith

after_step : (t : Bool) (l r x o n : ℕ) → (t ≡ true → l ≤ 1) → (t ≡ true → 0 < l → 0 < r) → o ≡ held t (l + x) → n ≡ held t (r + x) → n ≡ held t (o - l + r)
after_step t l r x o n one stays e f = grind arith

rest_there : (t : Bool) (l r s o n : ℕ) → (t ≡ true → 0 < l → 0 < r) → held t (l + s) ≤ o → n ≡ held t (o - l + r) → held t s ≤ n
rest_there t l r s o n stays within e = grind arith

one_more : (t : Bool) (l r s g o n last : ℕ) → (t ≡ true → o ≤ 1) → (t ≡ true → 0 < l → 0 < r) → (t ≡ true → 0 < s → 0 < g) → held t (l + s) ≤ o → n ≡ held t (o - l + r) → last ≡ held t (n - held t s + held t g)
    → last ≡ held t (o - held t (l + s) + held t (r + g))
one_more t l r s g o n last one stays later within e f = grind arith

held_same : (t : Bool) (o : ℕ) → (t ≡ true → o ≤ 1) → o ≡ held t (o - 0 + 0)
held_same t o one = grind arith

pub needs_is : (program : Parts) (offer : Offer) (rule : Rule) → slice_get program.rules offer.rule ≡ Some rule → needs program offer ≡ left_of program.signature rule offer.values
needs_is program offer rule numbered = rw numbered refl

pub gives_is : (program : Parts) (offer : Offer) (rule : Rule) → slice_get program.rules offer.rule ≡ Some rule → gives program offer ≡ right_of program.signature rule offer.values
gives_is program offer rule numbered = rw numbered refl

-- a fact that is needed stays
or_right : (x y : Bool) → y ≡ true → (x || y) ≡ true
or_right x y e = grind arith

module _ (laws : RoundLaws) (program : Parts) where
  abbrev fact : AtomTree → Bool
  fact = is_fact program.signature

  abbrev atoms_of : List PremiseTree → List AtomTree
  atoms_of premises = map (λ premise. premise.atom) premises

  abbrev stays : PremiseTree → Bool
  stays premise = premise.kept || fact premise.atom

  facts_stay : (values : List Tree) (premises : List PremiseTree) (a : AtomTree) → fact a ≡ true → Contains (full_instances values (atoms_of premises)) a → Contains (full_instances values (atoms_of (filter stays premises))) a
  facts_stay values [] a is there = there
  facts_stay values (premise ∷ premises) a is there =
      by (stays premise) refl (facts_stay values premises a is) (contains_cases (full_instance values premise.atom) (full_instances values (atoms_of premises)) a there)
    where
      by : (t : Bool) → stays premise ≡ t → (Contains (full_instances values (atoms_of premises)) a → Contains (full_instances values (atoms_of (filter stays premises))) a)
          → (full_instance values premise.atom ≡ a) ⊎ Contains (full_instances values (atoms_of premises)) a
          → Contains (full_instances values (atoms_of (cond t (premise ∷ filter stays premises) (filter stays premises)))) a
      by true e later (inl same) = contains_same (full_instance values premise.atom) (full_instances values (atoms_of (filter stays premises))) a same
      by true e later (inr there) = contains_behind (full_instance values premise.atom) (full_instances values (atoms_of (filter stays premises))) a (later there)
      by false e later (inl same) = absurd (let is_one = or_right premise.kept (fact premise.atom) (ap fact same ∙ is) in cc)
      by false e later (inr there) = later there

  left_once : (rule : Rule) (values : List Tree) → IsOnce fact (left_of program.signature rule values)
  left_once rule values a is = held_few (fact a) _ _ is (laws.bags.once_count fact _ a)

  -- a fact that is needed is given
  given_too : (rule : Rule) (values : List Tree) (a : AtomTree) → fact a ≡ true → 0 < count_of (left_of program.signature rule values) a → 0 < count_of (right_of program.signature rule values) a
  given_too rule values a is some =
      let left = full_instances values (needed_of rule) in
      let kept = full_instances values (kept_of program.signature rule) in
      let needed = (laws.bags.gathered_there left a).0 (some_held (fact a) _ _ (laws.bags.once_count fact (gathered left) a) some) in
      let given = contains_right (full_instances values rule.right) kept a (facts_stay values rule.premises a is needed) in
      held_some (fact a) _ _ (laws.bags.once_count fact (gathered (full_instances values (rule.right ++ kept_of program.signature rule))) a)
      ((laws.bags.gathered_there (full_instances values (rule.right ++ kept_of program.signature rule)) a).1 (rw map-append given))

  -- Of an offer: its rule, its values, and that its backward premises are derivable.
  pub record IsReady (height : ℕ) (offer : Offer) : Type 0 where
    pub rule : Rule
    pub numbered : slice_get program.rules offer.rule ≡ Some rule
    pub values : AreValues program.signature.cons rule.kinds offer.values
    pub derivable : AllByRecursion (IsDerivable program height) (full_instances offer.values rule.backs)
    pub fit : MakesFit rule offer.values

  made_fit : (offer : Offer) (rule : Rule) → slice_get program.rules offer.rule ≡ Some rule → MakesFitAtoms program offer → MakesFit rule offer.values
  made_fit offer rule numbered fit = subst (λ found. IfSome found (λ rule. MakesFit rule offer.values)) numbered fit

  pub ready : (height : ℕ) (state : Multiset) (offer : Offer) → Applies program height state offer → MakesFitAtoms program offer → IsReady height offer
  ready height state offer applies fit = record { rule = applies.rule; numbered = applies.numbered; values = applies.values; derivable = applies.derivable; fit = made_fit offer applies.rule applies.numbered fit }

  module _ (kept : IsProgram program) where
    typed_at : (offer : Offer) (rule : Rule) → slice_get program.rules offer.rule ≡ Some rule → IsTypedRule program.signature rule
    typed_at offer rule numbered = holds_at (IsTypedRule program.signature) program.rules offer.rule rule kept.typed_rules numbered

    -- after a step of the first offer what those after it need is there
    module _ (height : ℕ) (offer : Offer) (old new : Multiset) (self : IsOfferDone program height old new offer) where
      abbrev left : Multiset
      left = left_of program.signature self.applies.rule offer.values

      abbrev right : Multiset
      right = right_of program.signature self.applies.rule offer.values

      needs_left : needs program offer ≡ left
      needs_left = needs_is program offer self.applies.rule self.applies.numbered

      gives_right : gives program offer ≡ right
      gives_right = gives_is program offer self.applies.rule self.applies.numbered

      after_count : (a : AtomTree) → count_of new a ≡ held (fact a) (count_of right a + count_of self.step.rest a)
      after_count a = rw self.step.after (join_count laws.bags program right self.step.rest a)

      before_count : (a : AtomTree) → count_of old a ≡ held (fact a) (count_of left a + count_of self.step.rest a)
      before_count a = rw self.step.before (join_count laws.bags program left self.step.rest a)

      after_bag : IsBag new
      after_bag = rw self.step.after (laws.bags.once_kept fact _ (laws.bags.sum_kept right self.step.rest (laws.right program.signature self.applies.rule offer.values (typed_at offer self.applies.rule self.applies.numbered) self.applies.values) self.step.bag))

      new_once : IsOnce fact new
      new_once a is = held_few (fact a) (count_of new a) _ is (after_count a)

      new_count : (a : AtomTree) → count_of new a ≡ held (fact a) (count_of old a - count_of (needs program offer) a + count_of (gives program offer) a)
      new_count a = grind (arith, needs_left, gives_right, after_step, left_once, given_too, before_count, after_count, self.step.rest, self.applies.rule, offer.values)

      need_stays : (a : AtomTree) → fact a ≡ true → 0 < count_of (needs program offer) a → 0 < count_of (gives program offer) a
      need_stays a is some = rw gives_right (given_too self.applies.rule offer.values a is (rw (← needs_left) some))

      parts : (offers : List Offer) (a : AtomTree) → IsContained (all_need program (offer ∷ offers)) old → held (fact a) (count_of (needs program offer) a + count_all laws.bags program needs a offers) ≤ count_of old a
      parts offers a contained = grind (arith, sum_by-cons, all_count, laws.bags)

      still_there : (offers : List Offer) → IsContained (all_need program (offer ∷ offers)) old → IsContained (all_need program offers) new
      still_there offers contained a = grind (arith, all_count, rest_there, count_all, need_stays, parts, new_count, laws.bags)

    left_there : (offer : Offer) (offers : List Offer) (rule : Rule) → slice_get program.rules offer.rule ≡ Some rule → (state : Multiset) → IsContained (all_need program (offer ∷ offers)) state → IsContained (left_of program.signature rule offer.values) state
    left_there offer offers rule numbered state contained = grind (arith, needs_is, count_all, left_once, sum_by-cons, all_count, laws.bags, offer.values)

    -- all can be done, one after another
    pub can_be_done : (height : ℕ) (order : List Offer) (state : Multiset) → IsState program.signature state → AllByRecursion (IsReady height) order → IsContained (all_need program order) state → (last : Multiset) × AreOffersDone program height state order last
    can_be_done height [] state is all contained = (state, refl)
    can_be_done height (offer ∷ order) state is all contained =
        let ready : IsReady height offer = all.0 in
        let typed = typed_at offer ready.rule ready.numbered in
        let there = left_there offer order ready.rule ready.numbered state contained in
        let step = laws.edit program.signature ready.rule offer.values state typed ready.values is there in
        let divided = holds_at (IsDividedRule program.signature) program.rules offer.rule ready.rule kept.divided_rules ready.numbered in
        let applies : Applies program height state offer = record { rule = ready.rule; numbered = ready.numbered; values = ready.values; contained = there; derivable = ready.derivable } in
        let self : IsOfferDone program height state _ offer = record { applies = applies; step = step } in
        let next = laws.lead program.signature ready.rule offer.values state _ typed divided ready.values is ready.fit step in
        let later = can_be_done height order _ next all.1 (still_there height offer state _ self order contained) in
        (later.0, (_, self, later.1))

    -- what later offers need is there after those before them, and so they apply
    found_there : (height : ℕ) (prefix order : List Offer) (state found : Multiset) → IsContained (all_need program (prefix ++ order)) state → AreOffersDone program height state prefix found → IsContained (all_need program order) found
    found_there height [] order state found contained done = rw done contained
    found_there height (offer ∷ prefix) order state found contained done =
        found_there height prefix order done.0 found (still_there height offer state done.0 done.1 (prefix ++ order) contained) done.2

    pub heights_kept : (state : Multiset) (order : List Offer) → IsContained (all_need program order) state → KeepHeights program state order
    heights_kept state order contained prefix later offer height other found parted done applies = record {
      rule = applies.rule;
      numbered = applies.numbered;
      values = applies.values;
      contained = left_there offer later applies.rule applies.numbered found (found_there other prefix (offer ∷ later) state found (rw (← parted) contained) done);
      derivable = applies.derivable;
    }

    -- a run from a multiset leads to one
    pub last_bag : (height : ℕ) (order : List Offer) (state last : Multiset) → IsBag state → AreOffersDone program height state order last → IsBag last
    last_bag height [] state last bag done = rw done bag
    last_bag height (offer ∷ order) state last bag done = last_bag height order done.0 last (after_bag height offer state done.0 done.1) done.2

    -- facts that are needed by some are given by some
    all_stay : (height : ℕ) (order : List Offer) (state last : Multiset) → AreOffersDone program height state order last → (a : AtomTree) → fact a ≡ true → 0 < count_all laws.bags program needs a order → 0 < count_all laws.bags program gives a order
    all_stay height [] state last done a is some = some
    all_stay height (offer ∷ order) state last done a is some = grind (arith, sum_by-cons (λ (o : Offer). count_of (needs program o) a) offer order, sum_by-cons (λ (o : Offer). count_of (gives program o) a) offer order, cases_lt 0 (count_of (needs program offer) a), need_stays height offer state done.0 done.1 a is, all_stay height order done.0 last done.2 a is)

    -- and what was done one after another is what is done together
    pub is_together : (height : ℕ) (order : List Offer) (state last : Multiset) → IsOnce fact state → IsContained (all_need program order) state → AreOffersDone program height state order last → Together program order state last
    is_together height [] state last once contained done = grind (arith, held_same, laws.bags.empty)
    is_together height (offer ∷ order) state last once contained done =
        let next = done.0 in
        let self : IsOfferDone program height state next offer = done.1 in
        let later = is_together height order next last (new_once height offer state next self) (still_there height offer state next self order contained) done.2 in
        record {
          contained = contained;
          counts = λ a.
              one_more (fact a) (count_of (needs program offer) a) (count_of (gives program offer) a) (count_all laws.bags program needs a order) (count_all laws.bags program gives a order) (count_of state a) (count_of next a) (count_of last a)
              (once a) (need_stays height offer state next self a) (all_stay height order next last done.2 a)
              (parts height offer state next self order a contained)
              (new_count height offer state next self a)
              (later.counts a ∙ (λ i. held (fact a) (count_of next a - all_count laws.bags program needs order a i + all_count laws.bags program gives order a i)))
              ∙ sym (λ i. held (fact a) (count_of state a
              - (all_count laws.bags program needs (offer ∷ order) a ∙ ap (held (fact a)) (sum_by-cons (λ (o : Offer). count_of (needs program o) a) offer order)) i
              + (all_count laws.bags program gives (offer ∷ order) a ∙ ap (held (fact a)) (sum_by-cons (λ (o : Offer). count_of (gives program o) a) offer order)) i));
        }

  -- the order does not matter to the sums
  pub same_all : (side : Parts → Offer → Multiset) (offers order : List Offer) → IsPermutation offers order → (a : AtomTree) → count_of (sum_of_sides side program order) a ≡ count_of (sum_of_sides side program offers) a
  same_all side offers order same a = grind (arith, all_count, sum_by-IsPermutation, laws.bags)

  pub all_in_order : (P : Offer → Type 0) (offers order : List Offer) → IsPermutation offers order → AllByRecursion P offers → AllByRecursion P order
  all_in_order P offers order same all = all_of P order (λ x there. all_at P offers x all (Contains-permutation order offers x (IsPermutation-sym offers order same) there))

  pub together_anyway : (offers order : List Offer) (state last : Multiset) → IsPermutation offers order → Together program order state last → Together program offers state last
  together_anyway offers order state last same together = grind (arith, same_all, together.contained)

  pub contained_anyway : (offers order : List Offer) (state : Multiset) → IsPermutation offers order → IsContained (all_need program offers) state → IsContained (all_need program order) state
  contained_anyway offers order state same contained a = subst (λ n. n ≤ count_of state a) (sym (same_all needs offers order same a)) (contained a)

  pub all_ready : (height : ℕ) (state : Multiset) (offers : List Offer) → AllByRecursion (Applies program height state) offers → AllByRecursion (MakesFitAtoms program) offers → AllByRecursion (IsReady height) offers
  all_ready height state [] applies fit = tt
  all_ready height state (offer ∷ offers) applies fit = (ready height state offer applies.0 fit.0, all_ready height state offers applies.1 fit.1)

-- The atoms of the sides of offers: they are ground, they are few, and their counts are those of the sides.

both_held : (t : Bool) (x y n m : ℕ) → n ≡ held t x → m ≡ held t y → held t (n + m) ≡ held t (x + y)
both_held t x y n m e f = grind arith

pub of_applies : (program : Parts) (height : ℕ) (state : Multiset) (offer : Offer) → Applies program height state offer → IsOfProgram program offer
of_applies program height state offer applies = record { rule = applies.rule; numbered = applies.numbered; values = applies.values }

module _ (laws : RoundLaws) (program : Parts) (kept : IsProgram program) (offer : Offer) (is : IsOfProgram program offer) where
  abbrev rule : Rule
  rule = is.rule

  typed : IsTypedRule program.signature rule
  typed = holds_at (IsTypedRule program.signature) program.rules offer.rule rule kept.typed_rules is.numbered

  small : IsSmallRule rule
  small = holds_at IsSmallRule program.rules offer.rule rule kept.small.each_rule is.numbered

  stay_typed : AllByRecursion (IsTyped program.signature rule.kinds) (kept_of program.signature rule)
  stay_typed = all_kept (IsTyped program.signature rule.kinds) (λ (premise : PremiseTree). premise.atom) (λ premise. premise.kept || is_fact program.signature premise.atom) rule.premises typed.premises

  ground : (atoms : List AtomTree) → AllByRecursion (IsTyped program.signature rule.kinds) atoms → AllByRecursion IsGroundAtom (full_instances offer.values atoms)
  ground atoms all = all_mapped (IsTyped program.signature rule.kinds) IsGroundAtom (full_instance offer.values) atoms (λ a. laws.types.ground program.signature rule.kinds offer.values a is.values) all

  needed_is : needed_by program offer ≡ full_instances offer.values (needed_of rule)
  needed_is = rw is.numbered refl

  given_is : given_by program offer ≡ full_instances offer.values (rule.right ++ kept_of program.signature rule)
  given_is = rw is.numbered refl

  -- the rule that is read is the offer's
  module _ (read : Rule) (numbered : slice_get program.rules offer.rule ≡ Some read) where
    same : rule ≡ read
    same = some_same rule read (sym is.numbered ∙ numbered)

    in_range : (atoms : List AtomTree) → AllByRecursion (IsTyped program.signature rule.kinds) atoms → AllByRecursion (IsAtomInRange (length offer.values)) atoms
    in_range atoms all = rw (laws.types.as_many program.signature.cons rule.kinds offer.values is.values) (all_weaker (IsTyped program.signature rule.kinds) (IsAtomInRange (length rule.kinds)) atoms (laws.types.in_range program.signature rule.kinds) all)

    pub needed_in_range : AllByRecursion (IsAtomInRange (length offer.values)) (needed_of read)
    needed_in_range = rw (← same) (in_range (needed_of rule) typed.premises)

    pub right_in_range : AllByRecursion (IsAtomInRange (length offer.values)) read.right
    right_in_range = rw (← same) (in_range rule.right typed.right)

  pub needed_ground : AllByRecursion IsGroundAtom (needed_by program offer)
  needed_ground = rw needed_is (ground (needed_of rule) typed.premises)

  pub given_ground : AllByRecursion IsGroundAtom (given_by program offer)
  given_ground = rw given_is (ground (rule.right ++ kept_of program.signature rule) (both_all (IsTyped program.signature rule.kinds) rule.right (kept_of program.signature rule) typed.right stay_typed))

  pub needed_few : length (needed_by program offer) ≤ MOST_PREMISES
  needed_few = rw (needed_is, length-map, length-map) small.premises

  pub given_few : length (given_by program offer) ≤ MOST_RIGHT + MOST_PREMISES
  given_few =
      let stay = filter_few (λ (premise : PremiseTree). premise.kept || is_fact program.signature premise.atom) rule.premises in
      let right = small.right in
      let premises = small.premises in
      rw (given_is, length-map, length-append, length-map) (omega arith)

  pub needs_count : (a : AtomTree) → count_of (needs program offer) a ≡ held (is_fact program.signature a) (count_of (gathered (needed_by program offer)) a)
  needs_count a = rw (needs_is program offer rule is.numbered, needed_is) (laws.bags.once_count (is_fact program.signature) (gathered (full_instances offer.values (needed_of rule))) a)

  pub gives_count : (a : AtomTree) → count_of (gives program offer) a ≡ held (is_fact program.signature a) (count_of (gathered (given_by program offer)) a)
  gives_count a = rw (gives_is program offer rule is.numbered, given_is) (laws.bags.once_count (is_fact program.signature) (gathered (full_instances offer.values (rule.right ++ kept_of program.signature rule))) a)

module _ (laws : RoundLaws) (program : Parts) where
  -- the sum of a side of all offers, from the atoms of that side
  pub all_gathered : (side : Parts → Offer → Multiset) (atoms_by : Parts → Offer → List AtomTree)
      → ((offer : Offer) → IsOfProgram program offer → (a : AtomTree) → count_of (side program offer) a ≡ held (is_fact program.signature a) (count_of (gathered (atoms_by program offer)) a))
      → (offers : List Offer) → AllByRecursion (IsOfProgram program) offers → (a : AtomTree)
      → count_of (sum_of_sides side program offers) a ≡ held (is_fact program.signature a) (count_of (gathered (flat_map (atoms_by program) offers)) a)
  all_gathered side atoms_by same [] are a = grind (arith, laws.bags.empty, program.signature)
  all_gathered side atoms_by same (offer ∷ offers) are a = grind (arith, join_count, both_held, same, laws.bags, laws.bags.joined_count, program.signature, are.0, are.1, all_gathered side atoms_by same offers are.1 a)

-- lists that stand one after the other are as long as so many of the longest
pub flat_few : {A B : Type 0} (f : A → List B) (P : A → Type 0) (most : ℕ) (xs : List A) → ((x : A) → P x → length (f x) ≤ most) → AllByRecursion P xs → length (flat_map f xs) ≤ most * length xs
flat_few f P most [] few all = omega arith
flat_few f P most (x ∷ xs) few all = let one = few x all.0 in let more = flat_few f P most xs few all.1 in rw length-append (grind arith)

-- What is used once an offer is admitted, and what all that are admitted come to.

module _ (laws : RoundLaws) (program : Parts) (kept : IsProgram program) where
  module _ (offer : Offer) (is : IsOfProgram program offer) where
    needs_bag : IsBag (needs program offer)
    needs_bag =
        rw (needs_is program offer is.rule is.numbered)
        (laws.left program.signature is.rule offer.values (holds_at (IsTypedRule program.signature) program.rules offer.rule is.rule kept.typed_rules is.numbered) is.values)

    pub few_with : (used with : Multiset) (atoms : List AtomTree) → atoms ≡ needed_by program offer → with ≡ used → copies_in used ≤ MOST_COPIES → copies_in with + length atoms < 2 ^ 32
    few_with used with atoms atoms_are with_is few = let some = needed_few laws program kept offer is in rw (atoms_are, with_is) (omega arith)

    pub used_with_is : (used with : Multiset) (parts : Parts) (atoms : List AtomTree) (new : Multiset) → IsBag used → parts ≡ program → atoms ≡ needed_by program offer → with ≡ used → new ≡ joined parts.signature with (gathered atoms) → new ≡ used_with program used offer
    used_with_is used with parts atoms new bag parts_are atoms_are with_is new_is =
        rw (new_is, parts_are, atoms_are, with_is)
        (joined_gathered laws.bags program used (needs program offer) (needed_by program offer) bag needs_bag (laws.bags.gathered_kept (needed_by program offer) (needed_ground laws program kept offer is)) (needs_count laws program kept offer is))

  module _ (state : Multiset) (chosen : List Offer) (flags : List Bool) (are_chosen : AreChosen program state chosen) (are : AreAdmitted program state finite.empty chosen flags) where
    abbrev done : List Offer
    done = admitted chosen flags

    each : AllByRecursion (IsOfProgram program) done
    each = each_admitted (IsOfProgram program) chosen flags (all_weaker (Applies program MOST_HEIGHT state) (IsOfProgram program) chosen (of_applies program MOST_HEIGHT state) are_chosen.apply)

    needed_all : AllByRecursion IsGroundAtom (flat_map (needed_by program) done)
    needed_all = all_flat (IsOfProgram program) IsGroundAtom (needed_by program) done (needed_ground laws program kept) each

    given_all : AllByRecursion IsGroundAtom (flat_map (given_by program) done)
    given_all = all_flat (IsOfProgram program) IsGroundAtom (given_by program) done (given_ground laws program kept) each

    module _ (n : ℕ) (all : length chosen ≤ n) (needed given : List AtomTree) (so_far : (needed ≡ flat_map (needed_by program) (admitted (take n chosen) (take n flags))) × (given ≡ flat_map (given_by program) (admitted (take n chosen) (take n flags)))) where
      whole : admitted (take n chosen) (take n flags) ≡ done
      whole = let same = as_many_flags program state finite.empty chosen flags are in λ i. admitted (take_all n chosen all i) (take_all n flags (omega arith) i)

      needed_by_done : needed ≡ flat_map (needed_by program) done
      needed_by_done = so_far.0 ∙ ap (flat_map (needed_by program)) whole

      given_by_done : given ≡ flat_map (given_by program) done
      given_by_done = so_far.1 ∙ ap (flat_map (given_by program)) whole

      pub needed_are_ground : AllByRecursion IsGroundAtom needed
      needed_are_ground = rw needed_by_done needed_all

      pub given_are_ground : AllByRecursion IsGroundAtom given
      given_are_ground = rw given_by_done given_all

      pub few_needed : length needed < 2 ^ 32
      few_needed =
          let some = flat_few (needed_by program) (IsOfProgram program) MOST_PREMISES done (needed_few laws program kept) each in
          let few = few_admitted chosen flags in
          let most = are_chosen.few in
          rw needed_by_done (omega arith)

      pub few_given : copies_in state + length given < 2 ^ 32
      few_given =
          let some = flat_few (given_by program) (IsOfProgram program) (MOST_RIGHT + MOST_PREMISES) done (given_few laws program kept) each in
          let few = few_admitted chosen flags in
          let most = are_chosen.few in
          let copies = are_chosen.fits.copies in
          rw given_by_done (omega arith)

      module _ (parts : Parts) (new : Multiset) (parts_are : parts ≡ program) (new_is : new ≡ joined parts.signature (difference_of state (joined parts.signature finite.empty (gathered needed))) (gathered given)) where
        pub new_bag : IsBag new
        new_bag = grind (arith, needed_are_ground, given_are_ground, laws.bags.once_kept, parts.signature, laws.bags.sum_kept, laws.bags.difference_kept, are_chosen.is_state.bag, laws.bags.empty_kept, laws.bags.gathered_kept)

        pub leads_together : IsContained (all_need program done) state → Together program done state new
        leads_together contained =
            exchanged laws.bags program done (flat_map (needed_by program) done) (flat_map (given_by program) done) state new
            (all_gathered laws program needs needed_by (needs_count laws program kept) done each)
            (all_gathered laws program gives given_by (gives_count laws program kept) done each)
            contained
            (new_is ∙ (λ i. joined (parts_are i).signature (difference_of state (joined (parts_are i).signature finite.empty (gathered (needed_by_done i)))) (gathered (given_by_done i))))
