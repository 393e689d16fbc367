-- Typed instances of sides and premises, and the steps that they make.
use Rattle.std.proofs.Common.{◌≡◌, ℕ, suc, List, [], ◌∷◌, map, Some, None, unwrap_or, subst, arith, Bool, not, ◌||◌, ◌++◌, ◌⊎◌, inl, inr, ◌+◌, ◌-◌, ◌<◌, ◌≤◌, true, false, cond, Contains, refl, sym, ◌∙◌, length, ap}
use Rattle.std.specs.Prelude.{slice_get, slice_index_or, filter}
use Rattle.std.specs.List.{AllByRecursion}
use Rattle.std.proofs.lemmas.List.{map-append}
use Rattle.std.proofs.lemmas.Bool.{or_parts}
use Rattle.cep_base.proofs.Options.{none_some, some_same, from_some, some_weaker, from_some_is}
use Rattle.cep_base.proofs.Elements.{both_all, all_at, all_of}
use Rattle.cep_term.specs.Tree.{Tree, Trees, AtomTree, variable, node, none, more, AreGround, IsGroundAtom, IsFit, IsInRange, AreInRange, IsAtomInRange, term_nodes, argument_nodes, term_depth, argument_depth, Occurs, OccursAmong}
use Rattle.cep_term.specs.Values.{term_instance, argument_instances, value_of}
use Rattle.cep_term.specs.Order.{atom_cmp}
use Rattle.cep_term.specs.BagLaws.{BagLaws}
use Rattle.cep_rule.specs.declared.signature.Con.{Con}
use Rattle.cep_rule.specs.declared.signature.Signature.{Signature}
use Rattle.cep_rule.specs.declared.rule.Rule.{Rule}
use Rattle.cep_rule.specs.Patterns.{PremiseTree, ClauseTree}
use Rattle.cep_rule.specs.Step.{Step}
use Rattle.cep_rule.specs.Typing.{HasSort, HaveSorts, IsTyped, IsValue, AreValues, is_fact, HasStatePredicate}
use Rattle.cep_rule.specs.State.{joined, IsState, IsStateAtom}
use Rattle.cep_rule.specs.Instances.{given, full_instance, full_instances, kept_of, taken_by, added_by, used_by, left_of, right_of}
use Rattle.cep_rule.specs.Steps.{MakesFit}
use Rattle.cep_base.proofs.Lists.{all_filtered, all_mapped, holds_at, all_weaker, all_from_places}
use Rattle.cep_rule.specs.Binding.{needed_of, OccursInSome, IsBoundRule, IsBoundClause}
use Rattle.cep_rule.specs.Matching.{state_after}
use Rattle.cep_rule.specs.declared.parts.Parts.{Parts}
use Rattle.cep_rule.specs.Program.{IsTypedRule, IsDividedRule, IsTypedClause, IsProgram}
use Rattle.cep_rule.specs.declared.offer.Offer.{Offer}
use Rattle.cep_rule.specs.Offers.{Applies}
use Rattle.std.specs.Ordering.{eq_by_cmp}
use Rattle.std.specs.Cmp.{Equal-is}
use Rattle.std.proofs.lemmas.Option.{slice_get_within}
use Rattle.cep_term.specs.Multiset.{Multiset, count_of, gathered, sum_of, difference_of, IsContained, IsBag, held, once, IsOnce, gained, without}
use Rattle.cep_rule.proofs.Copies.{HasCopies, copies-bag, copies-gathered, copies-sum_of, same_counts, one_if, count_more}
use Rattle.cep_rule.specs.Derivations.{ProofTree, ProofTrees, by_clause, no_goal, goal_by, IsHeadBy, Proves, ProveAll, IsDerivable}
use Rattle.cep_rule.specs.Shapes.{IsSmallTerm, HasSmallValues, HaveSmallValues}

-- Instances by values of the right types are ground and well typed.

-- the value of a variable is a value of its type
value_at : (cons : List Con) (kinds : List ℕ) (values : List Tree) (v sort : ℕ) (t : Tree) → AreValues cons kinds values → slice_get kinds v ≡ Some sort → IsValue cons sort (unwrap_or (slice_index_or (map Some values) v None) t)
value_at cons (kind ∷ kinds) (u ∷ values) (suc v) sort t are e = value_at cons kinds values v sort t are.1 e
value_at cons kinds values v sort t are e = grind (arith, none_some, some_same)

-- Arguments are ground, and of these types.
abbrev AreOf : List Con → List ℕ → Trees → Type 0
AreOf cons sorts args = AreGround args × HaveSorts cons [] sorts args

mutual
  term_value : (cons : List Con) (kinds : List ℕ) (values : List Tree) → AreValues cons kinds values → (t : Tree) (sort : ℕ) → HasSort cons kinds sort t → IsValue cons sort (term_instance (given values) t)
  term_value cons kinds values are (variable v) sort h = value_at cons kinds values v sort (variable v) are h
  term_value cons kinds values are (node c args) sort h = record {
    ground = from_some (slice_get cons c) _ _ (λ con typed. (args_values cons kinds values are args con.args typed.1).0) h;
    typed = some_weaker (slice_get cons c) _ _ (λ con typed. (typed.0, (args_values cons kinds values are args con.args typed.1).1)) h;
  }

  args_values : (cons : List Con) (kinds : List ℕ) (values : List Tree) → AreValues cons kinds values → (args : Trees) (sorts : List ℕ) → HaveSorts cons kinds sorts args → AreOf cons sorts (argument_instances (given values) args)
  args_values cons kinds values are none [] h = (tt, tt)
  args_values cons kinds values are (more t rest) (sort ∷ sorts) h =
      let first = term_value cons kinds values are t sort h.0 in
      let others = args_values cons kinds values are rest sorts h.1 in
      ((first.ground, others.0), (first.typed, others.1))
  args_values cons kinds values are args sorts h = absurd h

pub ground_instance : (signature : Signature) (kinds : List ℕ) (values : List Tree) (a : AtomTree) → AreValues signature.cons kinds values → IsTyped signature kinds a → IsGroundAtom (full_instance values a)
ground_instance signature kinds values a are typed = from_some (slice_get signature.preds a.pred) _ _ (λ pred h. (args_values signature.cons kinds values are a.args pred.args h).0) typed

pub typed_instance : (signature : Signature) (kinds : List ℕ) (values : List Tree) (a : AtomTree) → AreValues signature.cons kinds values → IsTyped signature kinds a → IsTyped signature [] (full_instance values a)
typed_instance signature kinds values a are typed = some_weaker (slice_get signature.preds a.pred) _ _ (λ pred h. (args_values signature.cons kinds values are a.args pred.args h).1) typed

-- The atoms of both sides of a rule by values of the right types are ground.

ground_all : (signature : Signature) (kinds : List ℕ) (values : List Tree) → AreValues signature.cons kinds values → (atoms : List AtomTree) → AllByRecursion (IsTyped signature kinds) atoms → AllByRecursion IsGroundAtom (full_instances values atoms)
ground_all signature kinds values are atoms typed = all_mapped (IsTyped signature kinds) IsGroundAtom (full_instance values) atoms (λ a typed. ground_instance signature kinds values a are typed) typed

-- what holds of the images of all holds of those of the items that pass a test
pub all_kept : {A B : Type 0} (P : B → Type 0) (image : A → B) (test : A → Bool) (items : List A) → AllByRecursion P (map image items) → AllByRecursion P (map image (filter test items))
all_kept P image test [] all = tt
all_kept P image test (item ∷ items) all = grind (arith, all_kept P image test items all.1)

module _ (signature : Signature) (rule : Rule) (values : List Tree) (typed : IsTypedRule signature rule) (are : AreValues signature.cons rule.kinds values) where
  typed_kept : AllByRecursion (IsTyped signature rule.kinds) (kept_of signature rule)
  typed_kept = all_kept (IsTyped signature rule.kinds) (λ (premise : PremiseTree). premise.atom) (λ premise. premise.kept || is_fact signature premise.atom) rule.premises typed.premises

  pub ground_left : AllByRecursion IsGroundAtom (full_instances values (needed_of rule))
  ground_left = ground_all signature rule.kinds values are (needed_of rule) typed.premises

  pub ground_right : AllByRecursion IsGroundAtom (full_instances values (rule.right ++ kept_of signature rule))
  ground_right = grind (arith, ground_all, both_all, typed_kept, rule.kinds, rule.right, typed.right)

  pub ground_taken : AllByRecursion IsGroundAtom (taken_by signature rule values)
  ground_taken = grind (arith, ground_all, all_filtered, rule.kinds, typed.premises)

  pub ground_added : AllByRecursion IsGroundAtom (added_by signature rule values)
  ground_added = grind (arith, ground_all, both_all, all_filtered, typed_kept, rule.kinds, rule.right, typed.right)

  pub ground_used : AllByRecursion IsGroundAtom (used_by signature rule values)
  ground_used = ground_all signature rule.kinds values are (map (λ (premise : PremiseTree). premise.atom) (filter (λ premise. not (premise.kept || is_fact signature premise.atom)) rule.premises))
      (all_kept (IsTyped signature rule.kinds) (λ (premise : PremiseTree). premise.atom) (λ premise. not (premise.kept || is_fact signature premise.atom)) rule.premises typed.premises)

  pub ground_made : AllByRecursion IsGroundAtom (full_instances values rule.right)
  ground_made = ground_all signature rule.kinds values are rule.right typed.right

-- What a step leads to is determined, by the counts of atoms, and edits of a state are steps.

-- The counts of one atom: t tells whether it is a fact, l, r and k are its copies on the left, on the right and among what stays, x those of the rest, o and n those before and after.
within : (t : Bool) (l x o : ℕ) → o ≡ held t (held t l + x) → held t l ≤ o
within t l x o e = grind arith

after_counts : (t : Bool) (l r x o n : ℕ) → (t ≡ true → 0 < l → 0 < r) → o ≡ held t (held t l + x) → n ≡ held t (held t r + x) → n ≡ held t (o - held t l + held t r)
after_counts t l r x o n stays e f = grind arith

back : (t : Bool) (l o : ℕ) → (t ≡ true → o ≤ 1) → l ≤ o → o ≡ held t (l + (o - l))
back t l o one h = grind arith

edit_after : (t : Bool) (o l r k tl kl : ℕ) → (t ≡ true → o ≤ 1) → (t ≡ true → k ≡ l) → tl ≡ cond t 0 l → kl ≡ cond t 0 k → held t l ≤ o
    → held t (o - tl + (r + kl)) ≡ held t (held t (r + k) + (o - held t l))
edit_after t o l r k tl kl one stays is_taken is_added there = grind arith

lean_after : (t : Bool) (o l r k u : ℕ) → (t ≡ true → o ≤ 1) → (t ≡ true → k ≡ l) → l ≡ k + u → held t l ≤ o → held t (o - u + r) ≡ held t (held t (r + k) + (o - held t l))
lean_after t o l r k u one stays parts there = grind arith

rest_count : (t : Bool) (l x y o : ℕ) → (t ≡ true → x ≤ 1) → (t ≡ true → y ≤ 1) → (0 < held t l → t ≡ false) → o ≡ held t (held t l + x) → o ≡ held t (held t l + y) → x ≡ y
rest_count t l x y o one one' apart e f = grind arith

some_there : (t : Bool) (l o : ℕ) → 0 < l → held t l ≤ o → 0 < o
some_there t l o some there = grind arith

taken_there : (t : Bool) (tl l o : ℕ) → tl ≡ cond t 0 l → held t l ≤ o → tl ≤ o
taken_there t tl l o e there = grind arith

used_there : (t : Bool) (l k u o : ℕ) → (t ≡ true → k ≡ l) → l ≡ k + u → held t l ≤ o → u ≤ o
used_there t l k u o stays parts there = grind arith

from_either : (t : Bool) (r x n o l : ℕ) → 0 < n → n ≡ held t (held t r + x) → o ≡ held t (held t l + x) → (0 < r) ⊎ (0 < o)
from_either t r x n o l some e f = grind arith

was_there : (t : Bool) (l x o : ℕ) → 0 < x → o ≡ held t (held t l + x) → 0 < o
was_there t l x o some e = grind arith

held_one : (t : Bool) (n m : ℕ) → t ≡ true → n ≡ held t m → n ≤ 1
held_one t n m is e = grind arith

module _ (laws : BagLaws) (signature : Signature) (rule : Rule) (values : List Tree) where
  abbrev fact : AtomTree → Bool
  fact = is_fact signature

  abbrev left : Multiset
  left = left_of signature rule values

  abbrev right : Multiset
  right = right_of signature rule values

  abbrev stays : PremiseTree → Bool
  stays premise = premise.kept || fact premise.atom

  abbrev atoms_of : List PremiseTree → List AtomTree
  atoms_of premises = map (λ premise. premise.atom) premises

  abbrev kept_among : List PremiseTree → List AtomTree
  kept_among premises = atoms_of (filter stays premises)

  abbrev used_among : List PremiseTree → List AtomTree
  used_among premises = atoms_of (filter (λ premise. not (stays premise)) premises)

  -- how often an atom is an instance of these
  abbrev many : List AtomTree → AtomTree → ℕ
  many atoms a = count_of (gathered (full_instances values atoms)) a

  many_more : (x : AtomTree) (atoms : List AtomTree) (a : AtomTree) → many (x ∷ atoms) a ≡ many atoms a + one_if (eq_by_cmp atom_cmp (full_instance values x) a)
  many_more x atoms a = count_more laws (gathered (full_instances values atoms)) (full_instance values x) a

  many_both : (xs ys : List AtomTree) (a : AtomTree) → many (xs ++ ys) a ≡ many xs a + many ys a
  many_both xs ys a = rw map-append (laws.joined_count (full_instances values xs) (full_instances values ys) a)

  -- those that are no facts
  instances_without : (atoms : List AtomTree) → full_instances values (without fact atoms) ≡ without fact (full_instances values atoms)
  instances_without [] = refl
  instances_without (x ∷ atoms) = grind (arith, instances_without atoms)

  many_without : (atoms : List AtomTree) (a : AtomTree) → many (without fact atoms) a ≡ cond (fact a) 0 (many atoms a)
  many_without atoms a = rw (instances_without atoms) (grind (arith, laws.without_those fact (full_instances values atoms) a, laws.without_others fact (full_instances values atoms) a))

  -- of a fact as many stay as are needed; and the premises are those that stay and those that do not
  same_atom : (x a : AtomTree) → eq_by_cmp atom_cmp x a ≡ true → x ≡ a
  same_atom x a e = laws.ties x a ((Equal-is (atom_cmp x a)).0 e)

  kept_count : (premises : List PremiseTree) (a : AtomTree) → fact a ≡ true → many (kept_among premises) a ≡ many (atoms_of premises) a
  kept_count [] a is = refl
  kept_count (premise ∷ premises) a is = by (stays premise) refl (kept_count premises a is)
    where
      by : (t : Bool) → stays premise ≡ t → many (kept_among premises) a ≡ many (atoms_of premises) a → many (atoms_of (cond t (premise ∷ filter stays premises) (filter stays premises))) a ≡ many (atoms_of (premise ∷ premises)) a
      by true e rest = omega (arith, many_more premise.atom (atoms_of premises) a, many_more premise.atom (kept_among premises) a, rest)
      by false e rest = let no_fact = (or_parts premise.kept (fact premise.atom) e).1 in grind (arith, many_more premise.atom (atoms_of premises) a, same_atom (full_instance values premise.atom) a)

  parted_count : (premises : List PremiseTree) (a : AtomTree) → many (atoms_of premises) a ≡ many (kept_among premises) a + many (used_among premises) a
  parted_count [] a = omega (arith, laws.empty a)
  parted_count (premise ∷ premises) a = by (stays premise) (parted_count premises a)
    where
      by : (t : Bool) → many (atoms_of premises) a ≡ many (kept_among premises) a + many (used_among premises) a
          → many (atoms_of (premise ∷ premises)) a ≡ many (atoms_of (cond t (premise ∷ filter stays premises) (filter stays premises))) a + many (atoms_of (cond (not t) (premise ∷ filter (λ p. not (stays p)) premises) (filter (λ p. not (stays p)) premises))) a
      by true rest = omega (arith, many_more premise.atom (atoms_of premises) a, rest, many_more premise.atom (kept_among premises) a)
      by false rest = omega (arith, many_more premise.atom (atoms_of premises) a, rest, many_more premise.atom (used_among premises) a)

  -- the sides and what they are joined with
  side_count : (atoms : List AtomTree) (rest : Multiset) (a : AtomTree) → count_of (joined signature (once fact (gathered atoms)) rest) a ≡ held (fact a) (held (fact a) (count_of (gathered atoms) a) + count_of rest a)
  side_count atoms rest a = rw (laws.once_count, laws.sum, laws.once_count) refl

  left_count : (a : AtomTree) → count_of left a ≡ held (fact a) (many (needed_of rule) a)
  left_count a = laws.once_count fact (gathered (full_instances values (needed_of rule))) a

  right_count : (a : AtomTree) → count_of right a ≡ held (fact a) (many rule.right a + many (kept_of signature rule) a)
  right_count a = rw (laws.once_count, many_both rule.right (kept_of signature rule) a) refl

  before_count : (old new : Multiset) (step : Step signature rule values old new) (a : AtomTree) → count_of old a ≡ held (fact a) (held (fact a) (many (needed_of rule) a) + count_of step.rest a)
  before_count old new step a = rw step.before (side_count (full_instances values (needed_of rule)) step.rest a)

  after_count : (old new : Multiset) (step : Step signature rule values old new) (a : AtomTree) → count_of new a ≡ held (fact a) (held (fact a) (many (rule.right ++ kept_of signature rule) a) + count_of step.rest a)
  after_count old new step a = rw step.after (side_count (full_instances values (rule.right ++ kept_of signature rule)) step.rest a)

  pub left_contained : (old new : Multiset) → Step signature rule values old new → IsContained left old
  left_contained old new step a = rw left_count (within (fact a) (many (needed_of rule) a) (count_of step.rest a) (count_of old a) (before_count old new step a))

  step_counts : (old new : Multiset) → Step signature rule values old new → (a : AtomTree) → count_of new a ≡ held (fact a) (count_of old a - held (fact a) (many (needed_of rule) a) + held (fact a) (many (rule.right ++ kept_of signature rule) a))
  step_counts old new step a =
      after_counts (fact a) (many (needed_of rule) a) (many (rule.right ++ kept_of signature rule) a) (count_of step.rest a) (count_of old a) (count_of new a)
      (λ is some. grind (arith, kept_count rule.premises a is, many_both rule.right (kept_of signature rule) a)) (before_count old new step a) (after_count old new step a)

  side_copies : (atoms : List AtomTree) (rest : Multiset) → HasCopies (joined signature (once fact (gathered atoms)) rest)
  side_copies atoms rest = laws.once_copies fact (sum_of (once fact (gathered atoms)) rest) (copies-sum_of laws (once fact (gathered atoms)) rest (laws.once_copies fact (gathered atoms) (copies-gathered laws atoms)))

  pub one_step : (old one other : Multiset) → Step signature rule values old one → Step signature rule values old other → one ≡ other
  one_step old one other step step' =
      let made = full_instances values (rule.right ++ kept_of signature rule) in
      same_counts laws one other (rw step.after (side_copies made step.rest)) (rw step'.after (side_copies made step'.rest))
      (λ a. step_counts old one step a ∙ sym (step_counts old other step' a))

  -- a state whose left side goes is that side and the rest
  rest_once : (old : Multiset) → IsOnce fact old → IsOnce fact (difference_of old left)
  rest_once old one a is = omega (arith, one a is, laws.difference old left a)

  restored : (old : Multiset) → IsBag old → IsOnce fact old → IsContained left old → old ≡ joined signature left (difference_of old left)
  restored old kept one contained = grind (arith, same_counts, copies-bag, side_copies, back, laws.once_count, laws.sum, laws.difference)

  -- so an edit with the right counts is a step
  edit_is : (state taken : Multiset) (added : List AtomTree) → IsBag left → IsBag right → IsBag state → IsOnce fact state → IsBag taken → IsBag (gathered added) → IsContained left state
      → ((a : AtomTree) → held (fact a) (count_of state a - count_of taken a + count_of (gathered added) a) ≡ held (fact a) (count_of right a + (count_of state a - count_of left a)))
      → Step signature rule values state (state_after signature state taken added)
  edit_is state taken added left_bag right_bag kept one taken_bag added_bag contained counts =
      let rest = difference_of state left in
      let rest_bag = laws.difference_kept state left kept left_bag in
      record {
        rest = rest;
        bag = rest_bag;
        once = rest_once state one;
        before = restored state kept one contained;
        after = laws.equal (state_after signature state taken added) (joined signature right rest)
            (laws.once_kept fact (sum_of (difference_of state taken) (gathered added)) (laws.sum_kept (difference_of state taken) (gathered added) (laws.difference_kept state taken kept taken_bag) added_bag))
            (laws.once_kept fact (sum_of right rest) (laws.sum_kept right rest right_bag rest_bag))
            (λ a. rw (laws.once_count, laws.sum, laws.difference, laws.once_count, laws.sum, laws.difference) (counts a));
      }

  needed_within : (state : Multiset) → IsContained left state → (a : AtomTree) → held (fact a) (many (needed_of rule) a) ≤ count_of state a
  needed_within state contained a = rw (← left_count a) (contained a)

  pub edit_is_step : (state : Multiset) → IsBag left → IsBag right → IsBag state → IsOnce fact state → IsBag (gathered (taken_by signature rule values)) → IsBag (gathered (added_by signature rule values)) → IsContained left state
      → Step signature rule values state (state_after signature state (gathered (taken_by signature rule values)) (added_by signature rule values))
  edit_is_step state left_bag right_bag kept one taken_bag added_bag contained =
      edit_is state (gathered (taken_by signature rule values)) (added_by signature rule values) left_bag right_bag kept one taken_bag added_bag contained (λ a.
      rw (many_both rule.right (without fact (kept_of signature rule)) a, right_count a, left_count a)
      (edit_after (fact a) (count_of state a) (many (needed_of rule) a) (many rule.right a) (many (kept_of signature rule) a) _ _ (one a) (kept_count rule.premises a)
      (many_without (needed_of rule) a) (many_without (kept_of signature rule) a) (needed_within state contained a)))

  pub lean_is_step : (state : Multiset) → IsBag left → IsBag right → IsBag state → IsOnce fact state → IsBag (gathered (used_by signature rule values)) → IsBag (gathered (full_instances values rule.right)) → IsContained left state
      → Step signature rule values state (state_after signature state (gathered (used_by signature rule values)) (full_instances values rule.right))
  lean_is_step state left_bag right_bag kept one used_bag made_bag contained =
      edit_is state (gathered (used_by signature rule values)) (full_instances values rule.right) left_bag right_bag kept one used_bag made_bag contained (λ a.
      rw (right_count a, left_count a)
      (lean_after (fact a) (count_of state a) (many (needed_of rule) a) (many rule.right a) (many (kept_of signature rule) a) _ (one a) (kept_count rule.premises a) (parted_count rule.premises a) (needed_within state contained a)))

  -- the rest is unique up to the facts of the left side
  pub one_rest : (old one other : Multiset) (step : Step signature rule values old one) (step' : Step signature rule values old other) (a : AtomTree) → (0 < count_of left a → fact a ≡ false) → count_of step.rest a ≡ count_of step'.rest a
  one_rest old one other step step' a apart = grind (arith, rest_count, left_count a, before_count old one step a, before_count old other step' a, step.rest, step'.rest, step.once, step'.once)

  -- and it is a state if the old state is one
  pub rest_is_state : (old new : Multiset) (step : Step signature rule values old new) → IsState signature old → IsState signature step.rest
  rest_is_state old new step is = grind (arith, was_there, before_count, step.bag, is.each, step.rest, step.once)

  -- what is needed is there, and what is taken, and what is used up
  pub needed_there : (state : Multiset) (a : AtomTree) → IsContained left state → Contains (full_instances values (needed_of rule)) a → 0 < count_of state a
  needed_there state a contained there = grind (arith, some_there, needed_within, laws.gathered_there)

  pub taken_contained : (state : Multiset) → IsContained left state → IsContained (gathered (taken_by signature rule values)) state
  taken_contained state contained a = grind (arith, taken_there, many_without, needed_within)

  pub no_facts_taken : (a : AtomTree) → fact a ≡ true → count_of (gathered (taken_by signature rule values)) a ≡ 0
  no_facts_taken a is = grind (arith, many_without (needed_of rule) a)

  pub used_contained : (state : Multiset) → IsContained left state → IsContained (gathered (used_by signature rule values)) state
  used_contained state contained a = grind (arith, used_there, kept_count, parted_count, needed_within, rule.premises)

  pub no_facts_used : (a : AtomTree) → fact a ≡ true → count_of (gathered (used_by signature rule values)) a ≡ 0
  no_facts_used a is = omega (arith, kept_count rule.premises a is, parted_count rule.premises a)

  -- an atom that is there after a step was there before, or is of the right side
  pub comes_from : (old new : Multiset) (a : AtomTree) → Step signature rule values old new → 0 < count_of new a → Contains (full_instances values (rule.right ++ kept_of signature rule)) a ⊎ (0 < count_of old a)
  comes_from old new a step some =
      elim (from_either (fact a) (many (rule.right ++ kept_of signature rule) a) (count_of step.rest a) (count_of new a) (count_of old a) (many (needed_of rule) a) some (after_count old new step a) (before_count old new step a)) [
        | inl made ↦ inl ((laws.gathered_there (full_instances values (rule.right ++ kept_of signature rule)) a).0 made)
        | inr there ↦ inr there
      ]

  module _ (old new : Multiset) (typed : IsTypedRule signature rule) (divided : IsDividedRule signature rule) (are : AreValues signature.cons rule.kinds values) (right_bag : IsBag right) (is : IsState signature old) (fit : MakesFit rule values) (step : Step signature rule values old new) where
    made_atoms : (atoms : List AtomTree) → AllByRecursion (IsTyped signature rule.kinds) atoms → AllByRecursion (HasStatePredicate signature) atoms → AllByRecursion IsFit (full_instances values atoms) → AllByRecursion (IsStateAtom signature) (full_instances values atoms)
    made_atoms [] all of fit = tt
    made_atoms (a ∷ atoms) all of fit = (
      (record { ground = ground_instance signature rule.kinds values a are all.0; typed = typed_instance signature rule.kinds values a are all.0; of_state = of.0; fit = fit.0 }),
      (made_atoms atoms all.1 of.1 fit.1),
    )

    kept_atoms : (premises : List PremiseTree) → AllByRecursion (IsStateAtom signature) (full_instances values (atoms_of premises)) → AllByRecursion (IsStateAtom signature) (full_instances values (kept_among premises))
    kept_atoms [] all = tt
    kept_atoms (premise ∷ premises) all = grind (arith, kept_atoms premises all.1)

    right_atoms : AllByRecursion (IsStateAtom signature) (full_instances values (rule.right ++ kept_of signature rule))
    right_atoms =
        let needed = all_of (IsStateAtom signature) (full_instances values (needed_of rule)) (λ a there. is.each a (needed_there old a (left_contained old new step) there)) in
        rw map-append (both_all (IsStateAtom signature) (full_instances values rule.right) (full_instances values (kept_of signature rule)) (made_atoms rule.right typed.right divided.right fit) (kept_atoms rule.premises needed))

    pub next_is_state : IsState signature new
    next_is_state = record {
      bag = rw step.after (laws.once_kept fact (sum_of right step.rest) (laws.sum_kept right step.rest right_bag step.bag));
      each = λ a some. elim (comes_from old new a step some) [
        | inl made ↦ all_at (IsStateAtom signature) (full_instances values (rule.right ++ kept_of signature rule)) a right_atoms made
        | inr there ↦ is.each a there
      ];
      once = λ a is. held_one (fact a) (count_of new a) _ is (after_count old new step a);
    }

-- the state after an edit is the old one without what is taken, and with what it gains
pub edit_gains : BagLaws → (signature : Signature) (state taken : Multiset) (added : List AtomTree) → IsBag state → IsOnce (is_fact signature) state → IsBag taken → AllByRecursion IsGroundAtom added
    → state_after signature state taken added ≡ sum_of (difference_of state taken) (gathered (gained (is_fact signature) (difference_of state taken) added))
edit_gains laws signature state taken added kept one kept' ground = grind (arith, laws.once_gains, laws.difference_kept, laws.difference)

-- The variables of well-typed atoms have types, and values of the right types are as many.

mutual
  term_in_range : (cons : List Con) (kinds : List ℕ) (sort : ℕ) (t : Tree) → HasSort cons kinds sort t → IsInRange (length kinds) t
  term_in_range cons kinds sort (variable v) typed = slice_get_within kinds v sort typed
  term_in_range cons kinds sort (node c args) typed = from_some (slice_get cons c) _ _ (λ con h. args_in_range cons kinds con.args args h.1) typed

  args_in_range : (cons : List Con) (kinds sorts : List ℕ) (args : Trees) → HaveSorts cons kinds sorts args → AreInRange (length kinds) args
  args_in_range cons kinds [] none typed = tt
  args_in_range cons kinds (sort ∷ sorts) (more t rest) typed = ((term_in_range cons kinds sort t typed.0), (args_in_range cons kinds sorts rest typed.1))
  args_in_range cons kinds sorts args typed = absurd typed

pub atom_in_range : (signature : Signature) (kinds : List ℕ) (a : AtomTree) → IsTyped signature kinds a → IsAtomInRange (length kinds) a
atom_in_range signature kinds a typed = from_some (slice_get signature.preds a.pred) _ _ (λ pred h. args_in_range signature.cons kinds pred.args a.args h) typed

pub as_many_values : (cons : List Con) (kinds : List ℕ) (values : List Tree) → AreValues cons kinds values → length values ≡ length kinds
as_many_values cons (sort ∷ kinds) (t ∷ values) are = omega (arith, as_many_values cons kinds values are.1)
as_many_values cons kinds values are = grind arith

-- The values of what applies or is proved are small: each variable occurs in an atom whose instance is fit.

given_at : (values : List Tree) (v : ℕ) (u : Tree) → slice_get values v ≡ Some u → value_of (given values) v ≡ Some u
given_at (t ∷ values) (suc v) u is = given_at values v u is
given_at values v u is = grind (arith, none_some)

module _ (values : List Tree) (v : ℕ) (u : Tree) (is : value_of (given values) v ≡ Some u) where
  mutual
    within_term : (t : Tree) → Occurs v t → (term_nodes u ≤ term_nodes (term_instance (given values) t)) × (term_depth u ≤ term_depth (term_instance (given values) t))
    within_term (variable w) occurs =
        let here : unwrap_or (value_of (given values) w) (variable w) ≡ u = ap (λ o. unwrap_or o (variable w)) (ap (value_of (given values)) (sym occurs) ∙ is) in
        rw here ((omega arith), (omega arith))
    within_term (node c args) occurs = let rest = within_args args occurs in ((omega (arith, rest.0)), (omega (arith, rest.1)))

    within_args : (args : Trees) → OccursAmong v args → (term_nodes u ≤ argument_nodes (argument_instances (given values) args)) × (term_depth u ≤ argument_depth (argument_instances (given values) args))
    within_args none occurs = absurd occurs
    within_args (more t rest) (inl here) = let first = within_term t here in ((omega (arith, first.0)), (omega (arith, first.1)))
    within_args (more t rest) (inr later) = let others = within_args rest later in ((omega (arith, others.0)), (omega (arith, others.1)))

  -- a value is small where its variable occurs in an atom whose instance is fit
  value_small : (atoms : List AtomTree) → OccursInSome v atoms → AllByRecursion IsFit (full_instances values atoms) → IsSmallTerm u
  value_small [] occurs fit = absurd occurs
  value_small (a ∷ atoms) (inl here) fit =
      let within = within_args a.args here in
      record { nodes = omega (arith, within.0, fit.0.nodes); depth = omega (arith, within.1, fit.0.depth) }
  value_small (a ∷ atoms) (inr later) fit = value_small atoms later fit.1

values_small : (values : List Tree) (vars : ℕ) (atoms : List AtomTree) → length values ≡ vars → ((v : ℕ) → v < vars → OccursInSome v atoms) → AllByRecursion IsFit (full_instances values atoms) → AllByRecursion IsSmallTerm values
values_small values vars atoms many occurs fit = all_from_places IsSmallTerm values (λ v u is. value_small values v u (given_at values v u is) atoms (occurs v (omega (arith, slice_get_within values v u is))) fit)

proved_fit : (program : Parts) (proof : ProofTree) (a : AtomTree) → Proves program proof a → IsFit a
proved_fit program (by_clause number values subs) a proves = proves.0

all_proved_fit : (program : Parts) (proofs : ProofTrees) (atoms : List AtomTree) → ProveAll program proofs atoms → AllByRecursion IsFit atoms
all_proved_fit program (goal_by proof proofs) (a ∷ atoms) all = ((proved_fit program proof a all.0), (all_proved_fit program proofs atoms all.1))
all_proved_fit program proofs atoms all = grind arith

module _ (program : Parts) (kept : IsProgram program) where
  node_small : (number : ℕ) (clause : ClauseTree) (values : List Tree) (subs : ProofTrees) (a : AtomTree) → slice_get program.clauses number ≡ Some clause → IsFit a → IsHeadBy program clause values a → ProveAll program subs (full_instances values clause.goals) → AllByRecursion IsSmallTerm values
  node_small number clause values subs a found fit by all =
      values_small values (length clause.vars) (clause.head ∷ clause.goals)
      (as_many_values program.signature.cons clause.kinds values by.given ∙ (holds_at (IsTypedClause program.signature) program.clauses number clause kept.typed_clauses found).kinds)
      (holds_at IsBoundClause program.clauses number clause kept.bound_clauses found)
      ((subst IsFit by.head fit), (all_proved_fit program subs (full_instances values clause.goals) all))

  mutual
    pub proof_small : (proof : ProofTree) (a : AtomTree) → Proves program proof a → HasSmallValues proof
    proof_small (by_clause number values subs) a proves = (
      (from_some_is (slice_get program.clauses number) _ _ (λ clause found h. node_small number clause values subs a found proves.0 h.0 h.1) proves.1),
      (from_some_is (slice_get program.clauses number) _ _ (λ clause found h. proofs_small subs (full_instances values clause.goals) h.1) proves.1),
    )

    proofs_small : (proofs : ProofTrees) (goals : List AtomTree) → ProveAll program proofs goals → HaveSmallValues proofs
    proofs_small no_goal goals all = tt
    proofs_small (goal_by proof proofs) [] all = absurd all
    proofs_small (goal_by proof proofs) (goal ∷ goals) all = ((proof_small proof goal all.0), (proofs_small proofs goals all.1))

  -- the instances of the linear premises are in the state, and so they are fit
  needed_fit : BagLaws → (state : Multiset) (rule : Rule) (values : List Tree) → IsState program.signature state → IsContained (left_of program.signature rule values) state → AllByRecursion IsFit (full_instances values (needed_of rule))
  needed_fit laws state rule values is contained = grind (arith, all_of, needed_there, is.each, program.signature)

  pub offer_small : BagLaws → (height : ℕ) (state : Multiset) (offer : Offer) → IsState program.signature state → Applies program height state offer → AllByRecursion IsSmallTerm offer.values
  offer_small laws height state offer is applies =
      let rule = applies.rule in
      let values = offer.values in
      values_small values (length rule.vars) (needed_of rule ++ rule.backs)
      (as_many_values program.signature.cons rule.kinds values applies.values ∙ (holds_at (IsTypedRule program.signature) program.rules offer.rule rule kept.typed_rules applies.numbered).kinds)
      (holds_at IsBoundRule program.rules offer.rule rule kept.bound_rules applies.numbered)
      (rw map-append (both_all IsFit (full_instances values (needed_of rule)) (full_instances values rule.backs) (needed_fit laws state rule values is applies.contained)
      (all_weaker (IsDerivable program height) IsFit (full_instances values rule.backs) (λ a (can : IsDerivable program height a). proved_fit program can.proof a can.proves) applies.derivable)))
