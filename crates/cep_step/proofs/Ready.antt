-- The change of a rule that applies, its sizes, and what the state after it weighs.
use Rattle.std.proofs.Common.{◌≡◌, not, ℕ, ◌+◌, ◌≤◌, Bool, true, false, ◌||◌, List, [], ◌∷◌, ◌++◌, length, map, take, Some, refl, ap, suc, ◌*◌, max, None, unwrap_or, arith, ◌⊎◌, ◌^◌, ◌<◌, Option}
use Rattle.std.proofs.Math.Nat.{add-mul}
use Rattle.std.specs.List.{AllByRecursion}
use Rattle.std.specs.Prelude.{slice_get, filter, slice_index_or, sum_by, IfSome}
use Rattle.std.proofs.lemmas.List.{map-append, length-map, length-append}
use Rattle.std.proofs.lemmas.List.Sums.{sum_by_push}
use Rattle.cep_term.specs.BagLaws.{BagLaws}
use Rattle.cep_term.specs.Values.{term_instance, argument_instances}
use Rattle.cep_term.specs.Multiset.{without, Multiset, gathered, sum_of, difference_of, copies_in, nodes_in_all, IsBag, count_of, gained, IsContained}
use Rattle.cep_term.specs.Tree.{Tree, AtomTree, IsAtomInRange, Trees, variable, node, none, more, term_nodes, argument_nodes, atom_nodes, term_depth, argument_depth, atom_depth, IsFit, IsGroundAtom}
use Rattle.cep_rule.specs.Binding.{needed_of}
use Rattle.cep_rule.specs.Patterns.{PremiseTree}
use Rattle.cep_rule.specs.Shapes.{IsSmallTerm}
use Rattle.cep_rule.specs.State.{Fits}
use Rattle.cep_rule.specs.Instances.{full_instance, full_instances, given, taken_by, added_by, used_by}
use Rattle.cep_rule.specs.declared.signature.Signature.{Signature}
use Rattle.cep_rule.specs.Limits.{IsSmallPattern, IsSmallRule}
use Rattle.cep_rule.specs.Program.{IsTypedRule, IsDividedRule, IsProgram}
use Rattle.cep_rule.specs.Steps.{Spot, MakesFit, stage_after}
use Rattle.cep_rule.specs.Matching.{state_after}
use Rattle.cep_rule.specs.Step.{Step}
use Rattle.cep_rule.specs.Typing.{is_fact, IsTyped, AreValues}
use Rattle.cep_rule.specs.declared.parts.Parts.{Parts}
use Rattle.cep_rule.specs.declared.rule.Rule.{Rule}
use Rattle.cep_rule.proofs.TypedValues.{term_alone}
use Rattle.cep_base.proofs.Elements.{both_all, all_of, all_at}
use Rattle.cep_base.proofs.Lists.{take_next, map_last, holds_at_mapped, holds_at, all_weaker, all_mapped, filter_few as few_pass}
use Rattle.cep_base.specs.declared.limits.TheConstants.{MOST_DEPTH, MOST_NODES, MOST_PREMISES, MOST_RIGHT}
use Rattle.cep_offer.specs.Leaving.{LeavesAlone}
use Rattle.cep_step.specs.Changes.{CanStep, IsWeighed}
use Rattle.cep_step.specs.Spots.{IsSpotOf}
use Rattle.cep_step.specs.StepLaws.{StepLaws}
use Rattle.cep_step.specs.Weighing.{CanWeigh, IsReady}
use Rattle.cep_step.specs.declared.size.Size.{Size}
use Rattle.cep_step.specs.Passing.{IsTooLarge, IsFirstUnfit, IsExcess, IsTooFull}
use Rattle.cep_step.specs.declared.weighing.Weighed.TheVariants.{Passes, Within}
use Rattle.cep_step.specs.Sizes.{capped, size_of, size_at, size_by, size_among, IsBeyond}
use Rattle.cep_step.specs.declared.limit.Limit.TheVariants.{Atom, State}

-- Atoms of a rule that are gone through one by one.

-- the atoms of premises, of those that are used up, and of the linear ones that are kept
abbrev pub premise_atoms : List PremiseTree → List AtomTree
premise_atoms premises = map (λ premise. premise.atom) premises

abbrev pub used_among : Signature → List PremiseTree → List AtomTree
used_among signature premises = premise_atoms (filter (λ premise. not (premise.kept || is_fact signature premise.atom)) premises)

abbrev pub linear_kept_among : Signature → List PremiseTree → List AtomTree
linear_kept_among signature premises = without (is_fact signature) (premise_atoms (filter (λ premise. premise.kept || is_fact signature premise.atom) premises))

-- linear premises are used up or kept
linear_parted : BagLaws → (signature : Signature) (values : List Tree) (premises : List PremiseTree) (a : AtomTree)
    → count_of (gathered (full_instances values (without (is_fact signature) (premise_atoms premises)))) a ≡ count_of (gathered (full_instances values (used_among signature premises))) a + count_of (gathered (full_instances values (linear_kept_among signature premises))) a
linear_parted laws signature values [] a = omega (arith, laws.empty a)
linear_parted laws signature values (premise ∷ premises) a = by premise.kept (is_fact signature premise.atom) refl refl (linear_parted laws signature values premises a)
  where
    one : List AtomTree
    one = full_instance values premise.atom ∷ []

    by : (kept fact : Bool) → premise.kept ≡ kept → is_fact signature premise.atom ≡ fact
        → count_of (gathered (full_instances values (without (is_fact signature) (premise_atoms premises)))) a ≡ count_of (gathered (full_instances values (used_among signature premises))) a + count_of (gathered (full_instances values (linear_kept_among signature premises))) a
        → count_of (gathered (full_instances values (without (is_fact signature) (premise_atoms (premise ∷ premises))))) a ≡ count_of (gathered (full_instances values (used_among signature (premise ∷ premises)))) a + count_of (gathered (full_instances values (linear_kept_among signature (premise ∷ premises)))) a
    by true true kept fact rest = rw (kept, fact) rest
    by false true kept fact rest = rw (kept, fact, fact) rest
    by true false kept fact rest = rw (kept, fact) (omega (arith, rest, laws.joined_count one (full_instances values (without (is_fact signature) (premise_atoms premises))) a, laws.joined_count one (full_instances values (linear_kept_among signature premises)) a))
    by false false kept fact rest = rw (kept, fact) (omega (arith, rest, laws.joined_count one (full_instances values (without (is_fact signature) (premise_atoms premises))) a, laws.joined_count one (full_instances values (used_among signature premises)) a))

-- the instance of a premise's atom can be built, if those of all are
pub premise_within : (values : List Tree) (premises : List PremiseTree) (n : ℕ) (premise : PremiseTree) → AllByRecursion (IsAtomInRange (length values)) (premise_atoms premises) → slice_get premises n ≡ Some premise → IsAtomInRange (length values) premise.atom
premise_within values premises n premise within is = holds_at_mapped (IsAtomInRange (length values)) (λ (p : PremiseTree). p.atom) premises n premise within is

-- The sizes of instances are those that are told from the sizes of the values, and they are bounded.

capped_sum : (n m : ℕ) → capped (capped n + capped m) ≡ capped (n + m)
capped_sum n m = omega arith

capped_max : (n m : ℕ) → max (capped n) (capped m) ≡ capped (max n m)
capped_max n m = omega arith

-- the size of arguments together
abbrev pub size_of_all : Trees → Size
size_of_all args = record { nodes = capped (argument_nodes args); depth = capped (argument_depth args) }

under_at : (values : List Tree) (v w : ℕ) → size_at (map size_of values) v ≡ size_of (unwrap_or (slice_index_or (map Some values) v None) (variable w))
under_at (t ∷ values) (suc v) w = under_at values v w
under_at values v w = refl

-- the size of an instance
mutual
  under : (values : List Tree) (t : Tree) → size_by (map size_of values) t ≡ size_of (term_instance (given values) t)
  under values (variable v) = under_at values v v
  under values (node c args) = grind (arith, among values args)

  pub among : (values : List Tree) (args : Trees) → size_among (map size_of values) args ≡ size_of_all (argument_instances (given values) args)
  among values none = refl
  among values (more t rest) = grind (arith, under values t, capped_sum (term_nodes (term_instance (given values) t)) (argument_nodes (argument_instances (given values) rest)), capped_max (term_depth (term_instance (given values) t)) (argument_depth (argument_instances (given values) rest)), among values rest)

mutual
  depth_below_nodes : (t : Tree) → term_depth t ≤ term_nodes t
  depth_below_nodes (variable v) = omega arith
  depth_below_nodes (node c args) = omega (arith, args_depth args)

  args_depth : (args : Trees) → argument_depth args ≤ argument_nodes args
  args_depth none = omega arith
  args_depth (more t rest) = omega (arith, depth_below_nodes t, args_depth rest)

-- A value has at most so many nodes.
abbrev pub IsBelow : ℕ → Tree → Type 0
IsBelow most t = term_nodes t ≤ most

bounded_at : (most : ℕ) (values : List Tree) (v w : ℕ) → 1 ≤ most → AllByRecursion (IsBelow most) values → term_nodes (unwrap_or (slice_index_or (map Some values) v None) (variable w)) ≤ most
bounded_at most (t ∷ values) (suc v) w some all = bounded_at most values v w some all.1
bounded_at most values v w some all = grind arith

mutual
  bounded : (most : ℕ) (values : List Tree) → 1 ≤ most → AllByRecursion (IsBelow most) values → (t : Tree) → term_nodes (term_instance (given values) t) ≤ term_nodes t * most
  bounded most values some all (variable v) = omega (arith, bounded_at most values v v some all)
  bounded most values some all (node c args) = grind (arith, bounded_all most values some all args, add-mul 1 (argument_nodes args) most)

  bounded_all : (most : ℕ) (values : List Tree) → 1 ≤ most → AllByRecursion (IsBelow most) values → (args : Trees) → argument_nodes (argument_instances (given values) args) ≤ argument_nodes args * most
  bounded_all most values some all none = omega arith
  bounded_all most values some all (more t rest) = grind (arith, bounded most values some all t, add-mul (term_nodes t) (argument_nodes rest) most, bounded_all most values some all rest)

-- an instance has at most so many times the nodes of its pattern
pub instance_bounded : (most : ℕ) (values : List Tree) → 1 ≤ most → AllByRecursion (IsBelow most) values → (a : AtomTree) → atom_nodes (full_instance values a) ≤ atom_nodes a * most
instance_bounded most values some all a = grind (arith, bounded_all, add-mul, a.args)

-- one value more
pub next_size : (values : List Tree) (n : ℕ) (t : Tree) (sizes : List Size) → sizes ≡ map size_of (take n values) → slice_get values n ≡ Some t → sizes ++ size_by [] t ∷ [] ≡ map size_of (take (n + 1) values)
next_size values n t sizes so_far is = grind (arith, under [] t, term_alone t, map_last size_of (take n values) t, take_next values n t is)

-- The copies and the nodes of the state after a step, from what comes and what goes.

-- one atom more
pub nodes_next : (atoms : List AtomTree) (n : ℕ) (a : AtomTree) (sum nodes : ℕ) → sum ≡ sum_by atom_nodes (take n atoms) → slice_get atoms n ≡ Some a → nodes ≡ atom_nodes a → sum + nodes ≡ sum_by atom_nodes (take (n + 1) atoms)
nodes_next atoms n a sum nodes so_far is same = grind (arith, take_next atoms n a is, sum_by_push atom_nodes (take n atoms) a)

-- one atom more is fit
pub fit_next : (atoms : List AtomTree) (n : ℕ) (a : AtomTree) (size : Size) → AllByRecursion IsFit (take n atoms) → slice_get atoms n ≡ Some a → size.nodes ≡ capped (atom_nodes a) → size.depth ≡ capped (atom_depth a) → (size.nodes ≤ MOST_NODES) × (size.depth ≤ MOST_DEPTH) → AllByRecursion IsFit (take (n + 1) atoms)
fit_next atoms n a size so_far is nodes depth fit = grind (arith, take_next atoms n a is, both_all, fit.0, fit.1)

-- a size that is too large is that of an atom that is
pub beyond : (a : AtomTree) (size : Size) (number : ℕ) → size.nodes ≡ capped (atom_nodes a) → size.depth ≡ capped (atom_depth a) → ((MOST_NODES < size.nodes) × (number ≡ size.nodes)) ⊎ ((size.nodes ≤ MOST_NODES) × (MOST_DEPTH < size.depth) × (number ≡ size.depth)) → IsBeyond a number
beyond a size number nodes depth over = grind (arith, args_depth a.args)

-- what is beyond a limit is not fit
pub not_all_fit : (atoms : List AtomTree) (number : ℕ) → IsFirstUnfit IsBeyond atoms number → ¬ AllByRecursion IsFit atoms
not_all_fit atoms number first fit = grind (arith, holds_at IsFit atoms first.place first.atom fit first.there, first.over)

-- where all nodes can be counted, the number is exact
pub exact : (atoms : List AtomTree) (number : ℕ) → AllByRecursion (λ a. atom_nodes a < 2 ^ 64) atoms → IsFirstUnfit IsBeyond atoms number → IsFirstUnfit IsTooLarge atoms number
exact atoms number all first = grind (arith, holds_at, first.place, first.atom, first.there, first.before, first.over)

module _ (laws : BagLaws) (state : Multiset) (taken gains : List AtomTree) (can : CanWeigh state taken gains) where
  taken_bag : IsBag (gathered taken)
  taken_bag = laws.gathered_kept taken can.taken_ground

  -- copies and nodes that go and come
  pub edit_copies : (copies_in (sum_of (difference_of state (gathered taken)) (gathered gains)) + length taken ≡ copies_in state + length gains) × (length taken ≤ copies_in state)
  edit_copies = grind (arith, laws.taken_and_added state (gathered taken) can.bag taken_bag can.contained, laws.sum_copies, laws.gathered_copies)

  pub edit_nodes : (nodes_in_all (sum_of (difference_of state (gathered taken)) (gathered gains)) + sum_by atom_nodes taken ≡ nodes_in_all state + sum_by atom_nodes gains) × (sum_by atom_nodes taken ≤ nodes_in_all state)
  edit_nodes = grind (arith, laws.taken_and_added state (gathered taken) can.bag taken_bag can.contained, laws.sum_nodes, laws.gathered_nodes)

-- What is known of a rule with values by which there is a step.

-- what holds of the instances of all premises holds of those that pass a test
all_passing : (P : AtomTree → Type 0) (test : PremiseTree → Bool) (values : List Tree) (premises : List PremiseTree) → AllByRecursion P (full_instances values (premise_atoms premises)) → AllByRecursion P (full_instances values (premise_atoms (filter test premises)))
all_passing P test values [] all = tt
all_passing P test values (premise ∷ premises) all = grind (arith, premise_atoms, all_passing P test values premises all.1, all.1, all.0)

-- typed atoms have a value for each of their variables
pub in_range : StepLaws → (signature : Signature) (kinds : List ℕ) (values : List Tree) → AreValues signature.cons kinds values → (atoms : List AtomTree) → AllByRecursion (IsTyped signature kinds) atoms → AllByRecursion (IsAtomInRange (length values)) atoms
in_range laws signature kinds values are atoms all = grind (arith, all_weaker, laws.types.as_many, signature.cons, laws.types.in_range)

-- instances by small values have so few nodes that they can be counted
few_nodes : (values : List Tree) → AllByRecursion IsSmallTerm values → (atoms : List AtomTree) → AllByRecursion IsSmallPattern atoms → AllByRecursion (λ a. atom_nodes a < 2 ^ 64) (full_instances values atoms)
few_nodes values small atoms patterns =
    let below = all_weaker IsSmallTerm (IsBelow MOST_NODES) values (λ t h. h.nodes) small in
    all_mapped IsSmallPattern _ (full_instance values) atoms (λ a few. grind (arith, few, instance_bounded MOST_NODES values (omega arith) below a)) patterns

-- what is known of a step that can be done
pub ready : (program : Parts) (rule : Rule) (values : List Tree) (spot : Spot) → IsProgram program → IsSpotOf program spot → CanStep program rule values spot.state → IsReady program rule values spot
ready program rule values spot kept here can = record {
  typed = holds_at (IsTypedRule program.signature) program.rules can.number rule kept.typed_rules can.numbered;
  divided = holds_at (IsDividedRule program.signature) program.rules can.number rule kept.divided_rules can.numbered;
  small = holds_at IsSmallRule program.rules can.number rule kept.small.each_rule can.numbered;
  next = holds_at (λ (r : Rule). IfSome r.next (λ stage. stage < length program.stages)) program.rules can.number rule kept.in_range.next_stages can.numbered;
  few_stages = kept.small.stages;
  are = can.are;
  contained = can.contained;
  here = here;
}

-- a state that is too full does not fit
not_fitting : (state : Multiset) (number : ℕ) → IsTooFull state number → ¬ Fits state
not_fitting state number full fits = grind (arith, fits.copies, fits.nodes)

module _ (laws : StepLaws) (program : Parts) (rule : Rule) (values : List Tree) (spot : Spot) (is : IsReady program rule values spot) where
  needed_fit : AllByRecursion IsFit (full_instances values (needed_of rule))
  needed_fit = grind (arith, all_of, is.here.is_state.each, laws.there, program.signature, spot.state, is.contained)

  -- the number by which an atom is not fit is exact where the values are small
  pub exact_number : (number : ℕ) → IsFirstUnfit IsBeyond (full_instances values rule.right) number → AllByRecursion IsSmallTerm values → IsExcess program.signature rule values spot.state Atom number
  exact_number number first small = exact (full_instances values rule.right) number (few_nodes values small rule.right is.small.right_nodes) first

  pub used_fit : AllByRecursion IsFit (used_by program.signature rule values)
  used_fit = all_passing IsFit (λ premise. not (premise.kept || is_fact program.signature premise.atom)) values rule.premises needed_fit

  few_made : length (full_instances values rule.right) ≤ MOST_PREMISES + MOST_RIGHT
  few_made = grind (arith, length-map, is.small.right, rule.right)

  -- What is taken, added and gained is the change of a step.

  abbrev is_one_fact : AtomTree → Bool
  is_one_fact = is_fact program.signature

  pub taken_ground : (taken : List AtomTree) → taken ≡ used_by program.signature rule values → AllByRecursion IsGroundAtom taken
  taken_ground taken same = rw same (laws.used_ground program.signature rule values is.typed is.are)

  pub added_ground : (added : List AtomTree) → added ≡ full_instances values rule.right → AllByRecursion IsGroundAtom added
  added_ground added same = rw same (laws.made_ground program.signature rule values is.typed is.are)

  pub taken_few : (taken : List AtomTree) → taken ≡ used_by program.signature rule values → length taken ≤ MOST_PREMISES
  taken_few taken same = rw same (grind (arith, length-map, few_pass, is.small.premises, program.signature, rule.premises))

  module _ (taken added : List AtomTree) (listed : Option (List AtomTree)) (taken_is : taken ≡ used_by program.signature rule values) (added_is : added ≡ full_instances values rule.right) (gains_are : unwrap_or listed added ≡ gained is_one_fact spot.state added) (fit : MakesFit rule values) where
    abbrev gains : List AtomTree
    gains = unwrap_or listed added

    abbrev pub new_state : Multiset
    new_state = sum_of (difference_of spot.state (gathered taken)) (gathered gains)

    contained : IsContained (gathered taken) spot.state
    contained = rw taken_is (laws.used program.signature rule values spot.state is.contained)

    no_facts : (a : AtomTree) → is_one_fact a ≡ true → count_of (gathered taken) a ≡ 0
    no_facts = rw taken_is (laws.no_facts_used program.signature rule values)

    -- what is taken and gained can be weighed
    pub can_weigh : CanWeigh spot.state taken gains
    can_weigh = record {
      bag = is.here.is_state.bag;
      fits = is.here.fits;
      contained = contained;
      taken_ground = taken_ground taken taken_is;
      taken_fit = rw taken_is (used_fit);
      gains_fit = rw gains_are (all_of IsFit (gained is_one_fact spot.state added) (λ a there. all_at IsFit added a (rw added_is fit) (laws.bags.gained_among is_one_fact spot.state added a there)));
      few_taken = taken_few taken taken_is;
      few_gains = omega (arith, ap length gains_are, laws.bags.gained_few is_one_fact spot.state added, ap length added_is, few_made);
    }

    -- no fact is taken, so what is left gains what the state does
    gains_by : gains ≡ gained is_one_fact (difference_of spot.state (gathered taken)) added
    gains_by = grind (arith, is_one_fact, no_facts, laws.bags.gained_alike, spot.state, laws.bags.difference)

    after : new_state ≡ state_after program.signature spot.state (gathered taken) added
    after = grind (arith, gains_by, taken_ground, added_ground, spot.state, laws.gain, program.signature, is.here.is_state.bag, is.here.is_state.once, laws.bags.gathered_kept)

    step : Step program.signature rule values spot.state new_state
    step = rw (after, taken_is, added_is) (laws.edit program.signature rule values spot.state is.typed is.are is.here.is_state is.contained)

    leaves_alone : LeavesAlone program.signature spot.state (gathered taken) added (gathered (taken_by program.signature rule values)) (added_by program.signature rule values)
    leaves_alone = record {
      kept = full_instances values (linear_kept_among program.signature rule.premises);
      taken_too = rw taken_is (linear_parted laws.bags program.signature values rule.premises);
      added_again = rw added_is (map-append (full_instance values) rule.right (linear_kept_among program.signature rule.premises));
      no_facts = laws.no_facts program.signature rule values;
      contained = laws.taken program.signature rule values spot.state is.contained;
      state_bag = is.here.is_state.bag;
      used_bag = laws.bags.gathered_kept taken (taken_ground taken taken_is);
      taken_bag = laws.bags.gathered_kept (taken_by program.signature rule values) (laws.taken_ground program.signature rule values is.typed is.are);
      ground = laws.added_ground program.signature rule values is.typed is.are;
    }

    pub too_full : (number : ℕ) → IsTooFull new_state number → IsWeighed program rule values spot (Passes State number)
    too_full number full = ((fit, (new_state, step, not_fitting new_state number full)), λ small. (new_state, step, full))

    pub within : (bag : Multiset) (nodes stage : ℕ) → bag ≡ gathered taken → stage ≡ stage_after rule spot.stage → Fits new_state × (nodes ≡ nodes_in_all new_state)
        → IsWeighed program rule values spot (Within (record { taken = bag; added = added; gains = listed; nodes = nodes; stage = stage }))
    within bag nodes stage same next weight =
        let in_range : stage < length program.stages = rw next (grind arith) in
        rw same (record {
          taken = ap gathered taken_is;
          added = added_is;
          leaves = leaves_alone;
          gains = gains_by;
          no_facts = no_facts;
          after = after;
          can = record {
            there = contained;
            ground = rw gains_are (laws.bags.gained_ground is_one_fact spot.state added (added_ground added added_is));
            fits = weight.0;
            nodes = weight.1;
            low = omega (arith, in_range, is.few_stages);
          };
          leads = record { fit = fit; step = step; fits = weight.0; stage = next };
          of_program = record {
            stage = in_range;
            is_state = laws.lead program.signature rule values spot.state new_state is.typed is.divided is.are is.here.is_state fit step;
            fits = weight.0;
          };
        })
