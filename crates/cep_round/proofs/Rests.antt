-- A round has one outcome, whose offers are steps of the machine.
use Rattle.std.proofs.Common.{◌≡◌, inl, ℕ, ◌%◌, List, [], ◌∷◌, IsSome, ◌↔◌, refl, sym, ap, subst, ◌∙◌, arith, ◌+◌, Bool, cond, ◌||◌, ◌++◌, map, take, Some, append_assoc, append-nil, ◌-◌, ◌≤◌, true, false}
use Rattle.std.specs.Prelude.{IfSome, slice_get, filter}
use Rattle.std.specs.List.{AllByRecursion}
use Rattle.cep_base.proofs.Lists.{holds_at, some_same, take_next, map_last}
use Rattle.cep_term.specs.Tree.{AtomTree, Tree}
use Rattle.cep_term.specs.Multiset.{Multiset, count_of, difference_of, IsBag, held}
use Rattle.cep_rule.specs.declared.rule.Rule.{Rule}
use Rattle.cep_rule.specs.declared.parts.Parts.{Parts}
use Rattle.cep_rule.specs.declared.offer.Offer.{Offer}
use Rattle.cep_rule.specs.Derivations.{ProofTree, IsDerivable}
use Rattle.cep_rule.specs.Instances.{full_instances, full_instance}
use Rattle.cep_rule.specs.Offers.{IsInGroup, Applies}
use Rattle.cep_rule.specs.Stages.{own_group}
use Rattle.cep_rule.specs.Steps.{MakesFit, AreProofs, stage_after}
use Rattle.cep_rule.specs.Program.{IsGroupedRule, IsProgram, IsTypedRule}
use Rattle.cep_round.specs.Orders.{MakesFitAtoms, IsOfferDone, AreOffersDone, FitOnTheWay, AreMachineSteps, LeavesRest}
use Rattle.std.proofs.lemmas.List.{map-append}
use Rattle.std.proofs.lemmas.List.Elements.{filter-append}
use Rattle.cep_rule.specs.Patterns.{PremiseTree}
use Rattle.cep_rule.specs.declared.signature.Signature.{Signature}
use Rattle.cep_rule.specs.Typing.{is_fact}
use Rattle.cep_term.specs.BagLaws.{BagLaws}
use Rattle.cep_rule.specs.State.{joined, IsState}
use Rattle.cep_round.specs.Rounds.{needs, gives, all_need, all_give, AreAdmitted, Together}
use Rattle.cep_round.specs.RoundLaws.{RoundLaws}
use Rattle.cep_round.proofs.Admitted.{join_count}
use Rattle.cep_round.proofs.Orders.{needs_is, gives_is}

-- Offers that are done one after another are steps of the machine.

derivations : (program : Parts) (height : ℕ) (atoms : List AtomTree) → AllByRecursion (IsDerivable program height) atoms → (proofs : List ProofTree) × AreProofs program height proofs atoms
derivations program height [] all = ([], tt)
derivations program height (a ∷ atoms) all = let later = derivations program height atoms all.1 in (all.0.proof ∷ later.0, (all.0.proves, all.0.low, later.1))

-- a rule of a stage's own group leaves no stage
stays_in_stage : (rule : Rule) (stage : ℕ) → rule.group ≡ own_group stage → IsSome rule.next ↔ (rule.group % 2 ≡ 1) → stage ≡ stage_after rule stage
stays_in_stage rule stage grouped leaves = grind (arith, rule.next, rule.group, leaves.0)

pub machine_steps : (program : Parts) (kept : IsProgram program) (height stage : ℕ) (order : List Offer) (state last : Multiset) → AllByRecursion (IsInGroup program (own_group stage)) order → AllByRecursion (MakesFitAtoms program) order → FitOnTheWay program height state order → AreOffersDone program height state order last → AreMachineSteps program height stage state order last
machine_steps program kept height stage [] state last grouped fit fits done = done
machine_steps program kept height stage (offer ∷ order) state last grouped fit fits done =
    let next = done.0 in
    let self : IsOfferDone program height state next offer = done.1 in
    let applies = self.applies in
    let rule = applies.rule in
    let group : IsInGroup program (own_group stage) offer = grouped.0 in
    let same : group.rule ≡ rule = some_same group.rule rule (sym group.numbered ∙ applies.numbered) in
    let own : rule.group ≡ own_group stage = ap (λ (r : Rule). r.group) (sym same) ∙ group.grouped in
    let proofs = derivations program height (full_instances offer.values rule.backs) applies.derivable in
    let is_grouped = holds_at (IsGroupedRule _) program.rules offer.rule rule kept.grouped applies.numbered in
    let made : MakesFit rule offer.values = subst (λ found. IfSome found (λ rule. MakesFit rule offer.values)) applies.numbered fit.0 in (
      next,
      rule,
      proofs.0,
      record {
        numbered = applies.numbered;
        values = applies.values;
        in_turn = inl own;
        proved = proofs.1;
        steps = record { fit = made; step = self.step; fits = fits (offer ∷ []) order next refl (next, self, refl); stage = stays_in_stage rule stage own is_grouped.leaves };
      },
      machine_steps program kept height stage order next last grouped.1 fit.1
          (λ front rest reached e are. fits (offer ∷ front) rest reached (ap (λ offers. offer ∷ offers) e) (next, self, are)) done.2,
    )

-- Atoms of a rule that are gone through one by one.

-- the atoms of premises, and of those that stay
abbrev pub atoms_among : List PremiseTree → List AtomTree
atoms_among premises = map (λ premise. premise.atom) premises

abbrev pub stay_among : Signature → List PremiseTree → List AtomTree
stay_among signature premises = atoms_among (filter (λ premise. premise.kept || is_fact signature premise.atom) premises)

-- one atom more
pub next_right : (values : List Tree) (atoms : List AtomTree) (n : ℕ) (a : AtomTree) → slice_get atoms n ≡ Some a → full_instances values (take (n + 1) atoms) ≡ full_instances values (take n atoms) ++ full_instance values a ∷ []
next_right values atoms n a is = rw (take_next atoms n a is) (map_last (full_instance values) (take n atoms) a)

pub next_premise : (values : List Tree) (premises : List PremiseTree) (n : ℕ) (premise : PremiseTree) → slice_get premises n ≡ Some premise → full_instances values (atoms_among (take (n + 1) premises)) ≡ full_instances values (atoms_among (take n premises)) ++ full_instance values premise.atom ∷ []
next_premise values premises n premise is = grind (arith, take_next premises n premise is, map_last, premise.atom)

-- those that stay, with one premise more
pub next_staying : (signature : Signature) (values : List Tree) (premises : List PremiseTree) (n : ℕ) (premise : PremiseTree) (t : Bool) → slice_get premises n ≡ Some premise → (premise.kept || is_fact signature premise.atom) ≡ t
    → full_instances values (stay_among signature (take (n + 1) premises)) ≡ full_instances values (stay_among signature (take n premises)) ++ cond t (full_instance values premise.atom ∷ []) []
next_staying signature values premises n premise t is stays = grind (arith, take_next premises n premise is, filter-append (λ (p : PremiseTree). p.kept || is_fact signature p.atom) (take n premises) (premise ∷ []), map-append)

-- some atoms more at the end of others
pub added_next : (initial prefix next more old new : List AtomTree) → next ≡ prefix ++ more → old ≡ initial ++ prefix → new ≡ old ++ more → new ≡ initial ++ next
added_next initial prefix next more old new longer so_far gained = rw (gained, so_far, longer) (append_assoc initial prefix more)

pub added_same : (initial prefix next old : List AtomTree) → next ≡ prefix ++ [] → old ≡ initial ++ prefix → old ≡ initial ++ next
added_same initial prefix next old longer so_far = rw (longer, append-nil prefix) so_far

-- A round has one outcome, and leaves a rest alone.

pub one_flags : (program : Parts) (state used : Multiset) (offers : List Offer) (one other : List Bool) → AreAdmitted program state used offers one → AreAdmitted program state used offers other → one ≡ other
one_flags program state used (offer ∷ offers) (true ∷ one) (true ∷ other) are are' = grind (arith, one_flags program state (joined program.signature used (needs program offer)) offers one other are.1 are'.1, program.signature)
one_flags program state used (offer ∷ offers) (false ∷ one) (false ∷ other) are are' = grind (arith, one_flags program state used offers one other are.1 are'.1)
one_flags program state used offers one other are are' = grind arith

pub one_together : BagLaws → (program : Parts) (offers : List Offer) (old one other : Multiset) → IsBag one → IsBag other → Together program offers old one → Together program offers old other → one ≡ other
one_together laws program offers old one other bag bag' is is' = laws.equal one other bag bag' (λ a. is.counts a ∙ sym (is'.counts a))

moved_over : (t : Bool) (l r o : ℕ) → held t (o - l + r) ≡ held t (r + (o - l))
moved_over t l r o = ap (held t) (omega arith)

put_back : (t : Bool) (l o : ℕ) → (t ≡ true → o ≤ 1) → l ≤ o → o ≡ held t (l + (o - l))
put_back t l o one within = grind arith

module _ (laws : RoundLaws) (program : Parts) (kept : IsProgram program) where
  -- both sides of offers that apply are multisets of ground atoms
  sides_bags : (height : ℕ) (state : Multiset) (offers : List Offer) → AllByRecursion (Applies program height state) offers → IsBag (all_need program offers) × IsBag (all_give program offers)
  sides_bags height state [] all = (laws.bags.empty_kept, laws.bags.empty_kept)
  sides_bags height state (offer ∷ offers) all =
      let applies : Applies program height state offer = all.0 in
      let typed = holds_at (IsTypedRule program.signature) program.rules offer.rule applies.rule kept.typed_rules applies.numbered in
      let later = sides_bags height state offers all.1 in
      let left = subst IsBag (sym (needs_is program offer applies.rule applies.numbered)) (laws.left program.signature applies.rule offer.values typed applies.values) in
      let right = subst IsBag (sym (gives_is program offer applies.rule applies.numbered)) (laws.right program.signature applies.rule offer.values typed applies.values) in (
        laws.bags.once_kept (is_fact program.signature) _ (laws.bags.sum_kept (needs program offer) (all_need program offers) left later.0),
        laws.bags.once_kept (is_fact program.signature) _ (laws.bags.sum_kept (gives program offer) (all_give program offers) right later.1),
      )

  pub leaves_rest : (height : ℕ) (offers : List Offer) (old new : Multiset) → IsState program.signature old → IsBag new → AllByRecursion (Applies program height old) offers → Together program offers old new → LeavesRest program offers old new
  leaves_rest height offers old new is bag all together =
      let both = sides_bags height old offers all in
      let need = all_need program offers in
      let give = all_give program offers in
      let rest = difference_of old need in
      let rest_bag = laws.bags.difference_kept old need is.bag both.0 in
      record {
        rest = rest;
        bag = rest_bag;
        once = λ a fact. let few = is.once a fact in let less = laws.bags.difference old need a in omega arith;
        before = laws.bags.equal old (joined program.signature need rest) is.bag (laws.bags.once_kept (is_fact program.signature) _ (laws.bags.sum_kept need rest both.0 rest_bag))
            (λ a. rw (join_count laws.bags program need rest a, laws.bags.difference old need a) (put_back (is_fact program.signature a) (count_of need a) (count_of old a) (is.once a) (together.contained a)));
        after = laws.bags.equal new (joined program.signature give rest) bag (laws.bags.once_kept (is_fact program.signature) _ (laws.bags.sum_kept give rest both.1 rest_bag))
            (λ a. together.counts a ∙ moved_over (is_fact program.signature a) (count_of need a) (count_of give a) (count_of old a)
            ∙ sym (join_count laws.bags program give rest a ∙ ap (λ n. held (is_fact program.signature a) (count_of give a + n)) (laws.bags.difference old need a)));
      }
