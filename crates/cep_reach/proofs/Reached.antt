-- What moves lead to is in the table of some round, so a dead rule never applies.
use Rattle.std.proofs.Common.{◌≡◌, ◌⊎◌, ⊎_elim, inl, inr, ℕ, suc, ◌<◌, ◌≤◌, max, Bool, List, [], ◌∷◌, ◌++◌, map, Contains, Option, Some, None, unwrap_or, slice_get, refl, sym, ap, subst, ◌∙◌, arith}
use Rattle.std.specs.Prelude.{filter}
use Rattle.std.specs.List.{AllByRecursion}
use Rattle.std.proofs.lemmas.List.{map-append}
use Rattle.cep_base.proofs.Lists.{holds_at}
use Rattle.cep_base.proofs.Elements.{both_all, all_at, all_of, contains_at, contains_same, contains_behind, contains_cases, contains_either, contains_map, map_cases}
use Rattle.cep_term.specs.Tree.{Tree, AtomTree}
use Rattle.cep_term.specs.Multiset.{Multiset, count_of, IsContained}
use Rattle.cep_rule.specs.Program.{IsTypedRule, IsProgram}
use Rattle.cep_rule.specs.declared.rule.Rule.{Rule}
use Rattle.cep_rule.specs.declared.parts.Parts.{Parts}
use Rattle.cep_rule.specs.declared.offer.Offer.{Offer}
use Rattle.cep_rule.specs.Patterns.{PremiseTree}
use Rattle.cep_rule.specs.Binding.{needed_of}
use Rattle.cep_rule.specs.Typing.{IsTyped}
use Rattle.cep_rule.specs.Instances.{full_instance, full_instances, kept_of, left_of}
use Rattle.cep_rule.specs.Offers.{Applies}
use Rattle.cep_rule.specs.Step.{Step}
use Rattle.cep_rule.specs.Steps.{Spot}
use Rattle.cep_reach.specs.Tables.{of_stage, IsOpen}
use Rattle.cep_reach.specs.Rounds.{stage_of, premises_of, RulePasses, IsInRound, IsDead}
use Rattle.cep_reach.specs.Moves.{first_spot, Moves, AreMoves}
use Rattle.cep_reach.proofs.Growing.{instances_pass, instance_opened, open_later, later_item, later_open, later_all, all_derived_open}

-- A stage and a state are in the table of a round.
pub record IsInTable (program : Parts) (round : ℕ) (spot : Spot) : Type 0 where
  pub stage : IsInRound program round (of_stage spot.stage)
  pub atoms : (a : AtomTree) → 0 < count_of spot.state a → IsOpen (IsInRound program round) a

-- an element that a filter keeps is one of the list
kept_needed : (test : PremiseTree → Bool) (premises : List PremiseTree) (a : AtomTree) → Contains (map (λ premise. premise.atom) (filter test premises)) a → Contains (map (λ premise. premise.atom) premises) a
kept_needed test [] a there = there
kept_needed test (premise ∷ premises) a there = grind (arith, contains_same, contains_behind, contains_cases, kept_needed test premises a, premise.atom)

pub start_in_table : (program : Parts) → IsInTable program 0 (first_spot program)
start_in_table program = grind arith

module _ (program : Parts) (kept : IsProgram program)
    (needed : (rule : Rule) (values : List Tree) (state : Multiset) (a : AtomTree) → IsContained (left_of program.signature rule values) state → Contains (full_instances values (needed_of rule)) a → 0 < count_of state a)
    (come : (rule : Rule) (values : List Tree) (old new : Multiset) (a : AtomTree) → Step program.signature rule values old new → 0 < count_of new a → Contains (full_instances values (rule.right ++ kept_of program.signature rule)) a ⊎ (0 < count_of old a))
  where
    typed_at : (number : ℕ) (rule : Rule) → slice_get program.rules number ≡ Some rule → IsTypedRule program.signature rule
    typed_at number rule numbered = holds_at (IsTypedRule program.signature) program.rules number rule kept.typed_rules numbered

    -- All premises of an instance are open in the table of a round, which is no earlier than one.
    record AllOpenFrom (from : ℕ) (rule : Rule) (values : List Tree) : Type 0 where
      round : ℕ
      later : from ≤ round
      opened : AllByRecursion (IsOpen (IsInRound program round)) (full_instances values (premises_of rule))

    premises_open : (height round : ℕ) (spot : Spot) (offer : Offer) → IsInTable program round spot → (applies : Applies program height spot.state offer) → AllOpenFrom round applies.rule offer.values
    premises_open height round spot offer is applies =
        let rule = applies.rule in
        let backs = all_derived_open program kept height (full_instances offer.values rule.backs) applies.derivable in
        let both = max round backs.round in
        record {
          round = both;
          later = omega arith;
          opened = subst (AllByRecursion (IsOpen (IsInRound program both))) (sym (map-append (full_instance offer.values) (needed_of rule) rule.backs))
              (both_all (IsOpen (IsInRound program both)) (full_instances offer.values (needed_of rule)) (full_instances offer.values rule.backs)
              (all_of (IsOpen (IsInRound program both)) (full_instances offer.values (needed_of rule)) (λ a there. later_open program round both (omega arith) a (is.atoms a (needed rule offer.values spot.state a applies.contained there))))
              (later_all program backs.round both (omega arith) (full_instances offer.values rule.backs) backs.opened));
        }

    typed_premises : (number : ℕ) (rule : Rule) → slice_get program.rules number ≡ Some rule → AllByRecursion (IsTyped program.signature rule.kinds) (premises_of rule)
    typed_premises number rule numbered = let typed = typed_at number rule numbered in both_all (IsTyped program.signature rule.kinds) (needed_of rule) rule.backs typed.premises typed.backs

    passes : (height round : ℕ) (spot : Spot) (offer : Offer) (applies : Applies program height spot.state offer) (opened : AllOpenFrom round applies.rule offer.values) → IsInTable program round spot → stage_of applies.rule ≡ spot.stage → RulePasses program (IsInRound program opened.round) applies.rule
    passes height round spot offer applies opened is of_stage_is = record {
      stage = later_item program round opened.round opened.later _ (subst (λ k. IsInRound program round (of_stage k)) (sym of_stage_is) is.stage);
      premises = instances_pass program.signature (IsInRound program opened.round) applies.rule.kinds offer.values (premises_of applies.rule) applies.values (typed_premises offer.rule applies.rule applies.numbered) opened.opened;
    }

    -- a move leads into the table of a further round
    moved : (height round : ℕ) (old new : Spot) → IsInTable program round old → Moves program height old new → (next : ℕ) × IsInTable program next new
    moved height round old new is move =
        let applies = move.applies in
        let rule = applies.rule in
        let values = move.offer.values in
        let opened = premises_open height round old move.offer is applies in
        let table = IsInRound program opened.round in
        let does = passes height round old move.offer applies opened is move.of_stage in
        let there = contains_at program.rules move.offer.rule rule applies.numbered in
        let typed = typed_at move.offer.rule rule applies.numbered in
        let next = suc opened.round in
        let before : (a : AtomTree) → 0 < count_of old.state a → IsOpen (IsInRound program next) a = λ a some. later_open program round next (let late = opened.later in omega arith) a (is.atoms a some) in
        let right : (b : AtomTree) → Contains rule.right b → IsOpen (IsInRound program next) (full_instance values b) = λ b in_right.
        open_later _ (IsInRound program next) (λ item made. inr (inl (record { rule = rule; of_program = there; passes = does; made = inl (b, in_right, made) }))) (full_instance values b)
        (instance_opened program.signature table rule.kinds values (premises_of rule) applies.values (typed_premises move.offer.rule rule applies.numbered) opened.opened b (all_at (IsTyped program.signature rule.kinds) rule.right b typed.right in_right)) in
        let stays : (b : AtomTree) → Contains (kept_of program.signature rule) b → IsOpen (IsInRound program next) (full_instance values b) = λ b in_kept.
        before (full_instance values b) (needed rule values old.state (full_instance values b) applies.contained (contains_map (full_instance values) (needed_of rule) b (kept_needed _ rule.premises b in_kept))) in
        let by_next : (o : Option ℕ) → rule.next ≡ o → IsInRound program next (of_stage (unwrap_or o old.stage)) = stage_by opened.round rule there does old.stage (later_item program round next (let late = opened.later in omega arith) _ is.stage) in (
          next,
          record {
            stage = subst (λ k. IsInRound program next (of_stage k)) (sym move.stage) (by_next rule.next refl);
            atoms = λ a some. ⊎_elim
                (λ made.
                let from = map_cases (full_instance values) (rule.right ++ kept_of program.signature rule) a made in
                subst (IsOpen (IsInRound program next)) from.same (⊎_elim (right from.from) (stays from.from) (contains_either rule.right (kept_of program.signature rule) from.from from.there)))
                (before a)
                (come rule values old.state new.state a move.step some);
          },
        )
      where
        stage_by : (round : ℕ) (rule : Rule) → Contains program.rules rule → RulePasses program (IsInRound program round) rule → (stage : ℕ) → IsInRound program (suc round) (of_stage stage) → (o : Option ℕ) → rule.next ≡ o → IsInRound program (suc round) (of_stage (unwrap_or o stage))
        stage_by round rule there does stage is None e = is
        stage_by round rule there does stage is (Some k) e = inr (inl (record { rule = rule; of_program = there; passes = does; made = inr (k, e, refl) }))

    pub all_moved : (height round : ℕ) (at : Spot) (moves : List Spot) (last : Spot) → IsInTable program round at → AreMoves program height at moves last → (reached : ℕ) × IsInTable program reached last
    all_moved height round at [] last is moves = (round, subst (IsInTable program round) (sym moves) is)
    all_moved height round at (next ∷ later) last is moves =
        let one = moved height round at next is moves.0 in
        all_moved height one.0 next later last one.1 moves.1

    pub never_applies : (height round : ℕ) (spot : Spot) (rule : Rule) (offer : Offer) → IsInTable program round spot → IsDead program rule → slice_get program.rules offer.rule ≡ Some rule → stage_of rule ≡ spot.stage → Applies program height spot.state offer → ⊥
    never_applies height round spot rule offer is dead numbered of_stage_is applies =
        let same : applies.rule ≡ rule = some_rule applies.rule rule (sym applies.numbered ∙ numbered) in
        let opened = premises_open height round spot offer is applies in
        dead opened.round (subst (RulePasses program (IsInRound program opened.round)) same (passes height round spot offer applies opened is (ap (λ r. stage_of r) same ∙ of_stage_is)))
      where
        some_rule : (one other : Rule) → Some one ≡ Some other → one ≡ other
        some_rule one other e = ap (λ found. unwrap_or found one) e
