-- Which group a stage asks, and what is known of a rule that applies.
use Rattle.std.proofs.Common.{◌≡◌, inl, inr, ℕ, ◌<◌, true, false, List, [], ◌∷◌, length, Some, None, refl, ap, subst, arith, zero, suc}
use Rattle.std.specs.Prelude.{◌↔◌, ◌*◌, IsNone, IfSome, MatchOption, Option, slice_get}
use Rattle.cep_term.specs.Multiset.{Multiset, IsContained}
use Rattle.cep_rule.specs.declared.parts.Parts.{Parts}
use Rattle.cep_rule.specs.declared.offer.Offer.{Offer}
use Rattle.cep_rule.specs.Offers.{AreOffers, Applies}
use Rattle.cep_rule.specs.Stages.{own_group, leaving_group, HasOffer, IsAsked, IsQuiet}
use Rattle.cep_rule.specs.Matching.{offers_of, AreListed}
use Rattle.cep_machine.specs.Asking.{unless_none, asked_offers, IsAskedIn}
use Rattle.std.specs.List.{AllByRecursion}
use Rattle.cep_base.proofs.Elements.{contains_at}
use Rattle.cep_base.proofs.Lists.{none_some}
use Rattle.cep_term.specs.Tree.{Tree}
use Rattle.cep_rule.specs.declared.rule.Rule.{Rule}
use Rattle.cep_rule.specs.Typing.{AreValues}
use Rattle.cep_rule.specs.State.{IsState}
use Rattle.cep_rule.specs.Instances.{left_of}
use Rattle.cep_rule.specs.Program.{IsProgram}
use Rattle.cep_rule.specs.Shapes.{IsSmallTerm}
use Rattle.cep_rule.specs.Steps.{Spot}
use Rattle.cep_step.specs.declared.weighing.Weighed.{Weighed}
use Rattle.cep_step.specs.Changes.{CanStep}
use Rattle.cep_machine.specs.Stepping.{IsAskedAt, IsWeighedAt}

-- Which group a stage asks, by the lists of a matcher.

true_false : {A : Type 0} → true ≡ false → A
true_false e = cc

some_offer : (program : Parts) (height : ℕ) (state : Multiset) (group : ℕ) (offers : List Offer) → AreOffers program height state group offers → 0 < length offers → HasOffer program height state group
some_offer program height state group [] are some = absurd (omega arith)
some_offer program height state group (offer ∷ offers) are some = (offer, (are.no_other offer (0, (omega arith), refl)))

no_offer : (program : Parts) (height : ℕ) (state : Multiset) (group : ℕ) (offers : List Offer) → AreOffers program height state group offers → length offers ≡ 0 → HasOffer program height state group → ⊥
no_offer program height state group offers are none has = let there = are.each has.0 has.1 in let within = there.1 in omega arith

-- what the lists say of the group that a stage asks
module _ (program : Parts) (height : ℕ) (held state : Multiset) (lists : List (List Offer)) (stage : ℕ) (are : AreListed program height held lists) (same : held ≡ state) (here : stage < length program.stages) where
  listed : (group : ℕ) → group < 2 * length program.stages → AreOffers program height state group (offers_of lists group)
  listed group few = subst (λ s. AreOffers program height s group (offers_of lists group)) same (are.each group (omega (arith, few, are.groups)))

  has : (group : ℕ) → group < 2 * length program.stages → 0 < length (offers_of lists group) → HasOffer program height state group
  has group few = some_offer program height state group (offers_of lists group) (listed group few)

  has_none : (group : ℕ) → group < 2 * length program.stages → length (offers_of lists group) ≡ 0 → ¬ HasOffer program height state group
  has_none group few = no_offer program height state group (offers_of lists group) (listed group few)

  asks_one : (group : ℕ) → IsAskedIn lists stage group → IsAsked program height state stage group
  asks_one group (inl own) = inl (own.0, has group (omega (arith, own.0, here)) own.1)
  asks_one group (inr leaving) = inr (leaving.0, has_none (own_group stage) (omega (arith, here)) leaving.1, has group (omega (arith, leaving.0, here)) leaving.2)

  not_quiet : (group : ℕ) → IsAsked program height state stage group → ¬ IsQuiet program height state stage
  not_quiet group (inl own) = λ quiet. quiet.0 (subst (HasOffer program height state) own.0 own.1)
  not_quiet group (inr leaving) = λ quiet. quiet.1 (subst (HasOffer program height state) leaving.0 leaving.2)

  both_empty : (own leaving : List Offer) → unless_none own leaving ≡ [] → (length own ≡ 0) × (length leaving ≡ 0)
  both_empty [] leaving none = (refl, ap length none)
  both_empty (offer ∷ own) leaving none = cc

  pub asks : (asked : Option ℕ) → MatchOption asked (asked_offers lists stage ≡ []) (IsAskedIn lists stage) → IfSome asked (IsAsked program height state stage)
  asks None none = tt
  asks (Some group) is = asks_one group is

  pub is_quiet : (asked : Option ℕ) → MatchOption asked (asked_offers lists stage ≡ []) (IsAskedIn lists stage) → IsNone asked ↔ IsQuiet program height state stage
  is_quiet None none =
      let empty = both_empty (offers_of lists (own_group stage)) (offers_of lists (leaving_group stage)) none in
      ((λ e. (has_none (own_group stage) (omega (arith, here)) empty.0, has_none (leaving_group stage) (omega (arith, here)) empty.1)), (λ q. refl))
  is_quiet (Some group) is = ((λ e. true_false e), (λ q. absurd (not_quiet group (asks_one group is) q)))

-- What is known of a rule with values that apply to a state.

-- values of offers that apply are small
abbrev pub SmallValues : Type 0
SmallValues = (program : Parts) (height : ℕ) (state : Multiset) (offer : Offer) → IsProgram program → IsState program.signature state → Applies program height state offer → AllByRecursion IsSmallTerm offer.values

-- a group that has an offer is listed
pub group_listed : (lists : List (List Offer)) (group place : ℕ) (offer : Offer) → slice_get (offers_of lists group) place ≡ Some offer → group < length lists
group_listed [] group place offer is = none_some offer is
group_listed (offers ∷ lists) zero place offer is = omega arith
group_listed (offers ∷ lists) (suc group) place offer is = let rest = group_listed lists group place offer is in omega arith

-- an offer that is listed applies
pub offer_applies : (program : Parts) (height : ℕ) (held state : Multiset) (lists : List (List Offer)) (group place : ℕ) (offer : Offer) → AreListed program height held lists → held ≡ state → slice_get (offers_of lists group) place ≡ Some offer → Applies program height state offer
offer_applies program height held state lists group place offer are same is =
    subst (λ s. Applies program height s offer) same
    ((are.each group (group_listed lists group place offer is)).no_other offer (contains_at (offers_of lists group) place offer is)).applies

-- a step by an offer that applies can be done
pub can_step : (program : Parts) (height : ℕ) (state : Multiset) (offer : Offer) (rule : Rule) → Applies program height state offer → slice_get program.rules offer.rule ≡ Some rule → CanStep program rule offer.values state
can_step program height state offer rule applies numbered =
    let same : applies.rule ≡ rule = cc (applies.numbered, numbered) in
    record {
      number = offer.rule;
      numbered = numbered;
      are = subst (λ (r : Rule). AreValues program.signature.cons r.kinds offer.values) same applies.values;
      contained = subst (λ (r : Rule). IsContained (left_of program.signature r offer.values) state) same applies.contained;
    }

-- the rule and the values that are chosen are those of the offer that was weighed
pub chosen_once : {program : Parts} {lists : List (List Offer)} {place : ℕ} {spot : Spot} {weighed : Weighed} (of : IsWeighedAt program lists place spot weighed) (P : Rule → List Tree → Type 0) → P of.rule of.offer.values → (rule : Rule) (values : List Tree) → IsAskedAt program lists spot.stage place rule values → P rule values
chosen_once of P holds rule values chosen =
    let one : of.offer ≡ record { rule = chosen.number; values = values } = cc (of.offered, chosen.offered) in
    let rules : of.rule ≡ rule = cc (one, of.numbered, chosen.numbered) in
    subst (λ (r : Rule). P r values) rules (subst (P of.rule) (ap (λ (o : Offer). o.values) one) holds)
