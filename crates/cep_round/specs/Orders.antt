-- Offers that are done one after another, and what an order of them comes to.
use Rattle.std.specs.Prelude.{◌≡◌, ℕ, List, [], ◌∷◌, ◌++◌, slice_get, IfSome}
use Rattle.std.specs.List.{AllByRecursion}
use Rattle.cep_base.specs.declared.limits.TheConstants.{MOST_HEIGHT}
use Rattle.cep_term.specs.Multiset.{Multiset, IsBag, IsOnce}
use Rattle.cep_rule.specs.declared.rule.Rule.{Rule}
use Rattle.cep_rule.specs.declared.parts.Parts.{Parts}
use Rattle.cep_rule.specs.declared.offer.Offer.{Offer}
use Rattle.cep_rule.specs.Typing.{is_fact}
use Rattle.cep_rule.specs.State.{joined, Fits}
use Rattle.cep_rule.specs.Offers.{Applies}
use Rattle.cep_rule.specs.Step.{Step}
use Rattle.cep_rule.specs.Derivations.{ProofTree}
use Rattle.cep_rule.specs.Steps.{MakesFit, IsMachineStep}
use Rattle.cep_round.specs.Rounds.{all_need, all_give}

-- An offer is done: it applies to the old state, and its step leads to the new one.
pub record IsOfferDone (program : Parts) (height : ℕ) (old new : Multiset) (offer : Offer)
    : Type 0 where
  pub applies : Applies program height old offer
  pub step : Step program.signature applies.rule offer.values old new

-- The offers are done one after another, from one state to the last: each applies to the state that
-- it finds.
abbrev pub AreOffersDone : Parts → ℕ → Multiset → List Offer → Multiset → Type 0
AreOffersDone program height state [] last = last ≡ state
AreOffersDone program height state (offer ∷ offers) last =
    (next : Multiset) × IsOfferDone program height state next offer
    × AreOffersDone program height next offers last

-- All atoms that the offer makes are fit.
abbrev pub MakesFitAtoms : Parts → Offer → Type 0
MakesFitAtoms program offer =
    IfSome (slice_get program.rules offer.rule) (λ rule. MakesFit rule offer.values)

-- Wherever the offers before it were done, each offer applies to the state that it finds, within
-- every height within which it applied to the first state.
abbrev pub KeepHeights : Parts → Multiset → List Offer → Type 0
KeepHeights program state order =
    (prefix later : List Offer) (offer : Offer) (height other : ℕ) (found : Multiset)
    → order ≡ prefix ++ offer ∷ later → AreOffersDone program other state prefix found
    → Applies program height state offer → Applies program height found offer

-- The offers lead from one state to the last in this order: they can be done one after another, if
-- all that they make is fit, each within every height within which it applied to the first state;
-- and they come to no other state.
pub record LeadInOrder (program : Parts) (order : List Offer) (state last : Multiset) : Type 0 where
  pub done : AllByRecursion (MakesFitAtoms program) order
      → AreOffersDone program MOST_HEIGHT state order last
  pub heights : KeepHeights program state order
  pub no_other : (height : ℕ) (other : Multiset) → AreOffersDone program height state order other
      → other ≡ last

-- The offers lead from one state to another beside a rest, as a step does: it is left alone, and
-- beside it all left sides go and all right sides come.
pub record LeavesRest (program : Parts) (offers : List Offer) (old new : Multiset) : Type 0 where
  pub rest : Multiset
  pub bag : IsBag rest
  pub once : IsOnce (is_fact program.signature) rest
  pub before : old ≡ joined program.signature (all_need program offers) rest
  pub after : new ≡ joined program.signature (all_give program offers) rest

-- Each state to which a prefix of the offers leads fits.
abbrev pub FitOnTheWay : Parts → ℕ → Multiset → List Offer → Type 0
FitOnTheWay program height state offers =
    (prefix later : List Offer) (next : Multiset)
    → offers ≡ prefix ++ later → AreOffersDone program height state prefix next → Fits next

-- The offers are steps of the machine, one after another, and the stage stays.
abbrev pub AreMachineSteps : Parts → ℕ → ℕ → Multiset → List Offer → Multiset → Type 0
AreMachineSteps program height stage state [] last = last ≡ state
AreMachineSteps program height stage state (offer ∷ offers) last =
    (next : Multiset) × (rule : Rule) × (proofs : List ProofTree)
    × IsMachineStep program height (record { stage = stage; state = state })
    (record { stage = stage; state = next }) offer rule proofs
    × AreMachineSteps program height stage next offers last
