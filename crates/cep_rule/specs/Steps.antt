-- Steps of the stage machine: from a stage and a state to the next ones, and what proves the backward premises of a step.
use Rattle.std.specs.Prelude.{◌≡◌, ◌⊎◌, ℕ, ◌≤◌, List, [], ◌∷◌, Some, slice_get, unwrap_or}
use Rattle.std.specs.List.{AllByRecursion}
use Rattle.cep_term.specs.Tree.{Tree, AtomTree, IsFit}
use Rattle.cep_term.specs.Multiset.{Multiset}
use Rattle.cep_rule.specs.declared.rule.Rule.{Rule}
use Rattle.cep_rule.specs.declared.parts.Parts.{Parts}
use Rattle.cep_rule.specs.declared.offer.Offer.{Offer}
use Rattle.cep_rule.specs.Typing.{AreValues}
use Rattle.cep_rule.specs.State.{Fits}
use Rattle.cep_rule.specs.Instances.{full_instances}
use Rattle.cep_rule.specs.Derivations.{ProofTree, Proves, proof_height}
use Rattle.cep_rule.specs.Stages.{own_group, leaving_group, HasOffer}
use Rattle.cep_rule.specs.Step.{Step}

-- Where the machine stands: a stage and a state.
pub record Spot : Type 0 where
  pub stage : ℕ
  pub state : Multiset

-- where every run of a program begins
abbrev pub start_spot : Parts → Spot
start_spot program = record { stage = program.start_stage; state = program.start }

-- All atoms that the rule makes are fit.
abbrev pub MakesFit : Rule → List Tree → Type 0
MakesFit rule values = AllByRecursion IsFit (full_instances values rule.right)

-- the stage after a step by the rule: the one that it names, and the old one where it names none
abbrev pub stage_after : Rule → ℕ → ℕ
stage_after rule stage = unwrap_or rule.next stage

-- A step of the machine by a rule with values for its variables: all atoms that it makes are fit, the state is the one after the step and fits, and the stage is the one after the rule.
pub record StepsTo (program : Parts) (rule : Rule) (values : List Tree) (old new : Spot) : Type 0 where
  pub fit : MakesFit rule values
  pub step : Step program.signature rule values old.state new.state
  pub fits : Fits new.state
  pub stage : new.stage ≡ stage_after rule old.stage

-- The derivations prove these atoms, one each in order, and none is higher than the height.
abbrev pub AreProofs : Parts → ℕ → List ProofTree → List AtomTree → Type 0
AreProofs program height [] [] = Unit {0}
AreProofs program height [] (atom ∷ atoms) = ⊥
AreProofs program height (proof ∷ proofs) [] = ⊥
AreProofs program height (proof ∷ proofs) (atom ∷ atoms) =
    Proves program proof atom × (proof_height proof ≤ height) × AreProofs program height proofs atoms

-- A step of the machine by an offer, seen by itself: its rule is of the stage, or leaves it where none of its own rules has an offer; the derivations prove the backward premises; and it leads from one spot to the other.
pub record IsMachineStep (program : Parts) (height : ℕ) (old new : Spot) (offer : Offer) (rule : Rule) (proofs : List ProofTree) : Type 0 where
  pub numbered : slice_get program.rules offer.rule ≡ Some rule
  pub values : AreValues program.signature.cons rule.kinds offer.values
  pub in_turn : (rule.group ≡ own_group old.stage) ⊎ ((rule.group ≡ leaving_group old.stage) × ¬ HasOffer program height old.state (own_group old.stage))
  pub proved : AreProofs program height proofs (full_instances offer.values rule.backs)
  pub steps : StepsTo program rule offer.values old new
