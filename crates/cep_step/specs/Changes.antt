-- What steps do, and what weighing one comes to.
use Rattle.std.specs.Prelude.{◌≡◌, ℕ, ◌<◌, true, List, Some, slice_get, unwrap_or}
use Rattle.std.specs.List.{AllByRecursion}
use Rattle.cep_base.specs.declared.limits.TheConstants.{MOST_STAGES}
use Rattle.cep_term.specs.Tree.{Tree, AtomTree, IsGroundAtom}
use Rattle.cep_term.specs.Multiset.{Multiset, count_of, gathered, sum_of, difference_of, nodes_in_all, IsContained, gained}
use Rattle.cep_rule.specs.declared.parts.Parts.{Parts}
use Rattle.cep_rule.specs.declared.rule.Rule.{Rule}
use Rattle.cep_rule.specs.Typing.{AreValues, is_fact}
use Rattle.cep_rule.specs.Instances.{full_instances, left_of, taken_by, added_by, used_by}
use Rattle.cep_rule.specs.Shapes.{IsSmallTerm}
use Rattle.cep_rule.specs.State.{Fits}
use Rattle.cep_rule.specs.Matching.{state_after}
use Rattle.cep_rule.specs.Steps.{Spot, StepsTo}
use Rattle.cep_offer.specs.Leaving.{LeavesAlone}
use Rattle.cep_step.specs.declared.change.Change.{Change}
use Rattle.cep_step.specs.declared.limit.Limit.TheVariants.{Atom}
use Rattle.cep_step.specs.declared.weighing.Weighed.{Weighed}
use Rattle.cep_step.specs.declared.weighing.Weighed.TheVariants as weighed
use Rattle.cep_step.specs.Passing.{Passes, IsExcess}
use Rattle.cep_step.specs.Spots.{IsSpotOf}

-- the atoms that the state gains by a change: those that are listed, or else all that it adds
abbrev pub gains_of : Change → List AtomTree
gains_of change = unwrap_or change.gains change.added

-- the state after a change: the old one without what is taken, and with what is gained
abbrev pub edited : Multiset → Change → Multiset
edited state change = sum_of (difference_of state change.taken) (gathered (gains_of change))

-- the spot after a change
abbrev pub changed : Spot → Change → Spot
changed spot change = record { stage = change.stage; state = edited spot.state change }

-- A change can be made at a spot: what is taken is there, what is gained is ground, and the state
-- after it fits, with its nodes counted.
pub record CanChange (spot : Spot) (change : Change) : Type 0 where
  pub there : IsContained change.taken spot.state
  pub ground : AllByRecursion IsGroundAtom (gains_of change)
  pub fits : Fits (edited spot.state change)
  pub nodes : change.nodes ≡ nodes_in_all (edited spot.state change)
  pub low : change.stage < MOST_STAGES

-- A rule of a program with values, by which there is a step from a state, whether or not it passes
-- a limit: the values are of the types of its variables, and the state contains the left side.
pub record CanStep (program : Parts) (rule : Rule) (values : List Tree) (state : Multiset)
    : Type 0 where
  pub number : ℕ
  pub numbered : slice_get program.rules number ≡ Some rule
  pub are : AreValues program.signature.cons rule.kinds values
  pub contained : IsContained (left_of program.signature rule values) state

-- A change is that of a step from a spot: it takes what the step uses up, adds what it makes, and
-- gains what of this is not there already; it leaves alone what the step needs beside; and it leads
-- where the step does.
pub record IsChangeOf (program : Parts) (rule : Rule) (values : List Tree) (spot : Spot)
    (change : Change) : Type 0 where
  pub taken : change.taken ≡ gathered (used_by program.signature rule values)
  pub added : change.added ≡ full_instances values rule.right
  pub leaves : LeavesAlone program.signature spot.state change.taken change.added
      (gathered (taken_by program.signature rule values)) (added_by program.signature rule values)
  pub gains : gains_of change
      ≡ gained (is_fact program.signature) (difference_of spot.state change.taken) change.added
  pub no_facts : (a : AtomTree) → is_fact program.signature a ≡ true → count_of change.taken a ≡ 0
  pub after : edited spot.state change
      ≡ state_after program.signature spot.state change.taken change.added
  pub can : CanChange spot change
  pub leads : StepsTo program rule values spot (changed spot change)
  pub of_program : IsSpotOf program (changed spot change)

-- What weighing a step from a spot comes to: it passes a limit by a number, which for an atom is
-- exact where the values are small; or it is within the limits, and this is its change.
abbrev pub IsWeighed : Parts → Rule → List Tree → Spot → Weighed → Type 0
IsWeighed program rule values spot (weighed.Passes limit number) =
    Passes program.signature rule values spot.state limit
    × ((limit ≡ Atom → AllByRecursion IsSmallTerm values)
    → IsExcess program.signature rule values spot.state limit number)
IsWeighed program rule values spot (weighed.Within change) =
    IsChangeOf program rule values spot change
