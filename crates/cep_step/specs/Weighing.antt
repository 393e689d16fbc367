-- Private.
-- What is asked where a step is weighed, and what weighing an edit comes to.
use Rattle.std.specs.Prelude.{◌≡◌, ◌+◌, ◌<◌, ◌≤◌, List, length, IfSome}
use Rattle.std.specs.List.{AllByRecursion}
use Rattle.cep_base.specs.declared.limits.TheConstants.{MOST_PREMISES, MOST_RIGHT, MOST_STAGES}
use Rattle.cep_term.specs.Tree.{Tree, AtomTree, IsGroundAtom, IsFit}
use Rattle.cep_term.specs.Multiset.{Multiset, gathered, nodes_in_all, IsContained, IsBag}
use Rattle.cep_rule.specs.declared.rule.Rule.{Rule}
use Rattle.cep_rule.specs.declared.parts.Parts.{Parts}
use Rattle.cep_rule.specs.Typing.{AreValues}
use Rattle.cep_rule.specs.Limits.{IsSmallRule}
use Rattle.cep_rule.specs.Instances.{left_of}
use Rattle.cep_rule.specs.Program.{IsTypedRule, IsDividedRule}
use Rattle.cep_rule.specs.State.{Fits}
use Rattle.cep_rule.specs.Steps.{Spot}
use Rattle.cep_step.specs.Spots.{IsSpotOf}
use Rattle.cep_step.specs.declared.weighing.Weight.{Weight}
use Rattle.cep_step.specs.declared.weighing.Weight.TheVariants as weight
use Rattle.cep_step.specs.Passing.{IsTooFull}

-- A step can be done: its rule is one that a program may have, its values are of the types of the
-- rule's variables, and the state, which is one of the program's, contains the left side.
pub record IsReady (program : Parts) (rule : Rule) (values : List Tree) (spot : Spot) : Type 0 where
  pub typed : IsTypedRule program.signature rule
  pub divided : IsDividedRule program.signature rule
  pub small : IsSmallRule rule
  pub next : IfSome rule.next (λ stage. stage < length program.stages)
  pub few_stages : length program.stages ≤ MOST_STAGES
  pub are : AreValues program.signature.cons rule.kinds values
  pub contained : IsContained (left_of program.signature rule values) spot.state
  pub here : IsSpotOf program spot

-- What must be known to weigh an edit: what is taken is there, few atoms are taken and gained, and
-- all are fit.
pub record CanWeigh (state : Multiset) (taken gains : List AtomTree) : Type 0 where
  pub bag : IsBag state
  pub fits : Fits state
  pub contained : IsContained (gathered taken) state
  pub taken_ground : AllByRecursion IsGroundAtom taken
  pub taken_fit : AllByRecursion IsFit taken
  pub gains_fit : AllByRecursion IsFit gains
  pub few_taken : length taken ≤ MOST_PREMISES
  pub few_gains : length gains ≤ MOST_PREMISES + MOST_RIGHT

-- What weighing an edit to this state comes to: what it has too much of, or that it fits, and its
-- nodes.
abbrev pub IsWeight : Multiset → Weight → Type 0
IsWeight new (weight.TooFull number) = IsTooFull new number
IsWeight new (weight.Fits nodes) = Fits new × (nodes ≡ nodes_in_all new)
