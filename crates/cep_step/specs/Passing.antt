-- The limits that a step can pass, and the numbers that pass them.
use Rattle.std.specs.Prelude.{◌≡◌, ◌⊎◌, ℕ, ◌<◌, ◌≤◌, List, Some, take, slice_get}
use Rattle.std.specs.List.{AllByRecursion}
use Rattle.cep_base.specs.declared.limits.TheConstants.{MOST_COPIES, MOST_DEPTH, MOST_NODES, MOST_STATE_NODES}
use Rattle.cep_term.specs.Tree.{Tree, AtomTree, atom_nodes, atom_depth, IsFit}
use Rattle.cep_term.specs.Multiset.{Multiset, copies_in, nodes_in_all}
use Rattle.cep_rule.specs.declared.signature.Signature.{Signature}
use Rattle.cep_rule.specs.declared.rule.Rule.{Rule}
use Rattle.cep_rule.specs.Instances.{full_instances}
use Rattle.cep_rule.specs.State.{Fits}
use Rattle.cep_rule.specs.Step.{Step}
use Rattle.cep_rule.specs.Steps.{MakesFit}
use Rattle.cep_step.specs.declared.limit.Limit.{Limit}
use Rattle.cep_step.specs.declared.limit.Limit.TheVariants.{Atom, State}

-- A step by a rule with values passes a limit: that of an atom where an atom that it makes is not
-- fit; that of a state where all are fit, and the state after it does not fit.
abbrev pub Passes : Signature → Rule → List Tree → Multiset → Limit → Type 0
Passes signature rule values state Atom = ¬ MakesFit rule values
Passes signature rule values state State =
    MakesFit rule values × ((new : Multiset) × Step signature rule values state new × ¬ Fits new)

-- An atom is too large by a number: its nodes where they pass their limit, and else its levels
-- where these pass theirs.
abbrev pub IsTooLarge : AtomTree → ℕ → Type 0
IsTooLarge a number =
    ((MOST_NODES < atom_nodes a) × (number ≡ atom_nodes a))
    ⊎ ((atom_nodes a ≤ MOST_NODES) × (MOST_DEPTH < atom_depth a) × (number ≡ atom_depth a))

-- A state is too full by a number: its copies where they pass their limit, and else its nodes where
-- these pass theirs.
abbrev pub IsTooFull : Multiset → ℕ → Type 0
IsTooFull state number =
    ((MOST_COPIES < copies_in state) × (number ≡ copies_in state))
    ⊎ ((copies_in state ≤ MOST_COPIES) × (MOST_STATE_NODES < nodes_in_all state)
    × (number ≡ nodes_in_all state))

-- The first of the atoms that is not fit exceeds a limit by a number.
pub record IsFirstUnfit (exceeds : AtomTree → ℕ → Type 0) (atoms : List AtomTree) (number : ℕ)
    : Type 0 where
  pub place : ℕ
  pub atom : AtomTree
  pub there : slice_get atoms place ≡ Some atom
  pub before : AllByRecursion IsFit (take place atoms)
  pub over : exceeds atom number

-- The number that passes the limit: that of the first atom that is too large, or that of the state.
abbrev pub IsExcess : Signature → Rule → List Tree → Multiset → Limit → ℕ → Type 0
IsExcess signature rule values state Atom number =
    IsFirstUnfit IsTooLarge (full_instances values rule.right) number
IsExcess signature rule values state State number =
    (new : Multiset) × Step signature rule values state new × IsTooFull new number
