-- States: multisets of ground atoms.
use Rattle.std.specs.Prelude.{◌<◌, ◌≤◌, []}
use Rattle.cep_term.specs.Tree.{AtomTree, IsGroundAtom, IsFit}
use Rattle.cep_term.specs.Multiset.{Multiset, count_of, sum_of, copies_in, nodes_in_all, IsBag, once, IsOnce}
use Rattle.cep_base.specs.declared.limits.TheConstants.{MOST_COPIES, MOST_STATE_NODES}
use Rattle.cep_rule.specs.declared.signature.Signature.{Signature}
use Rattle.cep_rule.specs.Typing.{IsTyped, HasStatePredicate, is_fact}

-- An atom that a state may have: ground, well typed, fit and of a linear predicate or one of facts.
pub record IsStateAtom (signature : Signature) (a : AtomTree) : Type 0 where
  pub ground : IsGroundAtom a
  pub typed : IsTyped signature [] a
  pub of_state : HasStatePredicate signature a
  pub fit : IsFit a

-- A state: a multiset in which each atom that is there may be there, and each fact once at most.
pub record IsState (signature : Signature) (state : Multiset) : Type 0 where
  pub bag : IsBag state
  pub each : (a : AtomTree) → 0 < count_of state a → IsStateAtom signature a
  pub once : IsOnce (is_fact signature) state

-- the sum of two states: the copies of both, but each fact once at most
abbrev pub joined : Signature → Multiset → Multiset → Multiset
joined signature state other = once (is_fact signature) (sum_of state other)

-- A state fits: it has not too many copies, and not too many nodes, each copy counted.
pub record Fits (state : Multiset) : Type 0 where
  pub copies : copies_in state ≤ MOST_COPIES
  pub nodes : nodes_in_all state ≤ MOST_STATE_NODES
