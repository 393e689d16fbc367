-- Edits of a state, entry by entry and in either order.
use Rattle.std.proofs.Common.{◌≡◌, ℕ, ◌+◌, ◌*◌, ◌<◌, ◌≤◌, take, Some, arith, ◌^◌, List, length}
use Rattle.std.proofs.lemmas.List.Sums.{sum_by_push, sum_by-take-le}
use Rattle.std.specs.List.{AllByRecursion}
use Rattle.std.specs.Prelude.{slice_get, sum_by}
use Rattle.std.specs.FinMap as finite
use Rattle.cep_term.specs.BagLaws.{BagLaws}
use Rattle.cep_term.specs.Multiset.{Multiset, nodes_in_all, IsBag, gathered, sum_of, difference_of, copies_in, IsContained}
use Rattle.cep_term.specs.Tree.{AtomTree, atom_nodes, IsGroundAtom}
use Rattle.cep_base.proofs.Lists.{take_next, holds_at}
use Rattle.cep_rule.specs.State.{Fits}

-- The nodes of a state, entry by entry.

-- the nodes of an entry, each copy counted
abbrev pub entry_nodes : AtomTree × ℕ → ℕ
entry_nodes e = e.1 * atom_nodes e.0

-- one entry more
pub next_entry : (state : Multiset) (n : ℕ) (a : AtomTree) (copies : ℕ) → slice_get (finite.entries state) n ≡ Some (a, copies) → sum_by entry_nodes (take (n + 1) (finite.entries state)) ≡ sum_by entry_nodes (take n (finite.entries state)) + copies * atom_nodes a
next_entry state n a copies is = grind (arith, take_next (finite.entries state) n (a, copies) is, sum_by_push)

-- an atom of a state has at most as many nodes as the state
pub atom_within : (state : Multiset) (n : ℕ) (a : AtomTree) (copies : ℕ) → IsBag state → slice_get (finite.entries state) n ≡ Some (a, copies) → atom_nodes a ≤ nodes_in_all state
atom_within state n a copies bag is = grind (arith, next_entry state n a copies is, sum_by-take-le entry_nodes (finite.entries state) (n + 1), holds_at)

-- What is taken and what is added may come in either order.

module _ (laws : BagLaws) (state taken : Multiset) (gains : List AtomTree) (kept : IsBag state) (bag : IsBag taken) (ground : AllByRecursion IsGroundAtom gains) where
  pub taken_behind : IsContained taken state → difference_of (sum_of state (gathered gains)) taken ≡ sum_of (difference_of state taken) (gathered gains)
  taken_behind contained = grind arith

  -- a state that fits has room for what it gains where the state after it fits
  pub room_for_gains : Fits state → Fits (sum_of (difference_of state taken) (gathered gains)) → copies_in state + length gains < 2 ^ 32
  room_for_gains here fits = grind arith
