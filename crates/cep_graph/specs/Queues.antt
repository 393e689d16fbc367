-- Private.
-- What is kept of the tokens that are present: of each atom that was met a queue of traces, one for
-- each of its tokens, by increasing number.
use Rattle.std.specs.Prelude.{◌≡◌, ℕ, List, [], ◌∷◌, length, cond, Some, slice_get, refl}
use Rattle.std.specs.Coded.{Coded, code_by, coded×, coded_list}
use Rattle.std.specs.Ordering.{eq_by_cmp}
use Rattle.cep_term.specs.Tree.{AtomTree}
use Rattle.cep_term.specs.Order.{atom_cmp}
use Rattle.cep_term.specs.Codes.{atom_code}
use Rattle.cep_store.specs.Held.{AreApart}
use Rattle.cep_graph.specs.declared.trace.Trace.{Trace}
use Rattle.cep_graph.specs.contracts.trace.Trace as of_trace

-- The atoms that were met, each at the place that is its id, and the queue of each at that place.
pub record Queues : Type 0 where
  pub atoms : List AtomTree
  pub rows : List (List Trace)

-- queues are stored as the pair of their lists
abbrev pub queues_code : Coded Queues
queues_code =
    code_by (List AtomTree × List (List Trace))
    (coded× (coded_list atom_code) (coded_list (coded_list of_trace.the_row.coded)))
    (λ queues. (queues.atoms, queues.rows))
    (λ parts. record { atoms = parts.0; rows = parts.1 }) (λ _. refl)

-- Each atom was met once, and has a queue.
pub record AreQueues (queues : Queues) : Type 0 where
  pub apart : AreApart queues.atoms
  pub long : length queues.rows ≡ length queues.atoms

-- the row at the place of the first of the atoms that is this one
abbrev pub row_of : List AtomTree → List (List Trace) → AtomTree → List Trace
row_of [] rows a = []
row_of (first ∷ atoms) [] a = []
row_of (first ∷ atoms) (row ∷ rows) a = cond (eq_by_cmp atom_cmp first a) row (row_of atoms rows a)

-- the queue of an atom, which is empty if the atom was not met
abbrev pub queue_of : Queues → AtomTree → List Trace
queue_of queues a = row_of queues.atoms queues.rows a

-- The atom has this id.
abbrev pub IsIdOf : Queues → ℕ → AtomTree → Type 0
IsIdOf queues id a = slice_get queues.atoms id ≡ Some a

-- Each id is of the same atom.
abbrev pub KeepsIds : Queues → Queues → Type 0
KeepsIds old new = (id : ℕ) (a : AtomTree) → IsIdOf old id a → IsIdOf new id a

-- One atom's queue is changed so, and all others stay.
pub record Changes (a : AtomTree) (change : List Trace → List Trace) (old new : Queues)
    : Type 0 where
  pub atoms : new.atoms ≡ old.atoms
  pub queues : (b : AtomTree)
      → queue_of new b ≡ cond (eq_by_cmp atom_cmp a b) (change (queue_of old b)) (queue_of old b)

-- An atom has an id now, and all queues and ids stay.
pub record GetsId (old : Queues) (a : AtomTree) (id : ℕ) (new : Queues) : Type 0 where
  pub met : IsIdOf new id a
  pub queues : (b : AtomTree) → queue_of new b ≡ queue_of old b
  pub ids : KeepsIds old new
