use Rattle.std.proofs.Common.{rules, arith, ◌≡◌, ◌∙◌, sym, ap, ℕ, zero, suc, List, [], ◌∷◌, Some, length, slice_get}
use Rattle.std.proofs.lemmas.Fn.{always_returns_same}
use Rattle.std.proofs.lemmas.Option.{get_or_from_slice_get, slice_get_within}
use Rattle.cep_term.specs.declared.entries.Entry.{Entry}
use Rattle.cep_term.specs.Tree.{AtomTree, atom_of}
use Rattle.cep_term.specs.Entries.{IsAt, entry_of, entries_of}
use Rattle.cep_term.specs.Order.{atom_cmp}
use Rattle.cep_base.specs.Sorted.{IsIncreasing}
use Rattle.cep_base.proofs.Sorted.{searched, in_bounds, increasing_from_sorted, gap_at_end, below_at}
use Rattle.cep_term.proofs.OrderLaws.{atom_cmp_total, atom_cmp_ties}
use Rattle.cep_term.proofs.entries.place.Goals as goal

-- the closure compares an entry's atom with the one that is sought, and changes nothing
pub returns-in-Greater : goal.returns-in-Greater
returns-in-Greater c =
    let facts = c.binary_search_by.ensures in
    let atom = atom_of c.args.a.now in
    let entries = c.args.entries.now in
    let rising = increasing_from_sorted atom_cmp (entries_of entries) c.requires in
    let ends = searched (λ e. e.0) atom_cmp entry_of atom_cmp_total atom_cmp_ties atom entries _ rising facts.bound
    (facts.position (λ entry. atom_cmp (entry_of entry).0 atom) (always_returns_same _ _ _ (λ a r f called. search rules))) in
    let bounds = in_bounds _ (length entries) facts.bound in
    record { found = ends.found; absent = ends.absent; found_in_range = bounds.0; absent_in_range = bounds.1 }

pub returns-in-Less-clause-absent : goal.returns-in-Less-clause-absent
returns-in-Less-clause-absent c =
    let entries = c.args.entries.now in
    let last = c.in-Some.last.now in
    gap_at_end (λ e. e.0) atom_cmp entry_of atom_cmp_total (atom_of c.args.a.now) entries last (increasing_from_sorted atom_cmp (entries_of entries) c.requires)
    (sym (get_or_from_slice_get entries _ last last (sym c.in-Some.ensures.value))) (grind (arith, c.deref.ensures, c.order.ensures, c.in-Less.is))

-- an entry that is of the atom that is sought
place_read : (entries : List Entry) (a : AtomTree) (i : ℕ) (x : Entry) → IsIncreasing (λ e. e.0) atom_cmp (entries_of entries) → slice_get entries i ≡ Some x → atom_of x.atom.value ≡ a → IsAt (entries_of entries) a i
place_read [] a i x up is same = cc
place_read (y ∷ entries) a zero x up is same = grind (arith, is, same)
place_read (y ∷ entries) a (suc i) x up is same = (
  sym (ap (λ e. atom_cmp (entry_of y).0 (entry_of e).0) (get_or_from_slice_get entries i x x is) ∙ ap (atom_cmp (entry_of y).0) same)
      ∙ below_at (λ e. e.0) atom_cmp entry_of (entry_of y).0 entries i x up.0 (slice_get_within entries i x is),
  place_read entries a i x up.1 is same,
)

pub returns-in-Equal-clause-found : goal.returns-in-Equal-clause-found
returns-in-Equal-clause-found c =
    let entries = c.args.entries.now in
    place_read entries (atom_of c.args.a.now) _ c.in-Some.last.now (increasing_from_sorted atom_cmp (entries_of entries) c.requires) (sym c.in-Some.ensures.value)
    (grind (arith, atom_cmp_ties, c.deref.ensures, c.order.ensures, c.in-Equal.is))
