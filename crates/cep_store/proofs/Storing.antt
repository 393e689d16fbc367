-- What a store holds before and after an atom is interned.
use Rattle.std.proofs.Common.{◌≡◌, ◌⊎◌, ⊎_elim, ℕ, suc, ◌<◌, ◌≤◌, ◌^◌, List, [], ◌∷◌, ◌++◌, length, Contains, Some, refl, sym, subst, length-append, arith}
use Rattle.std.proofs.lemmas.Option.{slice_get_within}
use Rattle.std.specs.Prelude.{Result, Ok, Err, IfOk, OnErr, slice_get}
use Rattle.cep_base.proofs.Lists.{none_some, get_mapped, map_last}
use Rattle.cep_term.specs.Tree.{Tree, Trees, AtomTree}
use Rattle.cep_store.proofs.Additions.{get_front, get_last, get_pushed, front_same, front_push, key_below, atom_stays, term_keys_none, is_key, reads_atom}
use Rattle.cep_store.proofs.Readers.{contains_at, place_of_contained, atoms_apart}
use Rattle.cep_store.specs.Held.{AreApart, IsFrontOf, StaysHeld, HasId}
use Rattle.cep_store.specs.Keys.{atom_by, terms_by, atoms_by, held_by, IsKey, AreTermKeys, AreKeys, TakesPlace, AddsIds}

atoms_stay : (terms behind : List Tree) (keys : List (List ℕ)) → ((id : ℕ) (key : List ℕ) → slice_get keys id ≡ Some key → IsKey (length terms) key) → atoms_by (terms ++ behind) keys ≡ atoms_by terms keys
atoms_stay terms behind [] each = refl
atoms_stay terms behind (key ∷ keys) each =
    λ i. atom_stays terms behind key (each 0 key refl) i ∷ atoms_stay terms behind keys (λ id other at. each (suc id) other at) i

pub keys_none : AreKeys [] []
keys_none = record { terms = term_keys_none; apart = λ i j x one other. none_some x one; atoms = λ id key at. none_some key at }

module _ (old new atoms : List (List ℕ)) (were : AreKeys old atoms) (are : AreTermKeys new) (front : IsFrontOf (terms_by old) (terms_by new)) where
  low : length old ≤ length new
  low = grind (arith, length-append, front.1, front.0, are.count)

  -- the keys of atoms name terms, also where there are more of these
  pub keys_grown : AreKeys new atoms
  keys_grown = record { terms = are; apart = were.apart; atoms = λ id key at. key_below (length old) (length new) key low (were.atoms id key at) }

  -- and they read the same atoms
  pub atoms_grown : atoms_by (terms_by new) atoms ≡ atoms_by (terms_by old) atoms
  atoms_grown = grind (arith, atoms_stay, front.1, front.0)

  -- what was held is held where only terms were added
  pub stays_held : StaysHeld (held_by old atoms) (held_by new atoms)
  stays_held = grind (arith, atoms_grown, front_same (atoms_by (terms_by old) atoms))

  module _ (later : List (List ℕ)) (key : List ℕ) (id : ℕ) (is : IsKey (length new) key) (takes : TakesPlace atoms key id later) (apart : AreApart later) where
    each_later : (place : ℕ) (other : List ℕ) → slice_get later place ≡ Some other → IsKey (length new) other
    each_later place other at =
        ⊎_elim
        (λ same. keys_grown.atoms place other (subst (λ keys. slice_get keys place ≡ Some other) same at))
        (λ behind. ⊎_elim
        (λ before. keys_grown.atoms place other before)
        (λ last. subst (λ k. IsKey (length new) k) last.1 is)
        (get_pushed atoms key other place (subst (λ keys. slice_get keys place ≡ Some other) behind at)))
        takes.place

    pub keys_then : AreKeys new later
    keys_then = record { terms = are; apart = apart; atoms = each_later }

    -- the atoms then are those of before, or the new one stands after them
    atoms_then : (atoms_by (terms_by new) later ≡ atoms_by (terms_by old) atoms) ⊎ (atoms_by (terms_by new) later ≡ atoms_by (terms_by old) atoms ++ atom_by (terms_by new) key ∷ [])
    atoms_then = grind (arith, atoms_grown, map_last)

    pub stays_then : StaysHeld (held_by old atoms) (held_by new later)
    stays_then = grind (arith, front_same (atoms_by (terms_by old) atoms), front_push, atoms_then)

    not_twice : (old_atoms new_atoms : List AtomTree) (a : AtomTree) → AreApart new_atoms → Contains old_atoms a → new_atoms ≡ old_atoms ++ a ∷ [] → ⊥
    not_twice old_atoms new_atoms a differ there behind =
        let place = place_of_contained old_atoms a there in
        let within : place.0 < length old_atoms = slice_get_within old_atoms place.0 a place.1 in
        let here : slice_get new_atoms place.0 ≡ Some a = subst (λ list. slice_get list place.0 ≡ Some a) (sym behind) (get_front old_atoms (a ∷ []) place.0 a place.1) in
        let last : slice_get new_atoms (length old_atoms) ≡ Some a = subst (λ list. slice_get list (length old_atoms) ≡ Some a) (sym behind) (get_last old_atoms a) in
        let same : place.0 ≡ length old_atoms = differ place.0 (length old_atoms) a here last in
        omega arith

    stands_then : slice_get (atoms_by (terms_by new) later) id ≡ Some (atom_by (terms_by new) key)
    stands_then = get_mapped (atom_by (terms_by new)) later id key takes.stands

    pub has_id : HasId (atoms_by (terms_by old) atoms) (atom_by (terms_by new) key) id (atoms_by (terms_by new) later)
    has_id = record {
      stands = stands_then;
      known = λ there.
          ⊎_elim
          (λ same. same)
          (λ behind. absurd (not_twice (atoms_by (terms_by old) atoms) (atoms_by (terms_by new) later) (atom_by (terms_by new) key) (atoms_apart new later keys_then) there behind))
          atoms_then;
      next = λ absent.
          ⊎_elim
          (λ same. absurd (absent (subst (λ list. Contains list (atom_by (terms_by new) key)) same (contains_at (atoms_by (terms_by new) later) id (atom_by (terms_by new) key) stands_then))))
          (λ behind. behind)
          atoms_then;
    }

  -- what stands after the key of an atom was added, or was refused
  module _ (later : List (List ℕ)) (pred : ℕ) (begun key : List ℕ) (args : Trees) (starts : begun ≡ pred ∷ []) (adds : AddsIds (terms_by new) begun key args)
      (small : pred < 2 ^ 32) (apart : AreApart later) where
    is_atom_key : IsKey (length new) key
    is_atom_key = is_key new pred begun key args starts adds are.count small

    pub keys_after_atom : {E : Type 0} (r : Result ℕ E) → IfOk r (λ id. TakesPlace atoms key id later) → OnErr r (later ≡ atoms) → AreKeys new later
    keys_after_atom r takes refused = grind (arith, keys_then, is_atom_key, keys_grown)

    pub stays_after_atom : {E : Type 0} (r : Result ℕ E) → IfOk r (λ id. TakesPlace atoms key id later) → OnErr r (later ≡ atoms) → StaysHeld (held_by old atoms) (held_by new later)
    stays_after_atom r takes refused = grind (arith, stays_then, is_atom_key, stays_held)

    pub id_after_atom : {E : Type 0} (r : Result ℕ E) → IfOk r (λ id. TakesPlace atoms key id later) → IfOk r (λ id. HasId (atoms_by (terms_by old) atoms) (record { pred = pred; args = args }) id (atoms_by (terms_by new) later))
    id_after_atom (Ok id) takes =
        subst (λ b. HasId (atoms_by (terms_by old) atoms) b id (atoms_by (terms_by new) later)) (reads_atom new pred begun key args starts adds) (has_id later key id is_atom_key takes apart)
    id_after_atom (Err e) takes = tt

  -- where the atom was refused, the atoms are as before
  pub same_after_atom : {E : Type 0} (later : List (List ℕ)) (r : Result ℕ E) → OnErr r (later ≡ atoms) → OnErr r (atoms_by (terms_by new) later ≡ atoms_by (terms_by old) atoms)
  same_after_atom later r refused = grind (arith, atoms_grown)
