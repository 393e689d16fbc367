-- Private. The keys of terms and atoms: a key is the number of a head, and then the ids of its arguments.
use Rattle.std.specs.Prelude.{◌≡◌, ℕ, ◌^◌, ◌<◌, ◌≤◌, List, [], ◌∷◌, ◌++◌, ◌⊎◌, length, drop, map, slice_get, slice_index, Some}
use Rattle.std.specs.List.{AllByRecursion}
use Rattle.cep_term.specs.Tree.{Tree, Trees, AtomTree, variable, node, none}
use Rattle.cep_store.specs.Held.{Held, args_by, AreApart, AreIds}

-- the term of a key
abbrev pub term_by : List Tree → List ℕ → Tree
term_by terms [] = variable 0
term_by terms (head ∷ ids) = node head (args_by terms ids)

-- the atom of a key
abbrev pub atom_by : List Tree → List ℕ → AtomTree
atom_by terms [] = record { pred = 0; args = none }
atom_by terms (head ∷ ids) = record { pred = head; args = args_by terms ids }

-- some terms, and after them those of keys that name terms before them
abbrev pub terms_from : List Tree → List (List ℕ) → List Tree
terms_from terms [] = terms
terms_from terms (key ∷ keys) = terms_from (terms ++ term_by terms key ∷ []) keys

-- the terms of keys, each of which names terms before it
unfoldable pub terms_by : List (List ℕ) → List Tree
terms_by keys = terms_from [] keys

-- the atoms of keys that name terms
abbrev pub atoms_by : List Tree → List (List ℕ) → List AtomTree
atoms_by terms keys = map (λ key. atom_by terms key) keys

-- what is held by the keys of terms and of atoms
abbrev pub held_by : List (List ℕ) → List (List ℕ) → Held
held_by terms atoms = record { terms = terms_by terms; atoms = atoms_by (terms_by terms) atoms }

-- The key has a head, and ids below a bound.
abbrev pub IsKey : ℕ → List ℕ → Type 0
IsKey bound [] = ⊥
IsKey bound (head ∷ ids) = (head < 2 ^ 32) × AllByRecursion (λ id. id < bound) ids

-- The keys differ, each names terms before it, and its term is read from it.
pub record AreTermKeys (keys : List (List ℕ)) : Type 0 where
  pub apart : AreApart keys
  pub count : length (terms_by keys) ≡ length keys
  pub each : (id : ℕ) (key : List ℕ) → slice_get keys id ≡ Some key → IsKey id key
  pub read : (id : ℕ) (key : List ℕ) → slice_get keys id ≡ Some key → slice_get (terms_by keys) id ≡ Some (term_by (terms_by keys) key)

-- The keys of terms name terms before them, and those of atoms differ and name terms.
pub record AreKeys (term_keys atom_keys : List (List ℕ)) : Type 0 where
  pub terms : AreTermKeys term_keys
  pub apart : AreApart atom_keys
  pub atoms : (id : ℕ) (key : List ℕ) → slice_get atom_keys id ≡ Some key → IsKey (length term_keys) key

-- The key stands at this place of the later keys, which are the earlier ones or have it after them.
pub record TakesPlace (old : List (List ℕ)) (key : List ℕ) (id : ℕ) (new : List (List ℕ)) : Type 0 where
  pub stands : slice_get new id ≡ Some key
  pub place : (new ≡ old) ⊎ (new ≡ old ++ key ∷ [])

-- Ids were added to a key, and they are of these arguments.
pub record AddsIds (terms : List Tree) (old new : List ℕ) (args : Trees) : Type 0 where
  pub ids : List ℕ
  pub added : new ≡ old ++ ids
  pub within : AllByRecursion (λ id. id < length terms) ids
  pub are : args_by terms ids ≡ args

-- The key is that of the term with this id.
pub record IsTermKey (held : Held) (id : ℕ) (key : List ℕ) : Type 0 where
  pub some : 1 ≤ length key
  pub small : slice_index key 0 < 2 ^ 32
  pub within : AllByRecursion (λ part. part < length held.terms) (drop 1 key)
  pub reads : slice_get held.terms id ≡ Some (node (slice_index key 0) (args_by held.terms (drop 1 key)))

-- The key is that of the atom with this id, where ids are what they are to be.
pub record IsAtomKey (held : Held) (id : ℕ) (key : List ℕ) : Type 0 where
  pub some : 1 ≤ length key
  pub small : slice_index key 0 < 2 ^ 32
  pub within : AllByRecursion (λ arg. arg < length held.terms) (drop 1 key)
  pub reads : slice_get held.atoms id ≡ Some (record { pred = slice_index key 0; args = args_by held.terms (drop 1 key) })
  pub ids : AreIds held
