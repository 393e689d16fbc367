-- The entries of a map, whose keys hold their names in a field that `name_of` reads.
use Rattle.std.proofs.Common.{◌≡◌, ℕ, zero, suc, Some, false, not, List, [], ◌∷◌, ◌++◌, map, is_some, position, refl, arith}
use Rattle.std.proofs.lemmas.List.{length-map}
use Rattle.std.specs.List.{list_any, prefix_len, slice_get}
use Rattle.std.specs.Map.{lookup, keys_of}
use Rattle.std.specs.Str.{bytes_eq}
use Rattle.indexmap.specs.IndexMap.{insert_entry}

module _ {K X : Type 0} (name_of : K → List ℕ) where
  abbrev pub seen : List (K × X) → List (List ℕ × X)
  seen entries = map (λ entry. (name_of entry.0, entry.1)) entries

  pub lookup_seen : (name : List ℕ) (entries : List (K × X)) → lookup (λ key. bytes_eq name (name_of key)) entries ≡ lookup (λ other. bytes_eq name other) (seen entries)
  lookup_seen name [] = refl
  lookup_seen name (entry ∷ entries) = rw (lookup_seen name entries)

  pub has_seen : (name : List ℕ) (entries : List (K × X)) → is_some (lookup (λ key. bytes_eq name (name_of key)) entries) ≡ list_any (λ entry. bytes_eq name entry.0) (seen entries)
  has_seen name [] = refl
  has_seen name (entry ∷ entries) = grind (arith, has_seen name entries)

  before_seen : (name : List ℕ) (entries : List (K × X)) → prefix_len (λ key. not (bytes_eq name (name_of key))) (keys_of entries) ≡ prefix_len (λ entry. not (bytes_eq name entry.0)) (seen entries)
  before_seen name [] = refl
  before_seen name (entry ∷ entries) = rw (before_seen name entries)

  pub position_seen : (name : List ℕ) (entries : List (K × X)) → position (λ key. bytes_eq name (name_of key)) (keys_of entries) ≡ position (λ entry. bytes_eq name entry.0) (seen entries)
  position_seen name entries = simp (before_seen, length-map)

  pub insert_seen : (key : K) (value : X) (entries : List (K × X)) → list_any (λ entry. bytes_eq (name_of key) entry.0) (seen entries) ≡ false
      → seen (insert_entry (λ one other. bytes_eq (name_of one) (name_of other)) entries key value) ≡ seen entries ++ (name_of key, value) ∷ []
  insert_seen key value [] absent = refl
  insert_seen key value (entry ∷ entries) absent = grind (arith, insert_seen key value entries)

  -- a new name stands at the end
  pub pushed : (key : K) (value : X) (entries later : List (K × X)) (name : List ℕ) (table : List (List ℕ × X)) → seen entries ≡ table → name_of key ≡ name → list_any (λ entry. bytes_eq name entry.0) table ≡ false
      → later ≡ insert_entry (λ one other. bytes_eq (name_of one) (name_of other)) entries key value → seen later ≡ table ++ (name, value) ∷ []
  pushed key value entries later name table is named absent inserted = rw (inserted, ← is, ← named) (insert_seen key value entries (rw (named, is) absent))

  -- what the entry at a number comes with
  pub held_at : (entries : List (K × X)) (n : ℕ) (entry : K × X) → Some entry ≡ slice_get entries n → Some entry.1 ≡ slice_get (map (λ other. other.1) (seen entries)) n
  held_at [] n entry is = absurd cc
  held_at (first ∷ entries) zero entry is = grind arith
  held_at (first ∷ entries) (suc n) entry is = held_at entries n entry is
