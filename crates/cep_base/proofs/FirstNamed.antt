-- Of things with names the first of each name is kept.
use Rattle.std.proofs.Common.{◌≡◌, ℕ, Bool, true, if◌then◌else◌, List, [], ◌∷◌, ◌++◌, fold, Option, Some, None, refl, arith, append_assoc, append-nil}
use Rattle.std.specs.List.{list_any, find}
use Rattle.std.specs.Str.{bytes_eq}
use Rattle.std.proofs.lemmas.Slice.Eq.{bytes_eq-Decides}

module _ {W : Type 0} (name_of : W → List ℕ) where
  -- whether one of them has the name
  abbrev pub is_there : List W → List ℕ → Bool
  is_there ws name = list_any (λ w. bytes_eq name (name_of w)) ws

  -- the first of the name
  abbrev pub found : List W → List ℕ → Option W
  found ws name = find (λ w. bytes_eq (name_of w) name) ws

  -- one more, if its name is new
  abbrev pub kept : List W → W → List W
  kept ws w = if is_there ws (name_of w) then ws else ws ++ w ∷ []

  abbrev pub or_found : Option W → Option W → Option W
  or_found (Some w) other = Some w
  or_found None other = other

  pub found_both : (one two : List W) (name : List ℕ) → found (one ++ two) name ≡ or_found (found one name) (found two name)
  found_both [] two name = refl
  found_both (w ∷ one) two name = grind (arith, found_both one two name)

  -- a name that is there is found, so that a later one of it does not count
  found_there : (ws : List W) (w : W) (name : List ℕ) → is_there ws (name_of w) ≡ true → found (ws ++ w ∷ []) name ≡ found ws name
  found_there [] w name there = absurd cc
  found_there (v ∷ ws) w name there = let rest : is_there ws (name_of w) ≡ true → found (ws ++ w ∷ []) name ≡ found ws name = found_there ws w name in grind (arith, found_both, bytes_eq-Decides)

  pub found_kept : (old ws : List W) (name : List ℕ) → found (fold kept old ws) name ≡ found (old ++ ws) name
  found_kept old [] name = rw append-nil
  found_kept old (w ∷ ws) name = grind (arith, found_kept old ws name, found_kept (old ++ w ∷ []) ws name, append_assoc, found_both, found_there old w name)
