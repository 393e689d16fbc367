-- The foremost of lists, as loops find it.
use Rattle.std.proofs.Common.{◌≡◌, ℕ, ◌+◌, ◌<◌, List, [], ◌∷◌, ◌++◌, length, get_or, take, map, Option, refl, append-nil}
use Rattle.std.specs.List.{flat_map}
use Rattle.std.proofs.lemmas.Grind.{flat_map-append}
use Rattle.std.proofs.lemmas.List.{take_more}
use Rattle.std.proofs.lemmas.List.Folds.{flat_map-map}
use Rattle.cep_base.specs.Foremost.{foremost_of, foremost_in}
use Rattle.cep_base.proofs.Foremost.{foremost_append}

pub flat_map-flat_map : {X Y Z : Type 0} (f : Y → List Z) (g : X → List Y) (xs : List X) → flat_map f (flat_map g xs) ≡ flat_map (λ x. flat_map f (g x)) xs
flat_map-flat_map f g [] = refl
flat_map-flat_map f g (x ∷ xs) = rw (flat_map-append, flat_map-flat_map f g xs)

module _ {Z : Type 0} (standing : Z → ℕ × ℕ) where
  -- the foremost of two parts
  pub foremost_parts : {X : Type 0} (f : X → List Z) (xs ys : List X) → foremost_in standing (flat_map f (xs ++ ys)) ≡ foremost_of standing (foremost_in standing (flat_map f xs)) (foremost_in standing (flat_map f ys))
  foremost_parts f xs ys = rw (flat_map-append, foremost_append)

  -- one more item of a loop
  pub foremost_more_at : {X : Type 0} (f : X → List Z) (xs : List X) (i : ℕ) (d : X) (old item new : Option Z) → i < length xs
      → old ≡ foremost_in standing (flat_map f (take i xs)) → item ≡ foremost_in standing (f (get_or xs i d)) → new ≡ foremost_of standing old item → new ≡ foremost_in standing (flat_map f (take (i + 1) xs))
  foremost_more_at f xs i d old item new h was is_item is_new = rw (is_new, was, is_item, take_more xs i d h, foremost_parts, append-nil)

  pub foremost_more : {X : Type 0} (f : X → List Z) (xs : List X) (i : ℕ) (x : X) (old item new : Option Z) → i < length xs → x ≡ get_or xs i x
      → old ≡ foremost_in standing (flat_map f (take i xs)) → item ≡ foremost_in standing (f x) → new ≡ foremost_of standing old item → new ≡ foremost_in standing (flat_map f (take (i + 1) xs))
  foremost_more f xs i x old item new h at was is_item is_new = foremost_more_at f xs i x old item new h was (rw (← at) is_item) is_new

  pub foremost_more_map : {X Y : Type 0} (f : Y → List Z) (v : X → Y) (xs : List X) (i : ℕ) (d : X) (old item new : Option Z) → i < length xs
      → old ≡ foremost_in standing (flat_map f (map v (take i xs))) → item ≡ foremost_in standing (f (v (get_or xs i d))) → new ≡ foremost_of standing old item → new ≡ foremost_in standing (flat_map f (map v (take (i + 1) xs)))
  foremost_more_map f v xs i d old item new h was is_item is_new = rw flat_map-map (foremost_more_at (λ x. f (v x)) xs i d old item new h (rw flat_map-map at was) is_item is_new)

  pub foremost_more_flat : {X Y : Type 0} (f : Y → List Z) (g : X → List Y) (xs : List X) (i : ℕ) (d : X) (old item new : Option Z) → i < length xs
      → old ≡ foremost_in standing (flat_map f (flat_map g (take i xs))) → item ≡ foremost_in standing (flat_map f (g (get_or xs i d))) → new ≡ foremost_of standing old item → new ≡ foremost_in standing (flat_map f (flat_map g (take (i + 1) xs)))
  foremost_more_flat f g xs i d old item new h was is_item is_new = rw flat_map-flat_map (foremost_more_at (λ x. flat_map f (g x)) xs i d old item new h (rw flat_map-flat_map at was) is_item is_new)

  -- the same, where the item is known by what it is
  pub foremost_mapped : {X Y : Type 0} (f : Y → List Z) (v : X → Y) (xs : List X) (i : ℕ) (x : X) (old item new : Option Z) → i < length xs → x ≡ get_or xs i x
      → old ≡ foremost_in standing (flat_map f (map v (take i xs))) → item ≡ foremost_in standing (f (v x)) → new ≡ foremost_of standing old item → new ≡ foremost_in standing (flat_map f (map v (take (i + 1) xs)))
  foremost_mapped f v xs i x old item new h at was is_item is_new = foremost_more_map f v xs i x old item new h was (rw (← at) is_item) is_new

  pub foremost_flat : {X Y : Type 0} (f : Y → List Z) (g : X → List Y) (xs : List X) (i : ℕ) (x : X) (old item new : Option Z) → i < length xs → x ≡ get_or xs i x
      → old ≡ foremost_in standing (flat_map f (flat_map g (take i xs))) → item ≡ foremost_in standing (flat_map f (g x)) → new ≡ foremost_of standing old item → new ≡ foremost_in standing (flat_map f (flat_map g (take (i + 1) xs)))
  foremost_flat f g xs i x old item new h at was is_item is_new = foremost_more_flat f g xs i x old item new h was (rw (← at) is_item) is_new
