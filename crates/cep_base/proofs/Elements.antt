-- Elements of lists, by their places.
use Rattle.std.proofs.Common.{◌≡◌, ◌⊎◌, ℕ, List, [], ◌∷◌, ◌++◌, map, sym, arith, Contains}
use Rattle.std.specs.Prelude.{slice_get, Some}
use Rattle.std.specs.List.{AllByRecursion, flat_map}
use Rattle.std.proofs.lemmas.List.{get_or-map, length-map}
use Rattle.std.proofs.lemmas.List.Elements.{All-append, All-contains, All-from_recursion, recursion_from_All, Contains-get_or, Contains-append_right}
use Rattle.std.proofs.lemmas.Option.{slice_get_within, get_or_from_slice_get}
use Rattle.cep_base.proofs.Members.{via, through, image, to_contains, from_contains}
pub use Rattle.std.proofs.lemmas.List.Elements.{Contains-append_left as contains_left, Contains-append_right as contains_right, Contains-append_cases as contains_either}

module _ {X : Type 0} where
  -- what holds of two lists holds of both, one after the other
  pub both_all : (P : X → Type 0) (xs ys : List X) → AllByRecursion P xs → AllByRecursion P ys → AllByRecursion P (xs ++ ys)
  both_all P xs ys here there = search (recursion_from_All, All-append, All-from_recursion)

  -- nothing stands in the empty list
  pub contains_none : (x : X) → Contains [] x → ⊥
  contains_none x there = omega arith

  -- the first is an element
  pub contains_first : (first : X) (rest : List X) → Contains (first ∷ rest) first
  contains_first first rest = grind arith

  -- what stands after the first is an element
  pub contains_behind : (first : X) (rest : List X) (x : X) → Contains rest x → Contains (first ∷ rest) x
  contains_behind first rest x there = Contains-append_right (first ∷ []) rest x there

  -- an element is the first, or stands after it
  pub contains_cases : (first : X) (rest : List X) (x : X) → Contains (first ∷ rest) x → (first ≡ x) ⊎ Contains rest x
  contains_cases first rest x there = grind arith

  -- the first is an element, if it is the one that is looked for
  pub contains_same : (first : X) (rest : List X) (x : X) → first ≡ x → Contains (first ∷ rest) x
  contains_same first rest x same = grind arith

  -- what holds of all holds of an element
  pub all_at : (P : X → Type 0) (xs : List X) (x : X) → AllByRecursion P xs → Contains xs x → P x
  all_at P xs x all there = All-contains P xs x (All-from_recursion P xs all) there

  -- what holds of each element holds of all
  pub all_of : (P : X → Type 0) (xs : List X) → ((x : X) → Contains xs x → P x) → AllByRecursion P xs
  all_of P xs each = search (recursion_from_All, Contains-get_or)

  -- what stands at a place is an element
  pub contains_at : (xs : List X) (i : ℕ) (x : X) → slice_get xs i ≡ Some x → Contains xs x
  contains_at xs i x found = search (slice_get_within, get_or_from_slice_get)

module _ {X Y : Type 0} where
  -- an element of a list that is mapped
  pub contains_map : (f : X → Y) (xs : List X) (x : X) → Contains xs x → Contains (map f xs) (f x)
  contains_map f xs x there = grind (arith, get_or-map, length-map)

  -- where an element of such a list comes from
  pub record ComesFrom (f : X → Y) (xs : List X) (y : Y) : Type 0 where
    pub from : X
    pub there : Contains xs from
    pub same : f from ≡ y

  pub map_cases : (f : X → Y) (xs : List X) (y : Y) → Contains (map f xs) y → ComesFrom f xs y
  map_cases f xs y there =
      let is = image f xs y (from_contains (map f xs) y there) in
      record { from = is.from; there = to_contains xs is.from is.member; same = sym is.is }

  -- an element of lists that stand one after the other
  pub contains_flat : (f : X → List Y) (xs : List X) (x : X) (y : Y) → Contains xs x → Contains (f x) y → Contains (flat_map f xs) y
  contains_flat f xs x y there inside = search (to_contains, via, from_contains)

  -- where an element of such a list comes from
  pub record ComesOutOf (f : X → List Y) (xs : List X) (y : Y) : Type 0 where
    pub from : X
    pub there : Contains xs from
    pub inside : Contains (f from) y

  pub flat_cases : (f : X → List Y) (xs : List X) (y : Y) → Contains (flat_map f xs) y → ComesOutOf f xs y
  flat_cases f xs y there =
      let is = through f xs y (from_contains (flat_map f xs) y there) in
      record { from = is.from; there = to_contains xs is.from is.member; inside = to_contains (f is.from) y is.given }
