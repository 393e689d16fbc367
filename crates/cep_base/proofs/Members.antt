-- The members of lists, one after another.
use Rattle.std.proofs.Common.{◌≡◌, ℕ, zero, suc, Bool, true, false, cond, ◌⊎◌, inl, inr, ⊎_elim, List, [], ◌∷◌, ◌++◌, map, Some, refl, arith}
use Rattle.std.specs.Prelude.{filter}
use Rattle.std.specs.List.{Contains, flat_map, slice_get}
use Rattle.std.proofs.lemmas.List.Elements.{Contains-append_right}
use Rattle.std.proofs.lemmas.Option.{slice_get-map, slice_get-get_or}

-- y is a member
pub data In {X : Type 0} : List X → X → Type 0 where
  here : (x : X) (xs : List X) → In (x ∷ xs) x
  there : (x y : X) (xs : List X) → In xs y → In (x ∷ xs) y

pub in_nil : {X : Type 0} (y : X) → In [] y → ⊥
in_nil y h = elim h [ ]

pub in_same : {X : Type 0} (xs ys : List X) (y : X) → xs ≡ ys → In ys y → In xs y
in_same xs ys y e h = rw e h

pub in_one : {X : Type 0} (x y : X) → In (x ∷ []) y → y ≡ x
in_one x y h = grind (arith, in_nil)

pub in_left : {X : Type 0} (xs ys : List X) (y : X) → In xs y → In (xs ++ ys) y
in_left xs ys y (here a b) = here a (b ++ ys)
in_left xs ys y (there a b c h) = there a b (c ++ ys) (in_left c ys b h)

pub in_right : {X : Type 0} (xs ys : List X) (y : X) → In ys y → In (xs ++ ys) y
in_right [] ys y h = h
in_right (x ∷ xs) ys y h = there x y (xs ++ ys) (in_right xs ys y h)

pub in_parts : {X : Type 0} (xs ys : List X) (y : X) → In (xs ++ ys) y → In xs y ⊎ In ys y
in_parts [] ys y h = inr h
in_parts (x ∷ xs) ys y (here a b) = inl (here x xs)
in_parts (x ∷ xs) ys y (there a b c h) = ⊎_elim (λ k. inl (there x y xs k)) inr (in_parts xs ys y h)

-- what comes through a list of lists
pub record Through {X Y : Type 0} (f : X → List Y) (xs : List X) (y : Y) : Type 0 where
  pub from : X
  pub member : In xs from
  pub given : In (f from) y

pub through : {X Y : Type 0} (f : X → List Y) (xs : List X) (y : Y) → In (flat_map f xs) y → Through f xs y
through f [] y h = absurd (in_nil y h)
through f (x ∷ xs) y h =
    ⊎_elim (λ k. record { from = x; member = here x xs; given = k })
    (λ k. let rest = through f xs y k in record { from = rest.from; member = there x rest.from xs rest.member; given = rest.given })
    (in_parts (f x) (flat_map f xs) y h)

pub via : {X Y : Type 0} (f : X → List Y) (xs : List X) (x : X) (y : Y) → In xs x → In (f x) y → In (flat_map f xs) y
via f xs x y (here a b) k = in_left (f a) (flat_map f b) y k
via f xs x y (there a b c h) k = in_right (f a) (flat_map f c) y (via f c b y h k)

-- what is an image
pub record Image {X Y : Type 0} (f : X → Y) (xs : List X) (y : Y) : Type 0 where
  pub from : X
  pub member : In xs from
  pub is : y ≡ f from

pub image : {X Y : Type 0} (f : X → Y) (xs : List X) (y : Y) → In (map f xs) y → Image f xs y
image f [] y h = absurd (in_nil y h)
image f (x ∷ xs) y (here a b) = record { from = x; member = here x xs; is = refl }
image f (x ∷ xs) y (there a b c h) = let k = image f xs y h in record { from = k.from; member = there x k.from xs k.member; is = k.is }

pub mapped : {X Y : Type 0} (f : X → Y) (xs : List X) (x : X) → In xs x → In (map f xs) (f x)
mapped f xs x (here a b) = here (f a) (map f b)
mapped f xs x (there a b c h) = there (f a) (f b) (map f c) (mapped f c b h)

-- std's word for it
pub to_contains : {X : Type 0} (xs : List X) (y : X) → In xs y → Contains xs y
to_contains xs y (here a b) = grind arith
to_contains xs y (there a b c h) = Contains-append_right (a ∷ []) c b (to_contains c b h)

pub in_got : {X : Type 0} (xs : List X) (k : ℕ) (y : X) → slice_get xs k ≡ Some y → In xs y
in_got [] k y e = absurd cc
in_got (x ∷ xs) zero y e = grind (arith, here)
in_got (x ∷ xs) (suc k) y e = there x y xs (in_got xs k y e)

pub from_contains : {X : Type 0} (xs : List X) (y : X) → Contains xs y → In xs y
from_contains xs y (k, within, e) = in_got xs k y (grind (arith, slice_get-get_or))

-- the n-th of images is the image of the n-th
pub record Got {X : Type 0} (v : X → ℕ) (xs : List X) (k : ℕ) (at : ℕ) : Type 0 where
  pub from : X
  pub got : slice_get xs k ≡ Some from
  pub is : at ≡ v from

pub got : {X : Type 0} (v : X → ℕ) (xs : List X) (k at : ℕ) → slice_get (map v xs) k ≡ Some at → Got v xs k at
got v xs k at e = grind (arith, slice_get-map)

pub give : {X : Type 0} (v : X → ℕ) (xs : List X) (k : ℕ) (x : X) → slice_get xs k ≡ Some x → slice_get (map v xs) k ≡ Some (v x)
give v xs k x e = rw (slice_get-map v xs k, e)

-- the members that pass a test
pub in_filter : {X : Type 0} (test : X → Bool) (xs : List X) (x : X) → In xs x → test x ≡ true → In (filter test xs) x
in_filter test xs x (here a b) passes = rw passes (here a (filter test b))
in_filter test xs x (there a b c h) passes = by (test a) (in_filter test c b h passes)
  where
    by : (t : Bool) → In (filter test c) b → In (cond t (a ∷ filter test c) (filter test c)) b
    by true rest = there a b (filter test c) rest
    by false rest = rest

pub from_filter : {X : Type 0} (test : X → Bool) (xs : List X) (x : X) → In (filter test xs) x → In xs x × (test x ≡ true)
from_filter test [] x h = absurd (in_nil x h)
from_filter {X = X} test (y ∷ xs) x h = by (test y) refl (from_filter test xs x) h
  where
    first : test y ≡ true → (z : X) (zs : List X) → z ≡ y → (In zs x → In xs x × (test x ≡ true)) → In (z ∷ zs) x → In (y ∷ xs) x × (test x ≡ true)
    first passes z zs is rest (here a b) = (rw is (here y xs), rw is passes)
    first passes z zs is rest (there a b c k) = let more = rest k in (there y b xs more.0, more.1)

    by : (t : Bool) → test y ≡ t → (In (filter test xs) x → In xs x × (test x ≡ true)) → In (cond t (y ∷ filter test xs) (filter test xs)) x → In (y ∷ xs) x × (test x ≡ true)
    by true passes rest k = first passes y (filter test xs) refl rest k
    by false fails rest k = let more = rest k in (there y x xs more.0, more.1)
