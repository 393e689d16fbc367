-- Lists by their places: what holds of all items, fronts, and images.
use Rattle.std.proofs.Common.{◌≡◌, ℕ, zero, suc, ◌+◌, ◌≤◌, Bool, length, List, [], ◌∷◌, ◌++◌, take, map, Option, Some, None, arith}
use Rattle.std.specs.Prelude.{slice_get, fold, filter}
use Rattle.std.specs.List.{AllByRecursion, AllZip, flat_map}
use Rattle.std.proofs.lemmas.Grind.{common_steps, fold-append}
use Rattle.std.proofs.lemmas.List.Elements.{All-filter, All-from_recursion, All-take, All-weaker, recursion_from_All}
use Rattle.std.proofs.lemmas.Option.{slice_get-map, slice_get-get_or, slice_get_cases}
use Rattle.cep_base.proofs.Elements.{both_all as all_both}
pub use Rattle.std.proofs.lemmas.List.{map_push as map_last}

pub none_some : {A B : Type 0} (x : A) → ◌≡◌ {A = Option A} None (Some x) → B
none_some x e = cc

pub some_same : {A : Type 0} (x y : A) → Some x ≡ Some y → x ≡ y
some_same x y e = cc

pub holds_at : {A : Type 0} (P : A → Type 0) (xs : List A) (n : ℕ) (x : A) → AllByRecursion P xs → slice_get xs n ≡ Some x → P x
holds_at P xs n x all is = grind (arith, slice_get_cases, All-from_recursion P xs all)

pub holds_at_mapped : {A B : Type 0} (P : B → Type 0) (f : A → B) (xs : List A) (n : ℕ) (x : A) → AllByRecursion P (map f xs) → slice_get xs n ≡ Some x → P (f x)
holds_at_mapped P f xs n x all is = holds_at P (map f xs) n (f x) all (rw (slice_get-map f xs n, is))

pub all_weaker : {A : Type 0} (P Q : A → Type 0) (xs : List A) → ((x : A) → P x → Q x) → AllByRecursion P xs → AllByRecursion Q xs
all_weaker P Q xs f all = recursion_from_All Q xs (All-weaker P Q f xs (All-from_recursion P xs all))

pub all_mapped : {A B : Type 0} (P : A → Type 0) (Q : B → Type 0) (f : A → B) (xs : List A) → ((x : A) → P x → Q (f x)) → AllByRecursion P xs → AllByRecursion Q (map f xs)
all_mapped P Q f [] g all = tt
all_mapped P Q f (x ∷ xs) g all = (g x all.0, all_mapped P Q f xs g all.1)

pub all_from_places : {A : Type 0} (P : A → Type 0) (xs : List A) → ((n : ℕ) (x : A) → slice_get xs n ≡ Some x → P x) → AllByRecursion P xs
all_from_places P xs each = recursion_from_All P xs (λ k d within. each k _ (slice_get-get_or xs k d within))

pub all_taken : {A : Type 0} (P : A → Type 0) (xs : List A) (n : ℕ) → AllByRecursion P xs → AllByRecursion P (take n xs)
all_taken P xs n all = search (recursion_from_All, All-take, All-from_recursion)

-- one item more
pub take_next : {A : Type 0} (xs : List A) (n : ℕ) (x : A) → slice_get xs n ≡ Some x → take (n + 1) xs ≡ take n xs ++ x ∷ []
take_next xs n x is = grind (arith, common_steps, slice_get_cases)

pub get_mapped : {A B : Type 0} (f : A → B) (xs : List A) (n : ℕ) (x : A) → slice_get xs n ≡ Some x → slice_get (map f xs) n ≡ Some (f x)
get_mapped f xs n x is = rw (slice_get-map f xs n, is)

-- a fold over one item more
pub fold_more : {A B : Type 0} (f : B → A → B) (b : B) (xs : List A) (x : A) → fold f b (xs ++ x ∷ []) ≡ f (fold f b xs) x
fold_more f b xs x = fold-append f b xs (x ∷ [])

-- what holds of all holds of those that pass a test, of one more of which it holds, and of what each gives
pub all_filtered : {A : Type 0} (P : A → Type 0) (test : A → Bool) (xs : List A) → AllByRecursion P xs → AllByRecursion P (filter test xs)
all_filtered P test xs all = search (recursion_from_All, All-filter, All-from_recursion)

pub all_pushed : {A : Type 0} (P : A → Type 0) (xs : List A) (x : A) → AllByRecursion P xs → P x → AllByRecursion P (xs ++ x ∷ [])
all_pushed P [] x all one = (one, tt)
all_pushed P (y ∷ xs) x all one = (all.0, all_pushed P xs x all.1 one)

pub all_flat : {A B : Type 0} (P : A → Type 0) (Q : B → Type 0) (f : A → List B) (xs : List A) → ((x : A) → P x → AllByRecursion Q (f x)) → AllByRecursion P xs → AllByRecursion Q (flat_map f xs)
all_flat P Q f [] given all = tt
all_flat P Q f (x ∷ xs) given all = all_both Q (f x) (flat_map f xs) (given x all.0) (all_flat P Q f xs given all.1)

-- some are no more than all
pub filter_few : {A : Type 0} (test : A → Bool) (xs : List A) → length (filter test xs) ≤ length xs
filter_few test [] = grind arith
filter_few test (x ∷ xs) = grind (arith, filter_few test xs)

-- what stands at a place stands there when more follow
pub get_kept : {A : Type 0} (xs ys : List A) (n : ℕ) (x : A) → slice_get xs n ≡ Some x → slice_get (xs ++ ys) n ≡ Some x
get_kept [] ys n x is = absurd cc
get_kept (y ∷ xs) ys zero x is = grind arith
get_kept (y ∷ xs) ys (suc n) x is = get_kept xs ys n x is

-- the last one
pub get_last : {A : Type 0} (xs : List A) (x : A) → slice_get (xs ++ x ∷ []) (length xs) ≡ Some x
get_last [] x = grind arith
get_last (y ∷ xs) x = get_last xs x

-- two lists, place by place
module _ {A B : Type 0} (R : A → B → Type 0) where
  pub zip_at : (xs : List A) (ys : List B) (n : ℕ) (x : A) (y : B) → AllZip R xs ys → slice_get xs n ≡ Some x → slice_get ys n ≡ Some y → R x y
  zip_at (a ∷ xs) (b ∷ ys) zero x y all is is' = rw (← some_same a x is, ← some_same b y is') all.0
  zip_at (a ∷ xs) (b ∷ ys) (suc n) x y all is is' = zip_at xs ys n x y all.1 is is'
  zip_at [] ys n x y all is is' = none_some x is
  zip_at (a ∷ xs) [] n x y all is is' = absurd all

  pub zip_push : (xs : List A) (ys : List B) (x : A) (y : B) → AllZip R xs ys → R x y → AllZip R (xs ++ x ∷ []) (ys ++ y ∷ [])
  zip_push [] [] x y all is = (is, tt)
  zip_push (a ∷ xs) (b ∷ ys) x y all is = (all.0, zip_push xs ys x y all.1 is)
  zip_push [] (b ∷ ys) x y all is = absurd all
  zip_push (a ∷ xs) [] x y all is = absurd all
