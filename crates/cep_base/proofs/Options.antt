-- What is known of something that may be there, also at a place of a list.
use Rattle.std.proofs.Common.{◌≡◌, ℕ, ◌<◌, List, length, Option, Some, None, refl, arith, Contains}
use Rattle.std.specs.Prelude.{slice_get, IsSome}
use Rattle.std.specs.Option.{IsSomeAnd}
use Rattle.std.proofs.lemmas.Option.{slice_get_cases, slice_get-get_or}
pub use Rattle.cep_base.proofs.Lists.{none_some, some_same}

pub some_value : {X : Type 0} (o : Option X) → IsSome o → (x : X) × (o ≡ Some x)
some_value (Some x) some = (x, refl)
some_value None some = absurd cc

pub some_there : {X : Type 0} (o : Option X) (P : X → Type 0) → IsSomeAnd o P → (x : X) × (o ≡ Some x) × P x
some_there (Some x) P some = (x, refl, some)
some_there None P some = absurd some

pub some_and : {X : Type 0} (o : Option X) (x : X) (P : X → Type 0) → o ≡ Some x → P x → IsSomeAnd o P
some_and o x P is holds = rw is holds

pub from_some : {X : Type 0} (o : Option X) (P : X → Type 0) (Q : Type 0) → ((x : X) → P x → Q) → IsSomeAnd o P → Q
from_some (Some x) P Q then some = then x some
from_some None P Q then some = absurd some

pub from_some_is : {X : Type 0} (o : Option X) (P : X → Type 0) (Q : Type 0) → ((x : X) → o ≡ Some x → P x → Q) → IsSomeAnd o P → Q
from_some_is (Some x) P Q then some = then x refl some
from_some_is None P Q then some = absurd some

pub from_both : {X : Type 0} (o : Option X) (P P' : X → Type 0) (Q : Type 0) → ((x : X) → P x → P' x → Q) → IsSomeAnd o P → IsSomeAnd o P' → Q
from_both (Some x) P P' Q then one other = then x one other
from_both None P P' Q then one other = absurd one

pub some_weaker : {X : Type 0} (o : Option X) (P Q : X → Type 0) → ((x : X) → P x → Q x) → IsSomeAnd o P → IsSomeAnd o Q
some_weaker (Some x) P Q weaker some = weaker x some
some_weaker None P Q weaker some = some

module _ {X : Type 0} where
  -- something stands at each place within a list
  pub item_at : (xs : List X) (n : ℕ) → n < length xs → (x : X) × (slice_get xs n ≡ Some x)
  item_at xs n within = at (slice_get xs n) refl
    where
      at : (o : Option X) → slice_get xs n ≡ o → (x : X) × (slice_get xs n ≡ Some x)
      at (Some x) is = (x, is)
      at None is = absurd (let there = slice_get-get_or xs n in grind (arith, slice_get_cases))

  -- where something stands is within the list
  pub within_got : (xs : List X) (n : ℕ) (x : X) → slice_get xs n ≡ Some x → n < length xs
  within_got xs n x is = grind (arith, slice_get_cases)

  -- an element stands at some place
  pub place_in : (xs : List X) (x : X) → Contains xs x → (n : ℕ) × (slice_get xs n ≡ Some x)
  place_in xs x (n, within, is) = (n, grind (arith, slice_get-get_or xs n x))
