-- Names and their numbers in a table.
use Rattle.std.proofs.Common.{◌≡◌, ◌≢◌, ℕ, zero, suc, ◌<◌, Bool, true, false, cond, List, [], ◌∷◌, length, take, map, slice_get, Option, Some, None, refl, ap, subst, ◌∙◌, bytes_eq, arith, sym, ◌+◌, position}
use Rattle.std.proofs.lemmas.Iterator.Adapters.{position_from-zero}
use Rattle.std.proofs.lemmas.Option.{slice_get-map, slice_get_within}
use Rattle.std.proofs.lemmas.Slice.Eq.{bytes_eq-Decides}
use Rattle.std.proofs.lemmas.List.{length-map}
use Rattle.std.specs.List.{list_any, position_from}
use Rattle.std.specs.Option.{option_map}
use Rattle.cep_rule.specs.Names.{AllDiffer}
use Rattle.cep_rule.specs.declared.parts.Stage.{Stage}
use Rattle.cep_text.specs.Reading.{◌>>=◌, number_among, stage_names}
use Rattle.cep_text.specs.StageNames.{IsStageNamed}
pub use Rattle.cep_base.proofs.Lists.{some_same as some_is, holds_at as all_at}
pub use Rattle.cep_base.proofs.Bytes.{bytes_differ as bytes_apart}
use Rattle.cep_base.proofs.Bytes.{bytes_eq_sym}
use Rattle.cep_base.proofs.Options.{item_at}

-- The number of a name among names.

-- what follows from a step that did not fail
pub by_bind : {A B P : Type 0} (r : Option A) (f : A → Option B) (y : B) → (r >>= f) ≡ Some y → ((x : A) → r ≡ Some x → f x ≡ Some y → P) → P
by_bind r f y e next = grind arith

pub guard_some : {A : Type 0} (b : Bool) (x y : A) → cond b (Some x) None ≡ Some y → (b ≡ true) × (x ≡ y)
guard_some b x y e = grind arith

-- what holds of what is read holds of what is wanted
pub by_some : {A : Type 0} (P : A → Type 0) (read wanted : A) → Some read ≡ Some wanted → P read → P wanted
by_some P read wanted e here = subst P (some_is read wanted e) here

pub none_is : {A : Type 0} (y : A) (r : Option A) → r ≡ None → r ≡ Some y → ⊥
none_is y r a b = absurd cc

pub bytes_same : (name : List ℕ) → bytes_eq name name ≡ true
bytes_same name = (bytes_eq-Decides name name).1 refl

-- no name before the place is this one
abbrev pub IsNotBefore : ℕ → List (List ℕ) → List ℕ → Type 0
IsNotBefore i names name = number_among (take i names) name ≡ None

-- of the first name and the rest neither is this one
pub first_apart : (same : Bool) (rest : Option ℕ) → cond same (Some zero) (rest >>= λ number. Some (suc number)) ≡ None → (same ≡ false) × (rest ≡ None)
first_apart same rest e = grind arith

-- the same where each name is of an item
pub item_name : {X : Type 0} (name_of : X → List ℕ) (items : List X) (i : ℕ) (item : X) → slice_get items i ≡ Some item → slice_get (map name_of items) i ≡ Some (name_of item)
item_name name_of items i item e = slice_get-map name_of items i ∙ ap (option_map name_of) e

-- among different names each is found at its place
pub number_found : (names : List (List ℕ)) (i : ℕ) (name : List ℕ) → AllDiffer names → slice_get names i ≡ Some name → number_among names name ≡ Some i
unfolding number_among
number_found [] i name differ e = absurd cc
number_found (other ∷ names) zero name differ e = let p : other ≡ name = cc in rw (← p, bytes_same other) refl
number_found (other ∷ names) (suc i) name differ e =
    let apart : other ≢ name = all_at (λ name. other ≢ name) names i name differ.0 e in
    rw (bytes_apart other name apart, number_found names i name differ.1 e) refl

-- what is found has the name
pub number_is : (names : List (List ℕ)) (name : List ℕ) (i : ℕ) → number_among names name ≡ Some i → slice_get names i ≡ Some name
unfolding number_among
number_is [] name i e = absurd cc
number_is (other ∷ names) name i e = cases (bytes_eq other name) refl e (number_is names name) where
  cases : (same : Bool) → bytes_eq other name ≡ same → cond same (Some zero) (number_among names name >>= λ number. Some (suc number)) ≡ Some i → ((i : ℕ) → number_among names name ≡ Some i → slice_get names i ≡ Some name) → slice_get (other ∷ names) i ≡ Some name
  cases true t e more = let p : zero ≡ i = cc in subst (λ (i : ℕ). slice_get (other ∷ names) i ≡ Some name) p (ap Some ((bytes_eq-Decides other name).0 t))
  cases false t e more = grind (arith, by_bind, some_is)

-- an item whose number is that of a name has it
pub item_named : {X : Type 0} (name_of : X → List ℕ) (items : List X) (name : List ℕ) (n : ℕ) (item : X) → number_among (map name_of items) name ≡ Some n → slice_get items n ≡ Some item → name_of item ≡ name
item_named name_of items name n item is there = some_is (name_of item) name (sym (item_name name_of items n item there) ∙ number_is (map name_of items) name n is)

pub number_within : {X : Type 0} (name_of : X → List ℕ) (items : List X) (name : List ℕ) (i : ℕ) → number_among (map name_of items) name ≡ Some i → i < length items
number_within name_of items name i e = omega (arith, slice_get_within (map name_of items) i name (number_is (map name_of items) name i e), length-map items name_of)

-- a name without a number stands nowhere
pub not_among : (names : List (List ℕ)) (name : List ℕ) (i : ℕ) → number_among names name ≡ None → slice_get names i ≡ Some name → ⊥
unfolding number_among
not_among [] name i none e = absurd cc
not_among (other ∷ names) name zero none e = grind (arith, first_apart (bytes_eq other name) (number_among names name) none, bytes_eq-Decides other name)
not_among (other ∷ names) name (suc i) none e = not_among names name i (first_apart (bytes_eq other name) (number_among names name) none).1 e

-- Stages that are found by their names.

pub stage_number : (stages : List Stage) (table : List (List ℕ)) (name : List ℕ) (found : Option ℕ) → table ≡ stage_names stages → found ≡ number_among table name → number_among (map (λ stage. stage.name) stages) name ≡ found
stage_number stages table name found holds is = sym (is ∙ ap (λ names. number_among names name) holds)

pub stage_found : (stages : List Stage) (name : List ℕ) (number : ℕ) → number_among (stage_names stages) name ≡ Some number → IsStageNamed stages number name
stage_found stages name number is =
    let found = item_at stages number (number_within (λ stage. stage.name) stages name number is) in
    (found.0, found.1, item_named (λ stage. stage.name) stages name number found.0 is found.1)

pub no_stage : (stages : List Stage) (name : List ℕ) → number_among (stage_names stages) name ≡ None → (number : ℕ) → IsStageNamed stages number name → ⊥
no_stage stages name is number named = not_among (stage_names stages) name number is (slice_get-map (λ stage. stage.name) stages number ∙ ap (option_map (λ stage. stage.name)) named.1 ∙ ap Some named.2)

-- A table's keys, each of which holds its name in a field that `name_of` reads.

-- among different names none before a place is the one there
pub next_differs : (names : List (List ℕ)) (i : ℕ) (name : List ℕ) → AllDiffer names → slice_get names i ≡ Some name → IsNotBefore i names name
unfolding number_among
next_differs [] i name differ e = absurd cc
next_differs (other ∷ names) zero name differ e = refl
next_differs (other ∷ names) (suc i) name differ e =
    let apart : other ≢ name = all_at (λ name. other ≢ name) names i name differ.0 e in
    rw (bytes_apart other name apart, next_differs names i name differ.1 e) refl

-- the place of a name of which that of the first name is not known, counted from a number
shifted : (same : Bool) (i : ℕ) (found rest : Option ℕ) → found ≡ (rest >>= λ number. Some (i + 1 + number)) → cond same (Some i) found ≡ (cond same (Some zero) (rest >>= λ number. Some (suc number)) >>= λ number. Some (i + number))
shifted same i found rest e = grind arith

module _ {K : Type 0} (name_of : K → List ℕ) where
  pub none_seen : (name : List ℕ) (keys : List K) → number_among (map name_of keys) name ≡ None → list_any (λ key. bytes_eq name (name_of key)) keys ≡ false
  unfolding number_among
  none_seen name [] e = refl
  none_seen name (key ∷ keys) e = let parts = first_apart (bytes_eq (name_of key) name) (number_among (map name_of keys) name) e in rw (bytes_eq_sym name (name_of key), parts.0) (none_seen name keys parts.1)

  from_seen : (name : List ℕ) (i : ℕ) (keys : List K) → position_from (λ key. bytes_eq name (name_of key)) i keys ≡ (number_among (map name_of keys) name >>= λ number. Some (i + number))
  unfolding number_among
  from_seen name i [] = refl
  from_seen name i (key ∷ keys) =
      rw (bytes_eq_sym name (name_of key)) (shifted (bytes_eq (name_of key) name) i _ (number_among (map name_of keys) name) (from_seen name (i + 1) keys))

  -- the place of a key is the number of its name
  pub number_seen : (name : List ℕ) (keys : List K) → position (λ key. bytes_eq name (name_of key)) keys ≡ number_among (map name_of keys) name
  number_seen name keys = position_from-zero (λ key. bytes_eq name (name_of key)) keys ∙ from_seen name 0 keys ∙ (grind arith)
