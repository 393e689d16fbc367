-- Terms that are added with their keys, and what stays of those that were there.
use Rattle.std.proofs.Common.{◌≡◌, ◌⊎◌, inl, inr, ⊎_elim, ℕ, zero, suc, Bool, true, false, true≢false, List, [], ◌∷◌, ◌++◌, length, map, Some, refl, sym, ap, subst, ◌∙◌, append_assoc, if◌then◌else◌, ◌<◌, arith, ◌+◌, ◌≤◌, ◌^◌, length-append, get_or, take, drop}
use Rattle.std.proofs.lemmas.List.{get_or_append_left}
use Rattle.std.proofs.Math.Seq.{drop-append_seam, take-append_seam}
use Rattle.std.proofs.lemmas.List.Quantifiers.{position-Some}
use Rattle.std.specs.List.{position}
use Rattle.std.specs.Option.{option_map_or}
use Rattle.std.specs.Str.{bytes_eq}
use Rattle.std.proofs.lemmas.Map.Keys.{IsDistinct-head, IsDistinct-tail}
use Rattle.std.proofs.lemmas.Option.{slice_get-get_or, slice_get_within, get_or_from_slice_get}
use Rattle.std.specs.Cmp.Lexicographic.{bytes_decides}
use Rattle.std.specs.List.{AllByRecursion, IsDistinct}
use Rattle.std.specs.Prelude.{slice_get, Result, Ok, Err, IfOk, OnErr}
use Rattle.cep_base.proofs.Lists.{none_some, some_same, get_mapped, map_last, all_weaker}
use Rattle.cep_store.specs.Held.{AreApart, IsFrontOf, Held, trees_in, parts_in, parts_at, args_at, IsPartOf, IsPartAmong, AddsOnly, StaysHeld, args_by}
use Rattle.cep_store.specs.Keys.{TakesPlace, term_by, atom_by, terms_from, terms_by, IsKey, AreTermKeys, AddsIds}
use Rattle.cep_term.specs.Tree.{Tree, Trees, variable, node, none, more}

-- Lists by their places: fronts, what stands after, and keys that differ.

module _ {A : Type 0} where
  -- what stands at a place of a front stands there in the whole
  pub get_front : (xs ys : List A) (i : ℕ) (x : A) → slice_get xs i ≡ Some x → slice_get (xs ++ ys) i ≡ Some x
  get_front (y ∷ xs) ys (suc i) x is = get_front xs ys i x is
  get_front xs ys i x is = grind (arith, none_some, is)

  pub get_last : (xs : List A) (x : A) → slice_get (xs ++ x ∷ []) (length xs) ≡ Some x
  get_last [] x = refl
  get_last (y ∷ xs) x = get_last xs x

  -- a place of a list with one more is one of before, or the last
  pub get_pushed : (xs : List A) (x y : A) (i : ℕ) → slice_get (xs ++ x ∷ []) i ≡ Some y → (slice_get xs i ≡ Some y) ⊎ ((i ≡ length xs) × (x ≡ y))
  get_pushed (z ∷ xs) x y (suc i) is = ⊎_elim (λ before. inl before) (λ last. inr (ap suc last.0, last.1)) (get_pushed xs x y i is)
  get_pushed xs x y i is = grind (arith, some_same, is, none_some)

  pub front_same : (xs : List A) → IsFrontOf xs xs
  front_same [] = ([], refl)
  front_same (x ∷ xs) = let rest = front_same xs in (rest.0, ap (λ ys. x ∷ ys) rest.1)

  pub front_push : (xs : List A) (x : A) → IsFrontOf xs (xs ++ x ∷ [])
  front_push xs x = (x ∷ [], refl)

  pub front_later : (xs ys zs : List A) → IsFrontOf xs ys → IsFrontOf ys zs → IsFrontOf xs zs
  front_later xs ys zs one two = (one.0 ++ two.0, two.1 ∙ ap (λ l. l ++ two.0) one.1 ∙ append_assoc xs one.0 two.0)

  pub front_get : (xs ys : List A) (i : ℕ) (x : A) → IsFrontOf xs ys → slice_get xs i ≡ Some x → slice_get ys i ≡ Some x
  front_get xs ys i x front is = subst (λ l. slice_get l i ≡ Some x) (sym front.1) (get_front xs front.0 i x is)

module _ {K : Type 0} (key_of : K → List ℕ) where
  differs : (k : K) (ks : List K) (j : ℕ) (x : List ℕ) → AllByRecursion (λ other. bytes_eq (key_of k) (key_of other) ≡ false) ks → slice_get (map key_of ks) j ≡ Some x → bytes_eq (key_of k) x ≡ false
  differs k (other ∷ ks) (suc j) x all is = differs k ks j x all.1 is
  differs k ks j x all is = grind (arith, none_some, is, some_same)

  stands_twice : (k : K) (ks : List K) (j : ℕ) (x : List ℕ) → AllByRecursion (λ other. bytes_eq (key_of k) (key_of other) ≡ false) ks → Some (key_of k) ≡ Some x → slice_get (map key_of ks) j ≡ Some x → ⊥
  stands_twice k ks j x all one other = let same : key_of k ≡ x = some_same (key_of k) x one in true≢false (sym ((bytes_decides (key_of k) x).1 same) ∙ differs k ks j x all other)

  -- keys that differ are apart
  pub apart_keys : (ks : List K) → IsDistinct (λ one other. bytes_eq (key_of one) (key_of other)) ks → AreApart (map key_of ks)
  apart_keys [] d i j x one other = none_some x one
  apart_keys (k ∷ ks) d zero zero x one other = refl
  apart_keys (k ∷ ks) d zero (suc j) x one other = absurd (stands_twice k ks j x (IsDistinct-head _ k ks d) one other)
  apart_keys (k ∷ ks) d (suc i) zero x one other = absurd (stands_twice k ks i x (IsDistinct-head _ k ks d) other one)
  apart_keys (k ∷ ks) d (suc i) (suc j) x one other = ap suc (apart_keys ks (IsDistinct-tail _ k ks d) i j x one other)

  -- a key that was inserted takes its place
  pub takes_place : (old new : List K) (key : K) (id : ℕ) (now : List (List ℕ)) (there : Bool) → map key_of old ≡ now → new ≡ (if there then old else old ++ key ∷ [])
      → ((x : K) × (slice_get new id ≡ Some x) × (bytes_eq (key_of key) (key_of x) ≡ true)) → TakesPlace now (key_of key) id (map key_of new)
  takes_place old new key id now there before after stored =
      record {
        stands = get_mapped key_of new id stored.0 stored.1 ∙ ap Some (sym ((bytes_decides (key_of key) (key_of stored.0)).0 stored.2));
        place = grind (arith, map_last);
      }

  -- a key that is found has its place
  pub found_place : (ks : List K) (key : List ℕ) (id : ℕ) → position (λ k. bytes_eq key (key_of k)) ks ≡ Some id → slice_get (map key_of ks) id ≡ Some key
  found_place [] key id found = none_some id found
  found_place (k ∷ ks) key id found =
      let at = position-Some (λ other. bytes_eq key (key_of other)) (k ∷ ks) id k found in
      get_mapped key_of (k ∷ ks) id (get_or (k ∷ ks) id k) (slice_get-get_or (k ∷ ks) id k at.0) ∙ ap Some (sym ((bytes_decides key (key_of (get_or (k ∷ ks) id k))).0 at.1))

  pub found_takes_place : (ks : List K) (key : List ℕ) (id : ℕ) (now : List (List ℕ)) → map key_of ks ≡ now → position (λ k. bytes_eq key (key_of k)) ks ≡ Some id → TakesPlace now key id now
  found_takes_place ks key id now is found = record { stands = rw (← is) (found_place ks key id found); place = inl refl }

-- A key that was begun behind another, and the key alone.

-- what was begun with a head and the ids of arguments, alone
pub alone_adds : (terms : List Tree) (old pushed whole key : List ℕ) (head : ℕ) (args : Trees) → pushed ≡ old ++ head ∷ [] → AddsIds terms pushed whole args → key ≡ drop (length old) whole → AddsIds terms (head ∷ []) key args
alone_adds terms old pushed whole key head args starts adds is = record {
  ids = adds.ids;
  added = rw (is, adds.added, starts, append_assoc old (head ∷ []) adds.ids) (drop-append_seam old (head ∷ adds.ids));
  within = adds.within;
  are = adds.are;
}

-- and the other, as it was
pub begun_again : (terms : List Tree) (old pushed whole : List ℕ) (head : ℕ) (args : Trees) → pushed ≡ old ++ head ∷ [] → AddsIds terms pushed whole args → take (length old) whole ≡ old
begun_again terms old pushed whole head args starts adds = rw (adds.added, starts, append_assoc old (head ∷ []) adds.ids) (take-append_seam old (head ∷ adds.ids))

-- Which terms are added, and what stays of those that were there.

pub only_same : (MayBe : Tree → Type 0) (terms : List Tree) → AddsOnly MayBe terms terms
only_same MayBe terms = record { each = λ id t at. inl at }

only_weaker : (MayBe May : Tree → Type 0) (earlier later : List Tree) → ((t : Tree) → MayBe t → May t) → AddsOnly MayBe earlier later → AddsOnly May earlier later
only_weaker MayBe May earlier later wider only = record { each = λ id t at. ⊎_elim (λ before. inl before) (λ new. inr (wider t new)) (only.each id t at) }

pub only_args : (c : ℕ) (args : Trees) (first second : List Tree) → AddsOnly (λ u. IsPartAmong u args) first second → AddsOnly (λ u. IsPartOf u (node c args)) first second
only_args c args first second one = only_weaker (λ u. IsPartAmong u args) (λ u. IsPartOf u (node c args)) first second (λ u is. inr is) one

-- what is read at a place of a front
read_same : {A B : Type 0} (old new : List A) (id : ℕ) (f : A → B) (d : B) (x : A) → slice_get old id ≡ Some x → slice_get new id ≡ Some x → option_map_or f (slice_get new id) d ≡ option_map_or f (slice_get old id) d
read_same old new id f d x one other = ap (λ o. option_map_or f o d) (other ∙ sym one)

pub parts_stay : (old new : Held) (id : ℕ) → StaysHeld old new → id < length old.terms → parts_at new id ≡ parts_at old id
parts_stay old new id stays low = let here = slice_get-get_or old.terms id (variable 0) low in rw (read_same old.terms new.terms id parts_in [] _ here (front_get old.terms new.terms id _ stays.terms here))

pub args_stay_held : (old new : Held) (id : ℕ) → StaysHeld old new → id < length old.atoms → args_at new id ≡ args_at old id
args_stay_held old new id stays low = let here = slice_get-get_or old.atoms id (record { pred = 0; args = none }) low in rw (read_same old.atoms new.atoms id (λ a. trees_in a.args) [] _ here (front_get old.atoms new.atoms id _ stays.atoms here))

-- What keys read: it stays while terms are added, and a key that was added reads its tree.

pub args_stay : (terms behind : List Tree) (ids : List ℕ) → AllByRecursion (λ id. id < length terms) ids → args_by (terms ++ behind) ids ≡ args_by terms ids
args_stay terms behind [] all = refl
args_stay terms behind (id ∷ ids) all =
    λ i. more (get_or_append_left terms behind (variable 0) id all.0 i) (args_stay terms behind ids all.1 i)

pub all_below : (low high : ℕ) (ids : List ℕ) → low ≤ high → AllByRecursion (λ id. id < low) ids → AllByRecursion (λ id. id < high) ids
all_below low high ids le all = all_weaker (λ id. id < low) (λ id. id < high) ids (λ id h. omega arith) all

pub key_below : (low high : ℕ) (key : List ℕ) → low ≤ high → IsKey low key → IsKey high key
key_below low high key le is = grind (arith, all_below)

pub term_stays : (terms behind : List Tree) (key : List ℕ) → IsKey (length terms) key → term_by (terms ++ behind) key ≡ term_by terms key
term_stays terms behind key is = grind (arith, args_stay)

pub atom_stays : (terms behind : List Tree) (key : List ℕ) → IsKey (length terms) key → atom_by (terms ++ behind) key ≡ atom_by terms key
atom_stays terms behind key is = grind (arith, args_stay)

terms_pushed : (terms : List Tree) (keys : List (List ℕ)) (key : List ℕ) → terms_from terms (keys ++ key ∷ []) ≡ terms_from terms keys ++ term_by (terms_from terms keys) key ∷ []
terms_pushed terms [] key = refl
terms_pushed terms (other ∷ keys) key = terms_pushed (terms ++ term_by terms other ∷ []) keys key

-- a key after the others adds its term
pub terms_push : (keys : List (List ℕ)) (key : List ℕ) → terms_by (keys ++ key ∷ []) ≡ terms_by keys ++ term_by (terms_by keys) key ∷ []
unfolding terms_by
terms_push keys key = terms_pushed [] keys key

pub term_keys_none : AreTermKeys []
unfolding terms_by
term_keys_none = record { apart = λ i j x one other. none_some x one; count = refl; each = λ id key is. none_some key is; read = λ id key is. none_some key is }

module _ (keys : List (List ℕ)) (key : List ℕ) (are : AreTermKeys keys) (is : IsKey (length keys) key) where
  below_terms : (id : ℕ) (other : List ℕ) → slice_get keys id ≡ Some other → IsKey (length (terms_by keys)) other
  below_terms id other at = let within : id < length keys = slice_get_within keys id other at in key_below id (length (terms_by keys)) other (omega (arith, are.count)) (are.each id other at)

  last_is : IsKey (length (terms_by keys)) key
  last_is = subst (λ n. IsKey n key) (sym are.count) is

  count_more : length (terms_by (keys ++ key ∷ [])) ≡ length (keys ++ key ∷ [])
  count_more = cc (terms_push keys key, length-append (terms_by keys) (term_by (terms_by keys) key ∷ []), are.count, length-append keys (key ∷ []))

  read_before : (id : ℕ) (other : List ℕ) (t : Tree) → slice_get keys id ≡ Some other → slice_get (terms_by keys ++ t ∷ []) id ≡ Some (term_by (terms_by keys ++ t ∷ []) other)
  read_before id other t before = cc (get_front (terms_by keys) (t ∷ []) id (term_by (terms_by keys) other) (are.read id other before), term_stays (terms_by keys) (t ∷ []) other (below_terms id other before))

  read_more : (id : ℕ) (other : List ℕ) → slice_get (keys ++ key ∷ []) id ≡ Some other → slice_get (terms_by (keys ++ key ∷ [])) id ≡ Some (term_by (terms_by (keys ++ key ∷ [])) other)
  read_more id other at =
      let t = term_by (terms_by keys) key in
      let Reads : List Tree → Type 0 = λ terms. slice_get terms id ≡ Some (term_by terms other) in
      subst Reads (sym (terms_push keys key)) (
      ⊎_elim
      (λ before. read_before id other t before)
      (λ last.
      let whole : List Tree = terms_by keys ++ t ∷ [] in
      subst (λ k. slice_get whole id ≡ Some (term_by whole k)) last.1
      (subst (λ n. slice_get whole n ≡ Some (term_by whole key)) (sym last.0) (grind (arith, get_last, term_stays, last_is, are.count))))
      (get_pushed keys key other id at))

  -- one key more, which names terms before it
  pub term_keys_push : AreApart (keys ++ key ∷ []) → AreTermKeys (keys ++ key ∷ [])
  term_keys_push apart = record { apart = apart; count = count_more; each = grind (arith, get_pushed, are.each); read = read_more }

module _ (old new : List (List ℕ)) (key : List ℕ) (id : ℕ) (are : AreTermKeys old) (is : IsKey (length old) key) (takes : TakesPlace old key id new) (apart : AreApart new) where
  -- the keys that there are then
  pub keys_added : AreTermKeys new
  keys_added = grind (arith, term_keys_push)

  pub terms_front : IsFrontOf (terms_by old) (terms_by new)
  terms_front =
      ⊎_elim
      (λ same. subst (λ keys. IsFrontOf (terms_by old) (terms_by keys)) (sym same) (front_same (terms_by old)))
      (λ behind. subst (λ keys. IsFrontOf (terms_by old) (terms_by keys)) (sym behind)
      (subst (λ terms. IsFrontOf (terms_by old) terms) (sym (terms_push old key)) (front_push (terms_by old) (term_by (terms_by old) key))))
      takes.place

  pub term_added : slice_get (terms_by new) id ≡ Some (term_by (terms_by old) key)
  term_added = keys_added.read id key takes.stands ∙ ap Some (subst (λ terms. term_by terms key ≡ term_by (terms_by old) key) (sym terms_front.1) (term_stays (terms_by old) terms_front.0 key (subst (λ n. IsKey n key) (sym are.count) is)))

-- one argument more
pub args_added : (mid new : List Tree) (old pushed key : List ℕ) (id : ℕ) (t : Tree) (rest : Trees) → slice_get mid id ≡ Some t → IsFrontOf mid new → pushed ≡ old ++ id ∷ [] → AddsIds new pushed key rest → AddsIds new old key (more t rest)
args_added mid new old pushed key id t rest at front is adds = grind (arith, front_get mid new id t front, append_assoc old (id ∷ []) adds.ids, slice_get_within, get_or_from_slice_get)

-- a key that was begun with a head, and to which the ids of arguments were added
module _ (keys : List (List ℕ)) (head : ℕ) (begun key : List ℕ) (args : Trees) (starts : begun ≡ head ∷ []) (adds : AddsIds (terms_by keys) begun key args) where
  whole : key ≡ head ∷ adds.ids
  whole = adds.added ∙ ap (λ l. l ++ adds.ids) starts

  pub is_key : length (terms_by keys) ≡ length keys → head < 2 ^ 32 → IsKey (length keys) key
  is_key count small = subst (λ k. IsKey (length keys) k) (sym whole) (small, subst (λ n. AllByRecursion (λ id. id < n) adds.ids) count adds.within)

  pub reads_term : term_by (terms_by keys) key ≡ node head args
  reads_term = ap (term_by (terms_by keys)) whole ∙ ap (λ (trees : Trees). node head trees) adds.are

  pub reads_atom : atom_by (terms_by keys) key ≡ record { pred = head; args = args }
  reads_atom = grind arith

-- What stands after the key of a term was added, or was refused.

module _ (old new : List (List ℕ)) (c : ℕ) (begun key : List ℕ) (args : Trees) (starts : begun ≡ c ∷ []) (adds : AddsIds (terms_by old) begun key args)
    (small : c < 2 ^ 32) (are : AreTermKeys old) (apart : AreApart new) where
  is : IsKey (length old) key
  is = is_key old c begun key args starts adds are.count small

  reads : term_by (terms_by old) key ≡ node c args
  reads = reads_term old c begun key args starts adds

  pub keys_after : {E : Type 0} (r : Result ℕ E) → IfOk r (λ id. TakesPlace old key id new) → OnErr r (new ≡ old) → AreTermKeys new
  keys_after (Ok id) takes refused = keys_added old new key id are is takes apart
  keys_after (Err e) takes refused = subst AreTermKeys (sym refused) are

  pub front_after : {E : Type 0} (r : Result ℕ E) (before : List Tree) → IsFrontOf before (terms_by old) → IfOk r (λ id. TakesPlace old key id new) → OnErr r (new ≡ old) → IsFrontOf before (terms_by new)
  front_after r before front takes refused = front_later before (terms_by old) (terms_by new) front (grind (arith, terms_front, is, front_same (terms_by old)))

  pub term_after : {E : Type 0} (r : Result ℕ E) → IfOk r (λ id. TakesPlace old key id new) → IfOk r (λ id. slice_get (terms_by new) id ≡ Some (node c args))
  term_after r takes = grind (arith, term_added, is, reads)

  only_placed : (id : ℕ) → TakesPlace old key id new → AddsOnly (λ u. IsPartOf u (node c args)) (terms_by old) (terms_by new)
  only_placed id takes =
      let May : Tree → Type 0 = λ u. IsPartOf u (node c args) in
      ⊎_elim
      (λ same. subst (λ keys. AddsOnly May (terms_by old) (terms_by keys)) (sym same) (only_same May (terms_by old)))
      (λ behind. subst (λ keys. AddsOnly May (terms_by old) (terms_by keys)) (sym behind)
      (subst (λ terms. AddsOnly May (terms_by old) terms) (sym (terms_push old key)) (grind (arith, get_pushed))))
      takes.place

  pub only_after : {E : Type 0} (r : Result ℕ E) (before : List Tree) → AddsOnly (λ u. IsPartAmong u args) before (terms_by old) → IfOk r (λ id. TakesPlace old key id new) → OnErr r (new ≡ old) → AddsOnly (λ u. IsPartOf u (node c args)) before (terms_by new)
  only_after r before only takes refused = grind (arith, only_args, only_placed)
