-- Tokens are made for atoms, and the oldest of an atom stands first.
use Rattle.std.proofs.Common.{◌≡◌, ◌⊎◌, inl, inr, ⊎_elim, ℕ, zero, suc, ◌+◌, ◌<◌, ◌≤◌, Bool, true, false, cond, List, [], ◌∷◌, ◌++◌, length, map, drop, get_or, set, Some, refl, sym, ap, ◌∙◌, subst, arith, Contains, not, ◌||◌, ◌&&◌, append_assoc, append-nil, take, replicate}
use Rattle.std.specs.Prelude.{slice_get, ◌==◌, nat_lt}
use Rattle.std.specs.Ordering.{is_eq, eq_by_cmp}
use Rattle.std.specs.Cmp.{tied_itself, Equal-is}
use Rattle.std.proofs.lemmas.Bool.{false≢true}
use Rattle.std.proofs.lemmas.Bool.Decides.{nat_tests}
use Rattle.std.proofs.lemmas.List.{map-set, length-map, map-append, replicate_more}
use Rattle.std.proofs.lemmas.Option.{slice_get-get_or, slice_get_within}
use Rattle.std.proofs.lemmas.List.Concat.{flat_map-append}
use Rattle.std.specs.List.{AllZip, flat_map}
use Rattle.cep_base.proofs.Lists.{none_some, some_same, get_mapped, get_kept, map_last, zip_push, take_next}
use Rattle.cep_store.specs.Held.{AreApart, HasId}
use Rattle.cep_base.proofs.Elements.{contains_none, contains_behind, contains_cases, contains_same, contains_first, all_at, contains_left, contains_right, contains_map, map_cases}
use Rattle.cep_term.specs.Tree.{AtomTree, Tree}
use Rattle.cep_term.specs.Order.{atom_cmp}
use Rattle.cep_term.specs.BagLaws.{BagLaws}
use Rattle.cep_term.specs.Multiset.{count_of, with_one, gathered, gained}
use Rattle.cep_graph.specs.declared.trace.Trace.{Trace}
use Rattle.cep_graph.specs.Queues.{Queues, AreQueues, row_of, queue_of, IsIdOf, Changes, GetsId}
use Rattle.cep_cause.specs.Tokens.{Token, has_number, staying, numbered, token_atoms, token_state}
use Rattle.cep_cause.specs.Touches.{Touch}
use Rattle.cep_graph.specs.Traces.{tokens_of, NumbersIncrease, IsTrace, AreTraced, made_for, MakesFor, AreOfStart}
use Rattle.cep_graph.proofs.Tracing.{made_trace}
use Rattle.cep_rule.specs.declared.signature.Signature.{Signature}
use Rattle.cep_rule.specs.Typing.{is_fact}
use Rattle.cep_rule.specs.Instances.{full_instance, full_instances}
pub use Rattle.cep_cause.proofs.Tokened.{numbered_there}
pub use Rattle.cep_cause.proofs.Distinct.{filter_cases, filter_there}

-- Queues at the ids of their atoms.

-- nothing is popped off nothing alone
pub none_left : {X : Type 0} (old new : List X) → old ≡ new → new ≡ drop 1 old → old ≡ []
none_left [] new same rest = refl
none_left (x ∷ xs) new same rest = let more : length (x ∷ xs) ≡ length xs = ap length (same ∙ rest) in absurd (omega arith)

module _ (laws : BagLaws) where
  pub itself : (a : AtomTree) → eq_by_cmp atom_cmp a a ≡ true
  itself a = ap is_eq (tied_itself laws.total a)

  pub same_atom : (a b : AtomTree) → eq_by_cmp atom_cmp a b ≡ true → a ≡ b
  same_atom a b e = laws.ties a b ((Equal-is (atom_cmp a b)).0 e)

  apart_tail : (first : AtomTree) (atoms : List AtomTree) → AreApart (first ∷ atoms) → AreApart atoms
  apart_tail first atoms apart i j x at at' = let same = apart (suc i) (suc j) x at at' in omega arith

  -- the row at an atom's id
  get_row : (atoms : List AtomTree) (rows : List (List Trace)) (id : ℕ) (a : AtomTree) (row : List Trace) → AreApart atoms → slice_get atoms id ≡ Some a → slice_get rows id ≡ Some row → row_of atoms rows a ≡ row
  get_row (first ∷ atoms) (one ∷ rows) (suc id) a row apart at at' = by (eq_by_cmp atom_cmp first a) refl (get_row atoms rows id a row (apart_tail first atoms apart) at at')
    where
      by : (t : Bool) → eq_by_cmp atom_cmp first a ≡ t → row_of atoms rows a ≡ row → cond t one (row_of atoms rows a) ≡ row
      by true e rest = let same = apart zero (suc id) a (ap Some (same_atom first a e)) at in absurd (omega arith)
      by false e rest = rest
  get_row atoms rows id a row apart at at' = grind (arith, none_some, some_same, itself)

  -- a row is set
  set_row : (atoms : List AtomTree) (rows : List (List Trace)) (id : ℕ) (a b : AtomTree) (row : List Trace) → length rows ≡ length atoms → AreApart atoms → slice_get atoms id ≡ Some a
      → row_of atoms (set rows id row) b ≡ cond (eq_by_cmp atom_cmp a b) row (row_of atoms rows b)
  set_row (first ∷ atoms) (one ∷ rows) (suc id) a b row long apart at =
      by (eq_by_cmp atom_cmp first b) (eq_by_cmp atom_cmp a b) refl refl (set_row atoms rows id a b row (omega arith) (apart_tail first atoms apart) at)
    where
      by : (s t : Bool) → eq_by_cmp atom_cmp first b ≡ s → eq_by_cmp atom_cmp a b ≡ t → row_of atoms (set rows id row) b ≡ cond t row (row_of atoms rows b)
          → cond s one (row_of atoms (set rows id row) b) ≡ cond t row (cond s one (row_of atoms rows b))
      by true true e e' rest = let same = apart zero (suc id) a (ap Some (same_atom first b e ∙ sym (same_atom a b e'))) at in absurd (omega arith)
      by true false e e' rest = refl
      by false true e e' rest = rest
      by false false e e' rest = rest
  set_row atoms rows id a b row long apart at = grind (arith, none_some, some_same)

  module _ {X : Type 0} (f : X → List Trace) (atoms : List AtomTree) (deques : List X) (id : ℕ) (a : AtomTree) (old new : X) where
    in_rows : AreQueues (record { atoms = atoms; rows = map f deques }) → slice_get atoms id ≡ Some a → old ≡ get_or deques id old → row_of atoms (map f deques) a ≡ f old
    in_rows are at is =
        let long = are.long in let many = length-map deques f in let within = slice_get_within atoms id a at in
        get_row atoms (map f deques) id a (f old) are.apart at (get_mapped f deques id old (slice_get-get_or deques id old (omega arith) ∙ ap Some (sym is)))

    set_rows : AreQueues (record { atoms = atoms; rows = map f deques }) → slice_get atoms id ≡ Some a → (b : AtomTree)
        → row_of atoms (map f (set deques id new)) b ≡ cond (eq_by_cmp atom_cmp a b) (f new) (row_of atoms (map f deques) b)
    set_rows are at b = ap (λ (rows : List (List Trace)). row_of atoms rows b) (map-set f deques id new) ∙ set_row atoms (map f deques) id a b (f new) are.long are.apart at

    -- the queue of an atom
    pub is_queue : (now : Queues) → record { atoms = atoms; rows = map f deques } ≡ now → AreQueues (record { atoms = atoms; rows = map f deques }) → IsIdOf now id a → old ≡ get_or deques id old → queue_of now a ≡ f old
    is_queue now e are = subst (λ (q : Queues). IsIdOf q id a → old ≡ get_or deques id old → queue_of q a ≡ f old) e (in_rows are)

    made_row : (b : AtomTree) (t : Bool) → eq_by_cmp atom_cmp a b ≡ t → (change : List Trace → List Trace) → row_of atoms (map f deques) a ≡ f old → f new ≡ change (f old)
        → cond t (f new) (row_of atoms (map f deques) b) ≡ cond t (change (row_of atoms (map f deques) b)) (row_of atoms (map f deques) b)
    made_row b t e change got makes = grind (arith, same_atom)

    left_row : (b : AtomTree) (t : Bool) → eq_by_cmp atom_cmp a b ≡ t → (change : List Trace → List Trace) (now : List Trace) → now ≡ cond t (f new) (row_of atoms (map f deques) b) → row_of atoms (map f deques) a ≡ f old → f old ≡ change (f new)
        → row_of atoms (map f deques) b ≡ cond t (change now) now
    left_row b t e change now is got makes = grind (arith, same_atom)

    -- one queue is changed
    pub changed : (now : Queues) (change : List Trace → List Trace) → record { atoms = atoms; rows = map f deques } ≡ now → AreQueues (record { atoms = atoms; rows = map f deques })
        → IsIdOf now id a → old ≡ get_or deques id old → f new ≡ change (f old) → Changes a change now (record { atoms = atoms; rows = map f (set deques id new) })
    changed now change e are = subst (λ (q : Queues). IsIdOf q id a → old ≡ get_or deques id old → f new ≡ change (f old) → Changes a change q (record { atoms = atoms; rows = map f (set deques id new) })) e
        (λ at is makes. record { atoms = refl; queues = λ b. set_rows are at b ∙ made_row b (eq_by_cmp atom_cmp a b) refl change (in_rows are at is) makes })

    -- one queue was a change of what it is now
    pub changed_back : (now : Queues) (change : List Trace → List Trace) → record { atoms = atoms; rows = map f deques } ≡ now → AreQueues (record { atoms = atoms; rows = map f deques })
        → IsIdOf now id a → old ≡ get_or deques id old → f old ≡ change (f new) → Changes a change (record { atoms = atoms; rows = map f (set deques id new) }) now
    changed_back now change e are = subst (λ (q : Queues). IsIdOf q id a → old ≡ get_or deques id old → f old ≡ change (f new) → Changes a change (record { atoms = atoms; rows = map f (set deques id new) }) q) e
        (λ at is makes. record { atoms = refl; queues = λ b. left_row b (eq_by_cmp atom_cmp a b) refl change (row_of atoms (map f (set deques id new)) b) (set_rows are at b) (in_rows are at is) makes })

  contains_or_not : (atoms : List AtomTree) (a : AtomTree) → Contains atoms a ⊎ (Contains atoms a → ⊥)
  contains_or_not [] a = inr (contains_none a)
  contains_or_not (first ∷ atoms) a = by (eq_by_cmp atom_cmp first a) refl (contains_or_not atoms a)
    where
      by : (t : Bool) → eq_by_cmp atom_cmp first a ≡ t → Contains atoms a ⊎ (Contains atoms a → ⊥) → Contains (first ∷ atoms) a ⊎ (Contains (first ∷ atoms) a → ⊥)
      by true e rest = inl (contains_same first atoms a (same_atom first a e))
      by false e rest = ⊎_elim (λ there. inl (contains_behind first atoms a there))
          (λ none. inr (λ there. ⊎_elim (λ (same : first ≡ a). false≢true (sym e ∙ subst (λ (b : AtomTree). eq_by_cmp atom_cmp first b ≡ true) same (itself first))) none (contains_cases first atoms a there))) rest

  grown : (old new : List AtomTree) (a : AtomTree) (id : ℕ) → HasId old a id new → (new ≡ old) ⊎ (new ≡ old ++ a ∷ [])
  grown old new a id has = ⊎_elim (λ there. inl (has.known there)) (λ none. inr (has.next none)) (contains_or_not old a)

  more_rows : (atoms : List AtomTree) (rows : List (List Trace)) (a b : AtomTree) → length rows ≡ length atoms → row_of (atoms ++ a ∷ []) (rows ++ [] ∷ []) b ≡ row_of atoms rows b
  more_rows [] [] a b long = by (eq_by_cmp atom_cmp a b)
    where
      by : (t : Bool) → ◌≡◌ {A = List Trace} (cond t [] []) []
      by true = refl
      by false = refl
  more_rows (first ∷ atoms) (row ∷ rows) a b long = ap (cond (eq_by_cmp atom_cmp first b) row) (more_rows atoms rows a b (omega arith))
  more_rows atoms rows a b long = grind arith

  module _ {X : Type 0} (f : X → List Trace) (old new : List AtomTree) (deques : List X) (id : ℕ) (a : AtomTree) where
    -- An atom is met for the first time.
    pub meets_new : (now : Queues) (d : X) → record { atoms = old; rows = map f deques } ≡ now → AreQueues (record { atoms = old; rows = map f deques }) → HasId old a id new → length old < length new → f d ≡ []
        → GetsId now a id (record { atoms = new; rows = map f (deques ++ d ∷ []) })
    meets_new now d e are has more none = subst (λ (q : Queues). GetsId q a id (record { atoms = new; rows = map f (deques ++ d ∷ []) })) e
        (⊎_elim
        (λ (same : new ≡ old). let long = ap (λ (atoms : List AtomTree). length atoms) same in absurd (omega arith))
        (λ (is : new ≡ old ++ a ∷ []). record {
          met = has.stands;
          queues = λ b. ap (λ (atoms : List AtomTree). row_of atoms (map f (deques ++ d ∷ [])) b) is ∙ ap (λ (rows : List (List Trace)). row_of (old ++ a ∷ []) rows b) (map_last f deques d ∙ ap (λ (row : List Trace). map f deques ++ row ∷ []) none) ∙ more_rows old (map f deques) a b are.long;
          ids = λ other b at. ap (λ (atoms : List AtomTree). slice_get atoms other) is ∙ get_kept old (a ∷ []) other b at;
        })
        (grown old new a id has))

-- The oldest token of an atom stands first among those of the atom.

below_apart : (a b : ℕ) → a < b → (a == b) ≡ false
below_apart a b less = grind (arith, nat_tests)

pub number_itself : (a b : ℕ) → a ≡ b → (a == b) ≡ true
number_itself a b e = grind (arith, nat_tests)

pub same_if : (a b : ℕ) → (a == b) ≡ true → a ≡ b
same_if a b e = grind (arith, nat_tests)

-- what stays is decided by the numbers alone
pub staying_alike : (one other present : List Token) → ((token : Token) → Contains present token → has_number one token.number ≡ has_number other token.number) → staying one present ≡ staying other present
staying_alike one other [] same = refl
staying_alike one other (x ∷ xs) same = by (has_number one x.number) (has_number other x.number) (same x (contains_first x xs)) (staying_alike one other xs (λ token there. same token (contains_behind x xs token there)))
  where
    by : (s t : Bool) → s ≡ t → staying one xs ≡ staying other xs → cond (not s) (x ∷ staying one xs) (staying one xs) ≡ cond (not t) (x ∷ staying other xs) (staying other xs)
    by true true e rest = rest
    by true false e rest = absurd (false≢true (sym e))
    by false true e rest = absurd (false≢true e)
    by false false e rest = ap (λ (tokens : List Token). x ∷ tokens) rest

pub has_append : (xs ys : List Token) (n : ℕ) → has_number (xs ++ ys) n ≡ (has_number xs n || has_number ys n)
has_append [] ys n = refl
has_append (x ∷ xs) ys n = by (x.number == n) (has_append xs ys n)
  where
    by : (t : Bool) → has_number (xs ++ ys) n ≡ (has_number xs n || has_number ys n) → (t || has_number (xs ++ ys) n) ≡ ((t || has_number xs n) || has_number ys n)
    by true rest = refl
    by false rest = rest

-- a number that is there is that of a token
pub number_of : (tokens : List Token) (n : ℕ) → has_number tokens n ≡ true → (token : Token) × Contains tokens token × (token.number ≡ n)
number_of [] n is = absurd (false≢true is)
number_of (first ∷ tokens) n is = by (first.number == n) refl (λ later. number_of tokens n later) is
  where
    by : (t : Bool) → (first.number == n) ≡ t → (has_number tokens n ≡ true → (token : Token) × Contains tokens token × (token.number ≡ n)) → (t || has_number tokens n) ≡ true → (token : Token) × Contains (first ∷ tokens) token × (token.number ≡ n)
    by true e rest is = (first, contains_first first tokens, same_if first.number n e)
    by false e rest is = let later = rest is in (later.0, contains_behind first tokens later.0 later.1, later.2)

-- tokens of one number are one
pub one_token : (present : List Token) (one other : Token) → NumbersIncrease present → Contains present one → Contains present other → one.number ≡ other.number → one ≡ other
one_token [] one other rise here there same = absurd (contains_none one here)
one_token (first ∷ tokens) one other rise here there same =
    ⊎_elim
    (λ (is : first ≡ one). ⊎_elim
    (λ (is' : first ≡ other). sym is ∙ is')
    (λ later. let less = all_at (λ (t : Token). first.number < t.number) tokens other rise.0 later in let e = ap (λ (t : Token). t.number) is in absurd (omega arith))
    (contains_cases first tokens other there))
    (λ later. ⊎_elim
    (λ (is' : first ≡ other). let less = all_at (λ (t : Token). first.number < t.number) tokens one rise.0 later in let e = ap (λ (t : Token). t.number) is' in absurd (omega arith))
    (λ later'. one_token tokens one other rise.1 later later' same)
    (contains_cases first tokens other there))
    (contains_cases first tokens one here)

-- Of the tokens of its atom that are present, and not out, the token has the least number.
pub record IsOldest (present out : List Token) (token : Token) : Type 0 where
  pub there : Contains present token
  pub here : has_number out token.number ≡ false
  pub oldest : (other : Token) → Contains present other → other.atom ≡ token.atom → has_number out other.number ≡ false → token.number ≤ other.number

module _ (laws : BagLaws) where
  kept_first : (b : AtomTree) (t : Bool) (first : Token) (tokens : List Token) → tokens_of b (cond t (first ∷ tokens) tokens) ≡ cond t (cond (eq_by_cmp atom_cmp first.atom b) (first ∷ tokens_of b tokens) (tokens_of b tokens)) (tokens_of b tokens)
  kept_first b t first tokens = grind arith

  behind_first : (n h s t : Bool) (first token : Token) (old new : List Token) → n ≡ false → (h ≡ false → s ≡ true → t ≡ true → ⊥) → old ≡ cond t (token ∷ new) new
      → cond (not h) (cond s (first ∷ old) old) old ≡ cond t (token ∷ cond (not (n || h)) (cond s (first ∷ new) new) new) (cond (not (n || h)) (cond s (first ∷ new) new) new)
  behind_first n h s t first token old new apart both rest = grind arith

  -- If the oldest token is out too, it is gone from its queue, where it was the first; other queues stay.
  pub oldest_first : (present out : List Token) (token : Token) (b : AtomTree) → NumbersIncrease present → IsOldest present out token
      → tokens_of b (staying out present) ≡ cond (eq_by_cmp atom_cmp token.atom b) (token ∷ tokens_of b (staying (token ∷ out) present)) (tokens_of b (staying (token ∷ out) present))
  oldest_first [] out token b rise is = absurd (contains_none token is.there)
  oldest_first (first ∷ rest) out token b rise is =
      ⊎_elim
      (λ (same : first ≡ token). subst (λ (t : Token). tokens_of b (staying out (first ∷ rest)) ≡ cond (eq_by_cmp atom_cmp t.atom b) (t ∷ tokens_of b (staying (t ∷ out) (first ∷ rest))) (tokens_of b (staying (t ∷ out) (first ∷ rest)))) same
      (at_first (has_number out first.number) (first.number == first.number) (ap (λ (t : Token). has_number out t.number) same ∙ is.here) (number_itself first.number first.number refl)
      (staying_alike out (first ∷ out) rest (λ other there. let less = all_at (λ (t : Token). first.number < t.number) rest other rise.0 there in sym (ap (λ (t : Bool). t || has_number out other.number) (below_apart first.number other.number less))))))
      (λ later.
      let less : first.number < token.number = all_at (λ (t : Token). first.number < t.number) rest token rise.0 later in
      kept_first b (not (has_number out first.number)) first (staying out rest)
      ∙ behind_first (token.number == first.number) (has_number out first.number) (eq_by_cmp atom_cmp first.atom b) (eq_by_cmp atom_cmp token.atom b) first token (tokens_of b (staying out rest)) (tokens_of b (staying (token ∷ out) rest))
      (above_apart token.number first.number less)
      (λ stays mine its. let least = is.oldest first (contains_first first rest) (same_atom laws first.atom b mine ∙ sym (same_atom laws token.atom b its)) stays in omega arith)
      (oldest_first rest out token b rise.1 (record { there = later; here = is.here; oldest = λ other there. is.oldest other (contains_behind first rest other there) }))
      ∙ ap (λ (tokens : List Token). cond (eq_by_cmp atom_cmp token.atom b) (token ∷ tokens) tokens) (sym (kept_first b (not (has_number (token ∷ out) first.number)) first (staying (token ∷ out) rest))))
      (contains_cases first rest token is.there)
    where
      above_apart : (x y : ℕ) → y < x → (x == y) ≡ false
      above_apart x y less = grind (arith, nat_tests)

      at_first : (h n : Bool) → h ≡ false → n ≡ true → staying out rest ≡ staying (first ∷ out) rest
          → tokens_of b (cond (not h) (first ∷ staying out rest) (staying out rest)) ≡ cond (eq_by_cmp atom_cmp first.atom b) (first ∷ tokens_of b (cond (not (n || h)) (first ∷ staying (first ∷ out) rest) (staying (first ∷ out) rest))) (tokens_of b (cond (not (n || h)) (first ∷ staying (first ∷ out) rest) (staying (first ∷ out) rest)))
      at_first true n none itself' same = absurd (false≢true (sym none))
      at_first false false none itself' same = absurd (false≢true itself')
      at_first false true none itself' same = ap (λ (tokens : List Token). cond (eq_by_cmp atom_cmp first.atom b) (first ∷ tokens_of b tokens) (tokens_of b tokens)) same

-- Tokens are made for one right atom after another.

zip_length : {A B : Type 0} (R : A → B → Type 0) (xs : List A) (ys : List B) → AllZip R xs ys → length xs ≡ length ys
zip_length R (x ∷ xs) (y ∷ ys) all = let rest = zip_length R xs ys all.1 in omega arith
zip_length R xs ys all = grind arith

some_first : {X : Type 0} (xs : List X) → 0 < length xs → (x : X) × Contains xs x
some_first [] some = absurd (omega arith)
some_first (x ∷ xs) some = (x, contains_first x xs)

same_tests : (a b : ℕ) → (0 < a → 0 < b) → (0 < b → 0 < a) → nat_lt 0 a ≡ nat_lt 0 b
same_tests a b there back = grind (arith, nat_tests)

pub tokens_push : (b : AtomTree) (tokens : List Token) (token : Token) → tokens_of b (tokens ++ token ∷ []) ≡ cond (eq_by_cmp atom_cmp token.atom b) (tokens_of b tokens ++ token ∷ []) (tokens_of b tokens)
tokens_push b [] token = by (eq_by_cmp atom_cmp token.atom b)
  where
    by : (t : Bool) → ◌≡◌ {A = List Token} (cond t (token ∷ []) []) (cond t (token ∷ []) [])
    by t = refl
tokens_push b (first ∷ tokens) token = by (eq_by_cmp atom_cmp first.atom b) (eq_by_cmp atom_cmp token.atom b) (tokens_push b tokens token)
  where
    by : (s t : Bool) → tokens_of b (tokens ++ token ∷ []) ≡ cond t (tokens_of b tokens ++ token ∷ []) (tokens_of b tokens)
        → cond s (first ∷ tokens_of b (tokens ++ token ∷ [])) (tokens_of b (tokens ++ token ∷ [])) ≡ cond t (cond s (first ∷ tokens_of b tokens) (tokens_of b tokens) ++ token ∷ []) (cond s (first ∷ tokens_of b tokens) (tokens_of b tokens))
    by true true rest = ap (λ (ts : List Token). first ∷ ts) rest
    by true false rest = ap (λ (ts : List Token). first ∷ ts) rest
    by false true rest = rest
    by false false rest = rest

-- One token more, the youngest, is traced.
pub traced_push : (signature : Signature) (done : List Touch) (tokens : List Token) (token : Token) (a : AtomTree) (trace : Trace) (old new : Queues) → token.atom ≡ a
    → AreTraced signature done tokens old → Changes a (λ queue. queue ++ trace ∷ []) old new → IsTrace signature done token trace → AreTraced signature done (tokens ++ token ∷ []) new
traced_push signature done tokens token a trace old new same traced changes is b =
    subst (λ (row : List Trace). AllZip (IsTrace signature done) (tokens_of b (tokens ++ token ∷ [])) row) (sym (changes.queues b))
    (subst (λ (ts : List Token). AllZip (IsTrace signature done) ts (cond (eq_by_cmp atom_cmp a b) (queue_of old b ++ trace ∷ []) (queue_of old b))) (sym (tokens_push b tokens token))
    (by (eq_by_cmp atom_cmp token.atom b) (eq_by_cmp atom_cmp a b) (ap (λ (c : AtomTree). eq_by_cmp atom_cmp c b) same)))
  where
    by : (s t : Bool) → s ≡ t → AllZip (IsTrace signature done) (cond s (tokens_of b tokens ++ token ∷ []) (tokens_of b tokens)) (cond t (queue_of old b ++ trace ∷ []) (queue_of old b))
    by true true e = zip_push (IsTrace signature done) (tokens_of b tokens) (queue_of old b) token trace (traced b) is
    by true false e = absurd (false≢true (sym e))
    by false true e = absurd (false≢true e)
    by false false e = traced b

module _ (laws : BagLaws) (signature : Signature) where
  -- whether there is a copy of an atom among tokens
  counted : (a : AtomTree) (tokens : List Token) → nat_lt 0 (count_of (token_state tokens) a) ≡ nat_lt 0 (length (tokens_of a tokens))
  counted a tokens = same_tests (count_of (token_state tokens) a) (length (tokens_of a tokens))
      (λ some.
      let from = map_cases (λ (t : Token). t.atom) tokens a ((laws.gathered_there (token_atoms tokens) a).0 some) in
      let there = filter_there (λ (t : Token). eq_by_cmp atom_cmp t.atom a) tokens from.from from.there (ap (λ (b : AtomTree). eq_by_cmp atom_cmp b a) from.same ∙ itself laws a) in
      let within = there.1 in omega arith)
      (λ some.
      let first = some_first (tokens_of a tokens) some in
      let is = filter_cases (λ (t : Token). eq_by_cmp atom_cmp t.atom a) tokens first.0 first.1 in
      (laws.gathered_there (token_atoms tokens) a).1 (subst (λ (b : AtomTree). Contains (token_atoms tokens) b) (same_atom laws first.0.atom a is.1) (contains_map (λ (t : Token). t.atom) tokens first.0 is.0)))

  -- one token more counts one more
  more_counted : (tokens : List Token) (token : Token) (b : AtomTree) → count_of (with_one (token_state tokens) token.atom) b ≡ count_of (token_state (tokens ++ token ∷ [])) b
  more_counted tokens token b =
      let one : count_of (with_one (token_state tokens) token.atom) b ≡ count_of (gathered (token.atom ∷ [])) b + count_of (token_state tokens) b = laws.joined_count (token.atom ∷ []) (token_atoms tokens) b in
      let other = laws.joined_count (token_atoms tokens) (token.atom ∷ []) b in
      let same : count_of (token_state (tokens ++ token ∷ [])) b ≡ count_of (gathered (token_atoms tokens ++ token.atom ∷ [])) b = ap (λ (atoms : List AtomTree). count_of (gathered atoms) b) (map-append (λ (t : Token). t.atom) tokens (token ∷ [])) in
      omega arith

  module _ (values : List Tree) where
    module _ (atom : AtomTree) (atoms : List AtomTree) (number : ℕ) (old mid new : Queues) (id : ℕ) (meets : GetsId old (full_instance values atom) id mid) where
      same_test : (done : List Touch) (tokens : List Token) (t : Bool) → (is_fact signature (full_instance values atom) && nat_lt 0 (length (queue_of mid (full_instance values atom)))) ≡ t → AreTraced signature done tokens mid
          → (is_fact signature (full_instance values atom) && nat_lt 0 (count_of (token_state tokens) (full_instance values atom))) ≡ t
      same_test done tokens t test traced =
          ap (λ (s : Bool). is_fact signature (full_instance values atom) && s)
          (counted (full_instance values atom) tokens ∙ ap (λ n. nat_lt 0 n) (zip_length (IsTrace signature done) (tokens_of (full_instance values atom) tokens) (queue_of mid (full_instance values atom)) (traced (full_instance values atom)))) ∙ test

      met_traced : (done : List Touch) (tokens : List Token) → AreTraced signature done tokens old → AreTraced signature done tokens mid
      met_traced done tokens traced b = subst (λ (row : List Trace). AllZip (IsTrace signature done) (tokens_of b tokens) row) (sym (meets.queues b)) (traced b)

      -- the fact is there
      pub make_skip : (is_fact signature (full_instance values atom) && nat_lt 0 (length (queue_of mid (full_instance values atom)))) ≡ true → MakesFor signature values atoms number mid new → MakesFor signature values (atom ∷ atoms) number old new
      make_skip test rest done touch before tokens next last fresh makes traced =
          let traced' = met_traced (done ++ touch ∷ []) tokens traced in
          let e : made_for signature values tokens next (atom ∷ atoms) ≡ made_for signature values tokens next atoms =
          ap (λ (t : Bool). numbered next (cond t (gained (is_fact signature) (token_state tokens) (full_instances values atoms)) (full_instance values atom ∷ gained (is_fact signature) (with_one (token_state tokens) (full_instance values atom)) (full_instances values atoms))))
          (same_test (done ++ touch ∷ []) tokens true test traced') in
          subst (λ (made : List Token). AreTraced signature (done ++ touch ∷ []) (tokens ++ made) new) (sym e)
          (rest done touch before tokens next last fresh (makes ∙ ap (λ (made : List Token). before ++ made) e) traced')

      -- a token is made
      pub make_add : (late : Queues) (trace : Trace) → (is_fact signature (full_instance values atom) && nat_lt 0 (length (queue_of mid (full_instance values atom)))) ≡ false
          → trace.maker ≡ number → trace.users ≡ [] → Changes (full_instance values atom) (λ queue. queue ++ trace ∷ []) mid late
          → MakesFor signature values atoms number late new → MakesFor signature values (atom ∷ atoms) number old new
      make_add late trace test maker users changes rest done touch before tokens next last fresh makes traced =
          let traced' = met_traced (done ++ touch ∷ []) tokens traced in
          let e : made_for signature values tokens next (atom ∷ atoms) ≡ token ∷ made_for signature values (tokens ++ token ∷ []) (next + 1) atoms =
          ap (λ (t : Bool). numbered next (cond t (gained (is_fact signature) (token_state tokens) (full_instances values atoms)) (full_instance values atom ∷ gained (is_fact signature) (with_one (token_state tokens) (full_instance values atom)) (full_instances values atoms))))
          (same_test (done ++ touch ∷ []) tokens false test traced')
          ∙ ap (λ (more : List AtomTree). token ∷ numbered (next + 1) more)
          (laws.gained_alike (is_fact signature) (with_one (token_state tokens) (full_instance values atom)) (token_state (tokens ++ token ∷ [])) (full_instances values atoms) (λ b fact. more_counted tokens token b)) in
          let makes' : touch.makes ≡ (before ++ token ∷ []) ++ made_for signature values (tokens ++ token ∷ []) (next + 1) atoms =
          makes ∙ ap (λ (made : List Token). before ++ made) e ∙ sym (append_assoc before (token ∷ []) (made_for signature values (tokens ++ token ∷ []) (next + 1) atoms)) in
          let there : Contains touch.makes token = subst (λ (ts : List Token). Contains ts token) (sym makes')
          (contains_left (before ++ token ∷ []) (made_for signature values (tokens ++ token ∷ []) (next + 1) atoms) token (contains_right before (token ∷ []) token (contains_first token []))) in
          let own = fresh token there in
          let one = made_trace signature done touch token trace (maker ∙ last) users there own.0 own.1 own.2 in
          subst (λ (ts : List Token). AreTraced signature (done ++ touch ∷ []) ts new) (append_assoc tokens (token ∷ []) (made_for signature values (tokens ++ token ∷ []) (next + 1) atoms) ∙ ap (λ (made : List Token). tokens ++ made) (sym e))
          (rest done touch (before ++ token ∷ []) (tokens ++ token ∷ []) (next + 1) last fresh makes' (traced_push signature (done ++ touch ∷ []) tokens token (full_instance values atom) trace mid late refl traced' changes one))
        where
          token : Token
          token = record { number = next; atom = full_instance values atom }

-- The tokens of the start.

pub starts_met : (atoms : List AtomTree) (old new : Queues) (a : AtomTree) (id : ℕ) → GetsId old a id new → AreOfStart atoms old → AreOfStart atoms new
starts_met atoms old new a id meets starts signature b = subst (λ (row : List Trace). AllZip (IsTrace signature []) (tokens_of b (numbered 0 atoms)) row) (sym (meets.queues b)) (starts signature b)

-- one atom more is one token more
numbered_push : (next : ℕ) (atoms : List AtomTree) (a : AtomTree) → (token : Token) × (token.atom ≡ a) × (numbered next (atoms ++ a ∷ []) ≡ numbered next atoms ++ token ∷ [])
numbered_push next [] a = (record { number = next; atom = a }, refl, refl)
numbered_push next (b ∷ atoms) a = let rest = numbered_push (next + 1) atoms a in (rest.0, rest.1, ap (λ (tokens : List Token). record { number = next; atom = b } ∷ tokens) rest.2)

start_trace : (signature : Signature) (token : Token) (trace : Trace) → trace.maker ≡ 0 → trace.users ≡ [] → IsTrace signature [] token trace
start_trace signature token trace maker users = record {
  maker = λ place. (λ (e : trace.maker ≡ place + 1). absurd (omega arith), λ has. none_some has.0 has.1);
  users = λ linear place. (λ there. absurd (contains_none (place + 1) (subst (λ (ns : List ℕ). Contains ns (place + 1)) users there)), λ has. none_some has.0 has.1);
}

pub starts_more : (atoms : List AtomTree) (old new : Queues) (a : AtomTree) (trace : Trace) → trace.maker ≡ 0 → trace.users ≡ [] → Changes a (λ queue. queue ++ trace ∷ []) old new → AreOfStart atoms old → AreOfStart (atoms ++ a ∷ []) new
starts_more atoms old new a trace maker users changes starts signature =
    let more = numbered_push 0 atoms a in
    subst (λ (tokens : List Token). (b : AtomTree) → AllZip (IsTrace signature []) (tokens_of b tokens) (queue_of new b)) (sym more.2)
    (traced_push signature [] (numbered 0 atoms) more.0 a trace old new more.1 (starts signature) changes (start_trace signature more.0 trace maker users))

-- one copy more
pub copies_more : (atoms : List AtomTree) (n : ℕ) (old new : Queues) (a : AtomTree) (trace : Trace) → trace.maker ≡ 0 → trace.users ≡ [] → Changes a (λ queue. queue ++ trace ∷ []) old new
    → AreOfStart (atoms ++ replicate n a) old → AreOfStart (atoms ++ replicate (n + 1) a) new
copies_more atoms n old new a trace maker users changes starts =
    subst (λ (all : List AtomTree). AreOfStart all new) (append_assoc atoms (replicate n a) (a ∷ []) ∙ ap (λ (more : List AtomTree). atoms ++ more) (replicate_more n a))
    (starts_more (atoms ++ replicate n a) old new a trace maker users changes starts)

-- the copies of one entry more
pub entry_more : (entries : List (AtomTree × ℕ)) (i : ℕ) (a : AtomTree) (n : ℕ) → slice_get entries i ≡ Some (a, n)
    → flat_map (λ (e : AtomTree × ℕ). replicate e.1 e.0) (take (i + 1) entries) ≡ flat_map (λ (e : AtomTree × ℕ). replicate e.1 e.0) (take i entries) ++ replicate n a
entry_more entries i a n at = rw (take_next entries i (a, n) at, flat_map-append (λ (e : AtomTree × ℕ). replicate e.1 e.0) (take i entries) ((a, n) ∷ []), append-nil (replicate n a))
