-- Premises and variables that are judged one after another.
use Rattle.std.proofs.Common.{◌≡◌, ℕ, zero, suc, ◌+◌, ◌<◌, ◌≤◌, ◌==◌, nat_lt, Bool, true, false, ◌&&◌, ◌||◌, List, [], ◌∷◌, ◌++◌, length, Contains, map, take, get_or, refl, sym, ap, ◌∙◌, append_assoc, Bor, ◌≢◌, eq-eqb, eqb-true, length-append, arith, subst}
use Rattle.std.specs.Prelude.{Option, Some, None, slice_get, is_some, option_map, unwrap_or, Result, IfOk, MatchOption}
use Rattle.std.specs.List.{list_any, list_all, AllByRecursion}
use Rattle.std.proofs.lemmas.List.{length-map, take_all}
use Rattle.std.proofs.lemmas.Option.{slice_get-get_or, slice_get_past as beyond_none}
use Rattle.std.proofs.lemmas.Bool.{ltb-false, eqb-false, true≢false, false≢true, cases_lt}
use Rattle.cep_base.proofs.Elements.{all_at, contains_first, contains_right}
use Rattle.cep_base.proofs.Lists.{take_next, map_last, get_mapped, none_some, some_same, all_pushed, holds_at}
use Rattle.cep_base.proofs.Options.{some_there, within_got}
use Rattle.cep_rule.specs.Typing.{HasSort, HaveSorts, IsTyped}
use Rattle.cep_term.specs.declared.term.Atom.{Atom}
use Rattle.cep_term.specs.Tree.{AtomTree, atom_of, Trees, variable, none, more}
use Rattle.cep_rule.specs.declared.rule.Rule.{Rule}
use Rattle.cep_rule.specs.declared.signature.Con.{Con}
use Rattle.cep_rule.specs.declared.signature.Signature.{Signature}
use Rattle.cep_rule.specs.Binding.{needed_of}
use Rattle.cep_rule.specs.Limits.{IsSmallSignature}
use Rattle.cep_reach.specs.declared.bits.Bits.{Bits}
use Rattle.cep_reach.specs.Sets.{has_bit}
use Rattle.cep_reach.specs.Shut.{IsFirstShut, IsFirstEmpty}
use Rattle.cep_reach.specs.Tables.{Possibility, nth_argument, HasVarAt, StandsAlone, IsOpen, CanBegin, PremisesPass}
use Rattle.cep_reach.specs.Held.{words_at, is_in_set, has_all, is_among, stands_alone, is_kept_among, is_kept, is_of_sort, can_begin, arguments_in, HasFewArguments, is_open, AreSets}
use Rattle.cep_reach.proofs.Deciding.{open_true, open_is, alone_true, begin_true, begin_is}
pub use Rattle.cep_base.proofs.Bytes.{any_map as any_mapped}

-- Lists that grow at their end, and what is told of each of their items.

pub pushed : {X A : Type 0} (at : X → A) (old : List A) (now : List X) (list : List A) (i : ℕ) (x : X) → slice_get list i ≡ Some (at x) → map at now ≡ old ++ take i list → map at (now ++ x ∷ []) ≡ old ++ take (i + 1) list
pushed at old now list i x is e = grind (arith, map_last, append_assoc, take_next)

pub all_taken : {A : Type 0} (list : List A) (i : ℕ) → length list ≤ i → take i list ≡ list
all_taken list i within = take_all i list within

pub item_at : {X A : Type 0} (f : X → A) (xs : List X) (i : ℕ) (x : X) → i < length xs → x ≡ get_or xs i x → slice_get (map f xs) i ≡ Some (f x)
item_at f xs i x less is = get_mapped f xs i x (slice_get-get_or xs i x less ∙ ap Some (sym is))

any_last : {A : Type 0} (test : A → Bool) (xs : List A) (x : A) → list_any test (xs ++ x ∷ []) ≡ (list_any test xs || test x)
any_last test [] x = grind arith
any_last test (y ∷ xs) x = grind (arith, any_last test xs x)

all_last : {A : Type 0} (test : A → Bool) (xs : List A) (x : A) → list_all test (xs ++ x ∷ []) ≡ (list_all test xs && test x)
all_last test [] x = grind arith
all_last test (y ∷ xs) x = grind (arith, all_last test xs x)

pub any_next : {A : Type 0} (test : A → Bool) (xs : List A) (i : ℕ) (x : A) → slice_get xs i ≡ Some x → list_any test (take (i + 1) xs) ≡ (list_any test (take i xs) || test x)
any_next test xs i x is = ap (list_any test) (take_next xs i x is) ∙ any_last test (take i xs) x

pub all_next : {A : Type 0} (test : A → Bool) (xs : List A) (i : ℕ) (x : A) → slice_get xs i ≡ Some x → list_all test (take (i + 1) xs) ≡ (list_all test (take i xs) && test x)
all_next test xs i x is = ap (list_all test) (take_next xs i x is) ∙ all_last test (take i xs) x

-- one constructor more is looked at
pub sort_next : (sort_at : ℕ → Bool) (c : ℕ) (old new : ℕ → Bool) → ((m : ℕ) → old m ≡ (nat_lt m c && sort_at m)) → sort_at c ≡ true → ((m : ℕ) → new m ≡ ((m == c) || old m)) → (m : ℕ) → new m ≡ (nat_lt m (c + 1) && sort_at m)
sort_next sort_at c old new was is further m = let e = further m in let o = was m in grind (arith, e, o, is)

pub sort_passed : (sort_at : ℕ → Bool) (c : ℕ) (old : ℕ → Bool) → ((m : ℕ) → old m ≡ (nat_lt m c && sort_at m)) → sort_at c ≡ false → (m : ℕ) → old m ≡ (nat_lt m (c + 1) && sort_at m)
sort_passed sort_at c old was is m = let o = was m in grind (arith, o, is)

pub sort_done : (cons : List Con) (sort c : ℕ) (set : ℕ → Bool) → length cons ≤ c → ((m : ℕ) → set m ≡ (nat_lt m c && is_of_sort cons sort m)) → (m : ℕ) → set m ≡ is_of_sort cons sort m
sort_done cons sort c set done is m = grind (arith, beyond_none, ltb-false)

-- one set more
pub set_kept : (sets : List Bits) (set : Bits) (w : ℕ) → w < length sets → words_at (sets ++ set ∷ []) w ≡ words_at sets w
set_kept (first ∷ sets) set (suc w) less = set_kept sets set w (omega arith)
set_kept sets set w less = grind arith

pub set_last : (sets : List Bits) (set : Bits) → words_at (sets ++ set ∷ []) (length sets) ≡ set.words.items
set_last [] set = refl
set_last (first ∷ sets) set = set_last sets set

-- the tree of an atom that is borrowed
abbrev pub tree_at : Bor Atom → AtomTree
tree_at a = atom_of a.now

pub trees_taken : (atoms : List (Bor Atom)) (i : ℕ) → length atoms ≤ i → take i (map tree_at atoms) ≡ map tree_at atoms
trees_taken atoms i within = all_taken (map tree_at atoms) i (omega (arith, length-map atoms tree_at))

pub needed_taken : (rule : Rule) (i : ℕ) → length rule.premises ≤ i → take i (needed_of rule) ≡ needed_of rule
needed_taken rule i within = all_taken (needed_of rule) i (omega (arith, length-map rule.premises (λ premise. premise.atom)))

pub sort_is : (cons : List Con) (sort c : ℕ) (con : Con) → slice_get cons c ≡ Some con → con.sort ≡ sort → is_of_sort cons sort c ≡ true
sort_is cons sort c con is same = ap (λ o. unwrap_or (option_map (λ (k : Con). k.sort == sort) o) false) is ∙ eq-eqb con.sort sort same

pub sort_is_not : (cons : List Con) (sort c : ℕ) (con : Con) → slice_get cons c ≡ Some con → con.sort ≢ sort → is_of_sort cons sort c ≡ false
sort_is_not cons sort c con is other = ap (λ o. unwrap_or (option_map (λ (k : Con). k.sort == sort) o) false) is ∙ (elim (con.sort == sort) as (λ b. (con.sort == sort) ≡ b → b ≡ false) [ true ↦ λ e. absurd (other (eqb-true con.sort sort e)) | false ↦ λ _. refl ] refl)

-- what is left of a set at the premises so far
pub record IsLeft (has : Possibility → Bool) (atoms : List AtomTree) (i v : ℕ) (set : Option Bits) : Type 0 where
  pub all : (c : ℕ) → has_all set c ≡ is_kept has (take i atoms) v c
  pub some : is_some set ≡ stands_alone (take i atoms) v

pub left_next : (has : Possibility → Bool) (atoms : List AtomTree) (i v : ℕ) (a : AtomTree) (old kept : Option Bits) → slice_get atoms i ≡ Some a → IsLeft has atoms i v old → ((c : ℕ) → has_all kept c ≡ (has_all old c && is_kept_among has a.pred 0 a.args v c)) → is_some kept ≡ (is_some old || is_among v a.args) → IsLeft has atoms (i + 1) v kept
left_next has atoms i v a old kept is left all some = record {
  all = λ c. all c ∙ ap (λ b. b && is_kept_among has a.pred 0 a.args v c) (left.all c) ∙ sym (all_next (λ (b : AtomTree). is_kept_among has b.pred 0 b.args v c) atoms i a is);
  some = some ∙ ap (λ b. b || is_among v a.args) left.some ∙ sym (any_next (λ (b : AtomTree). is_among v b.args) atoms i a is);
}

pub left_last : (has : Possibility → Bool) (atoms : List AtomTree) (i v : ℕ) (set : Option Bits) → take i atoms ≡ atoms → IsLeft has atoms i v set → ((c : ℕ) → has_all set c ≡ is_kept has atoms v c) × (is_some set ≡ stands_alone atoms v)
left_last has atoms i v set done left = ((λ c. left.all c ∙ ap (λ xs. is_kept has xs v c) done), (left.some ∙ ap (λ xs. stands_alone xs v) done))

-- the set of a variable that stands by itself, and of one that does not
pub begin_alone : (signature : Signature) (has : Possibility → Bool) (kinds : List ℕ) (atoms : List AtomTree) (v : ℕ) (set : ℕ → Bool) → true ≡ stands_alone atoms v → ((c : ℕ) → set c ≡ is_kept has atoms v c) → (c : ℕ) → set c ≡ can_begin signature has kinds atoms v c
begin_alone signature has kinds atoms v set alone is c = rw (← alone) (is c)

pub begin_typed : {E : Type 0} (signature : Signature) (has : Possibility → Bool) (kinds : List ℕ) (atoms : List AtomTree) (v : ℕ) (r : Result Bits E) → false ≡ stands_alone atoms v → v < length kinds → IfOk r (λ set. (c : ℕ) → has_bit set.words.items c ≡ is_of_sort signature.cons (get_or kinds v 0) c) → IfOk r (λ set. (c : ℕ) → has_bit set.words.items c ≡ can_begin signature has kinds atoms v c)
begin_typed signature has kinds atoms v r alone less is = grind (arith, slice_get-get_or)

-- one set more
pub sets_next : (signature : Signature) (has : Possibility → Bool) (kinds : List ℕ) (atoms : List AtomTree) (sets : List Bits) (set : Bits) (v : ℕ) → (length sets ≡ v) × ((w c : ℕ) → w < v → is_in_set sets w c ≡ can_begin signature has kinds atoms w c) → ((c : ℕ) → has_bit set.words.items c ≡ can_begin signature has kinds atoms v c) → (length (sets ++ set ∷ []) ≡ v + 1) × ((w c : ℕ) → w < v + 1 → is_in_set (sets ++ set ∷ []) w c ≡ can_begin signature has kinds atoms w c)
sets_next signature has kinds atoms sets set v are is = grind (arith, length-append, eqb-true, set_last, eqb-false, set_kept, are.0, are.1)

-- Premises that are judged one after another, and variables.

counted : (cons : List Con) (kinds sorts : List ℕ) (args : Trees) → HaveSorts cons kinds sorts args → arguments_in args ≡ length sorts
counted cons kinds [] none is = refl
counted cons kinds (sort ∷ sorts) (more t rest) is = let others = counted cons kinds sorts rest is.1 in omega arith
counted cons kinds sorts args is = absurd is

pub typed_short : (signature : Signature) (kinds : List ℕ) (a : AtomTree) → IsSmallSignature signature → IsTyped signature kinds a → HasFewArguments a
typed_short signature kinds a small typed = grind (arith, some_there, holds_at, counted, signature.preds, a.pred, signature.cons, a.args, small.pred_args)

kind_at : (cons : List Con) (kinds sorts : List ℕ) (args : Trees) (i v : ℕ) → HaveSorts cons kinds sorts args → nth_argument args i ≡ Some (variable v) → v < length kinds
kind_at cons kinds sorts none i v is at = none_some (variable v) at
kind_at cons kinds [] (more t rest) i v is at = absurd is
kind_at cons kinds (sort ∷ sorts) (more t rest) zero v is at = within_got kinds v sort (subst (HasSort cons kinds sort) (some_same t (variable v) at) is.0)
kind_at cons kinds (sort ∷ sorts) (more t rest) (suc i) v is at = kind_at cons kinds sorts rest i v is.1 at

pub variable_in_range : (signature : Signature) (kinds : List ℕ) (a : AtomTree) (i v : ℕ) → IsTyped signature kinds a → HasVarAt a i v → v < length kinds
variable_in_range signature kinds a i v typed at = grind (arith, some_there, kind_at, signature.preds, a.pred, signature.cons, a.args)

pub alone_in_range : (signature : Signature) (kinds : List ℕ) (premises : List AtomTree) (v : ℕ) → AllByRecursion (IsTyped signature kinds) premises → StandsAlone premises v → v < length kinds
alone_in_range signature kinds premises v typed alone = variable_in_range signature kinds alone.0 alone.2.0 v (all_at (IsTyped signature kinds) premises alone.0 typed alone.1) alone.2.1

-- A list up to an item, the item, and the rest.
pub record IsSplit {A : Type 0} (xs : List A) (i : ℕ) (x : A) : Type 0 where
  pub rest : List A
  pub whole : xs ≡ take i xs ++ x ∷ rest
  pub as_long : length (take i xs) ≡ i

split_at : {A : Type 0} (xs : List A) (i : ℕ) (x : A) → slice_get xs i ≡ Some x → IsSplit xs i x
split_at (y ∷ xs) (suc i) x is = let later = split_at xs i x is in record { rest = later.rest; whole = ap (λ l. y ∷ l) later.whole; as_long = ap suc later.as_long }
split_at xs i x is = grind (arith, none_some, some_same)

-- a premise that is not open is not among those that are
pub shut_among : (table : Possibility → Type 0) (premises : List AtomTree) (place : ℕ) → IsFirstShut table premises place → AllByRecursion (IsOpen table) premises → ⊥
shut_among table premises place is all =
    is.is_shut (all_at (IsOpen table) premises is.shut all (subst (λ (xs : List AtomTree). Contains xs is.shut) (sym is.whole) (contains_right is.before (is.shut ∷ is.rest) is.shut (contains_first is.shut is.rest))))

module _ (has : Possibility → Bool) where
  abbrev table : Possibility → Type 0
  table item = has item ≡ true

  pub open_next : (xs : List AtomTree) (i : ℕ) (a : AtomTree) (r : Bool) → slice_get xs i ≡ Some a → AllByRecursion (IsOpen table) (take i xs) → r ≡ is_open has a → r ≡ true → AllByRecursion (IsOpen table) (take (i + 1) xs)
  open_next xs i a r is all told open_now = subst (AllByRecursion (IsOpen table)) (sym (take_next xs i a is)) (all_pushed (IsOpen table) (take i xs) a all (open_true has a (sym told ∙ open_now)))

  pub shut_found : (xs : List AtomTree) (i : ℕ) (a : AtomTree) (r : Bool) → slice_get xs i ≡ Some a → AllByRecursion (IsOpen table) (take i xs) → r ≡ is_open has a → r ≡ false → IsFirstShut table xs (i + 1)
  shut_found xs i a r is all told shut_now = grind (arith, split_at xs i a is, open_is)

  module _ (signature : Signature) (kinds : List ℕ) (premises : List AtomTree) (sets : List Bits) (are : AreSets sets signature has kinds premises) where
    abbrev NoneEmptyBelow : ℕ → Type 0
    NoneEmptyBelow v = (w : ℕ) → w < v → StandsAlone premises w → (c : ℕ) × CanBegin signature table kinds premises w c

    told_at : (v c : ℕ) (words : List ℕ) → v < length sets → words ≡ words_at sets v → has_bit words c ≡ can_begin signature has kinds premises v c
    told_at v c words less is = ap (λ ws. has_bit ws c) is ∙ are.each v c (omega (arith, are.as_many))

    pub empty_found : (v : ℕ) (words : List ℕ) → v < length sets → words ≡ words_at sets v → ((n : ℕ) → has_bit words n ≡ false) → true ≡ stands_alone premises v → NoneEmptyBelow v → IsFirstEmpty signature table kinds premises v
    empty_found v words less is none_there alone below = record {
      alone = alone_true premises v (sym alone);
      none = λ c begin. true≢false (sym (begin_is has signature kinds premises v c begin) ∙ sym (told_at v c words less is) ∙ none_there c);
      first = below;
    }

    pub some_at : (v : ℕ) (words : List ℕ) → v < length sets → words ≡ words_at sets v → (n : ℕ) × (has_bit words n ≡ true) → (c : ℕ) × CanBegin signature table kinds premises v c
    some_at v words less is some = (some.0, begin_true has signature kinds premises v some.0 (sym (told_at v some.0 words less is) ∙ some.1))

    pub none_empty_next : (v : ℕ) → NoneEmptyBelow v → (StandsAlone premises v → (c : ℕ) × CanBegin signature table kinds premises v c) → NoneEmptyBelow (v + 1)
    none_empty_next v below here w less alone = grind (arith, cases_lt w v)

    pub none_empty : (v : ℕ) → length sets ≤ v → AllByRecursion (IsTyped signature kinds) premises → NoneEmptyBelow v → (w : ℕ) → StandsAlone premises w → (c : ℕ) × CanBegin signature table kinds premises w c
    none_empty v done typed below w alone = let low = alone_in_range signature kinds premises w typed alone in below w (omega (arith, are.as_many)) alone

  module _ (signature : Signature) (kinds : List ℕ) (premises : List AtomTree) where
    pub shut_stops : (o : Option ℕ) → is_some o ≡ true → MatchOption o (AllByRecursion (IsOpen table) premises) (λ place. IsFirstShut table premises (place + 1)) → ¬ PremisesPass signature table kinds premises
    shut_stops o some told = grind (arith, shut_among, table)

    pub empty_stops : (o : Option ℕ) → is_some o ≡ true → MatchOption o ((v : ℕ) → StandsAlone premises v → (c : ℕ) × CanBegin signature table kinds premises v c) (λ v. IsFirstEmpty signature table kinds premises v) → ¬ PremisesPass signature table kinds premises
    empty_stops None some told = absurd (false≢true some)
    empty_stops (Some v) some told = λ passes. let begin = passes.possible v told.alone in told.none begin.0 begin.1

    pub both_pass : (o o' : Option ℕ) → is_some o ≡ false → is_some o' ≡ false → MatchOption o (AllByRecursion (IsOpen table) premises) (λ place. IsFirstShut table premises (place + 1)) → MatchOption o' ((v : ℕ) → StandsAlone premises v → (c : ℕ) × CanBegin signature table kinds premises v c) (λ v. IsFirstEmpty signature table kinds premises v) → PremisesPass signature table kinds premises
    both_pass o o' none_shut none_empty' opened possible = grind arith
