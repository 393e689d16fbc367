-- Edits of entries and of blocks of them, as edits of counts.
use Rattle.std.proofs.Common.{◌≡◌, ℕ, ◌+◌, ◌<◌, Bool, true, cond, not, ◌==◌, List, [], ◌∷◌, None, refl, sym, ap, subst, arith, zero, suc, ◌-◌, ◌≤◌, false, ◌++◌, length, get_or, set, take, drop, Option, Some, append_assoc, unwrap_or, ◌↔◌, ◌∙◌}
use Rattle.std.specs.Prelude.{sum_by, T, slice_get}
use Rattle.std.specs.List.{AllByRecursion, insert, remove}
use Rattle.std.proofs.lemmas.List.Sums.{sum_by-cons}
use Rattle.std.specs.declared.cmp.Ordering.TheVariants.{Less}
use Rattle.std.specs.Ordering.{is_eq, eq_by_cmp}
use Rattle.std.specs.Cmp.{alike_right, eq_by_cmp_equiv}
use Rattle.std.specs.FinMap.Entries.{find, put, where_key, is_sorted-put, is_sorted-where_key, find-put, find-where_key, below_all}
use Rattle.std.specs.FinMap as finite
use Rattle.cep_base.proofs.SortedEntries.{below_rest, rest_sorted, find_below, keep_below, below_further, greater, lesser, below_one, find_at, find_gap, put_at, put_gap, remove_at}
use Rattle.cep_term.specs.Tree.{AtomTree, IsGroundAtom, atom_of}
use Rattle.cep_term.specs.Order.{atom_cmp}
use Rattle.cep_term.specs.Multiset.{IsEntry, with_count, Multiset, count_of, copies_in, IsContained, IsBag}
use Rattle.cep_term.specs.Entries.{IsRising, find_count, set_among, Block, entry_of, entries_of, later_entries, entries_in, HaveEntries, AreBefore, IsLaterFor, IsBlockFor, begins_by, IsBegunTo, IsAt, IsGapFor, AreKept}
use Rattle.cep_term.proofs.OrderLaws.{atom_cmp_total, atom_cmp_ties}
use Rattle.std.proofs.lemmas.Bool.{and_parts}
use Rattle.std.specs.Option.{SomeIff}
use Rattle.std.proofs.lemmas.List.{get_or-append-add, get_or-map, length-map, map-append, take-append-drop, take_all}
use Rattle.std.proofs.lemmas.Option.{slice_get-get_or}
use Rattle.std.proofs.lemmas.List.Concat.{get_or-flat_map}
use Rattle.cep_term.specs.declared.blocks.Blocks.{Blocks}
use Rattle.cep_term.specs.declared.entries.Entry.{Entry}

-- Edits of a list of entries at an atom's place, as edits of the counts.

-- an atom with its count
abbrev pub Counted : Type 0
Counted = AtomTree × ℕ

pub true_is : {b : Bool} → b ≡ true → T b
true_is {b} e = subst T (sym e) tt

pub is_true : {b : Bool} → T b → b ≡ true
is_true {b} t = grind arith

-- the conditional on a count that is 0 or not
pub on_count : {A : Type 0} (P : A → Type 0) (n : ℕ) (x y : A) → (n ≡ 0 → P x) → (0 < n → P y) → P (cond (n == 0) x y)
on_count P n x y f g = grind arith

-- the entries without the atom's
abbrev pub without : AtomTree → List Counted → List Counted
without a es = where_key atom_cmp (λ b. not (eq_by_cmp atom_cmp a b)) es

rising_without : (es : List Counted) (a : AtomTree) → IsRising es → IsRising (without a es)
rising_without es a rising = is_true (is_sorted-where_key atom_cmp (λ b. not (eq_by_cmp atom_cmp a b)) es (true_is rising))

rising_put : (es : List Counted) (a : AtomTree) (n : ℕ) → IsRising es → IsRising (put atom_cmp a n es)
rising_put es a n rising = is_true (is_sorted-put atom_cmp atom_cmp_total a n es (true_is rising))

pub rising_set : (es : List Counted) (a : AtomTree) (n : ℕ) → IsRising es → IsRising (set_among es a n)
rising_set es a n rising = on_count IsRising n (without a es) (put atom_cmp a n es) (λ e. rising_without es a rising) (λ some. rising_put es a n rising)

-- each entry keeps a copy of a ground atom
each_put : (es : List Counted) (a : AtomTree) (n : ℕ) → 0 < n → IsGroundAtom a → AllByRecursion IsEntry es → AllByRecursion IsEntry (put atom_cmp a n es)
each_put [] a n some known all = ((some, known), tt)
each_put (e ∷ es) a n some known all = grind (arith, each_put es a n some known)

each_without : (es : List Counted) (a : AtomTree) → AllByRecursion IsEntry es → AllByRecursion IsEntry (without a es)
each_without [] a all = tt
each_without (e ∷ es) a all = grind (arith, each_without es a)

pub each_set : (es : List Counted) (a : AtomTree) (n : ℕ) → IsGroundAtom a → AllByRecursion IsEntry es → AllByRecursion IsEntry (set_among es a n)
each_set es a n known all = on_count (AllByRecursion IsEntry) n (without a es) (put atom_cmp a n es) (λ e. each_without es a all) (λ some. each_put es a n some known all)

-- A worth of each count of an atom, of which no copies are worth nothing; and the worth of all entries. With the count itself it is the number of copies.
module _ (worth : AtomTree → ℕ → ℕ) (nothing : (a : AtomTree) → worth a 0 ≡ 0) where
  abbrev pub worth_of : List Counted → ℕ
  worth_of es = sum_by (λ e. worth e.0 e.1) es

  worth_of-cons : (e : Counted) (es : List Counted) → worth_of (e ∷ es) ≡ worth e.0 e.1 + worth_of es
  worth_of-cons e es = sum_by-cons (λ (d : Counted). worth d.0 d.1) e es

  -- a count that is set takes the place of the old one in the sum
  worth_put : (es : List Counted) (a : AtomTree) (n : ℕ) → IsRising es → worth_of (put atom_cmp a n es) + worth a (find_count es a) ≡ worth_of es + worth a n
  worth_put [] a n rising = omega (arith, worth_of-cons (a, n) [], nothing a)
  worth_put (e ∷ es) a n rising =
      let below = find_below atom_cmp a es in
      let further = λ (less : atom_cmp a e.0 ≡ Less). below_further atom_cmp atom_cmp_total a e.0 es less (below_rest atom_cmp e es rising) in
      let rest = worth_put es a n (rest_sorted atom_cmp e es rising) in
      grind (arith, worth_of-cons, worth_of-cons (a, n) (e ∷ es), worth_of-cons (e.0, n) es, worth_of-cons e (put atom_cmp a n es), atom_cmp_ties a e.0, nothing a)

  worth_without : (es : List Counted) (a : AtomTree) → IsRising es → worth_of (without a es) + worth a (find_count es a) ≡ worth_of es
  worth_without [] a rising = omega (arith, nothing a)
  worth_without (e ∷ es) a rising = grind (arith, below_rest atom_cmp e es rising, keep_below atom_cmp a es, rest_sorted atom_cmp e es rising, worth_of-cons, atom_cmp_ties a e.0, worth_without es a (rest_sorted atom_cmp e es rising), e.0)

  pub worth_set : (es : List Counted) (a : AtomTree) (n : ℕ) → IsRising es → worth_of (set_among es a n) + worth a (find_count es a) ≡ worth_of es + worth a n
  worth_set es a n rising = grind (arith, on_count, worth_without, worth_put)

-- the copies of all entries
abbrev pub total : List Counted → ℕ
total es = sum_by (λ e. e.1) es

pub total-cons : (e : Counted) (es : List Counted) → total (e ∷ es) ≡ e.1 + total es
total-cons e es = sum_by-cons (λ (d : Counted). d.1) e es

pub total_set : (es : List Counted) (a : AtomTree) (n : ℕ) → IsRising es → total (set_among es a n) + find_count es a ≡ total es + n
total_set = worth_set (λ a n. n) (λ a. refl)

-- what stands in the multiset of a rising list
pub entries_rising : (es : List Counted) → IsRising es → finite.entries (finite.from_sorted {R = atom_cmp} es) ≡ es
entries_rising es rising = finite.entries-from_sorted atom_cmp es (true_is rising)

pub get_rising : (es : List Counted) (a : AtomTree) → IsRising es → finite.get (finite.from_sorted {R = atom_cmp} es) a ≡ find atom_cmp a es
get_rising es a rising = finite.get-from_sorted atom_cmp es a (true_is rising)

get_without : (es : List Counted) (a q : AtomTree) → find atom_cmp q (without a es) ≡ cond (eq_by_cmp atom_cmp q a) None (find atom_cmp q es)
get_without es a q = grind (arith, find-where_key atom_cmp (λ b. not (eq_by_cmp atom_cmp a b)) q (λ x tie. ap (λ r. not (is_eq r)) (sym (alike_right atom_cmp_total q x a tie))) es, (eq_by_cmp_equiv atom_cmp_total).symm a q)

-- to set a count among the entries is to set it in the multiset
pub bag_set : (es : List Counted) (a : AtomTree) (n : ℕ) → IsRising es → finite.from_sorted {R = atom_cmp} (set_among es a n) ≡ with_count (finite.from_sorted es) a n
bag_set es a n rising = finite.same_map atom_cmp_total atom_cmp_ties _ _ (λ q.
    grind (arith, get_rising (set_among es a n) q (rising_set es a n rising), get_rising es q rising, get_without es a q, find-put atom_cmp atom_cmp_total q a n es, finite.get-remove atom_cmp_total (finite.from_sorted es) a q, finite.get-insert atom_cmp_total (finite.from_sorted es) a n q))

-- Blocks of entries: what is done to the block of an atom is done to all entries.

-- both parts of rising entries rise
below_both : (k : AtomTree) (xs ys : List Counted) → below_all atom_cmp k (xs ++ ys) ≡ true → (below_all atom_cmp k xs ≡ true) × (below_all atom_cmp k ys ≡ true)
below_both k [] ys below = (refl, below)
below_both k (x ∷ xs) ys below = grind (arith, below_both k xs ys)

pub rising_both : (xs ys : List Counted) → IsRising (xs ++ ys) → IsRising xs × IsRising ys
rising_both [] ys rising = (refl, rising)
rising_both (x ∷ xs) ys rising = grind (arith, rising_both xs ys, below_both x.0 xs ys)

-- those before an entry that is not after the atom are before the atom
before_begun : (xs es ys : List Counted) (a : AtomTree) → IsRising (xs ++ (es ++ ys)) → begins_by es a ≡ true → AreBefore xs a
before_begun xs [] ys a rising is = absurd cc
before_begun [] (e ∷ es) ys a rising is = tt
before_begun (x ∷ xs) (e ∷ es) ys a rising is =
    let parts = and_parts _ _ rising in
    let less = below_one atom_cmp x.0 e (es ++ ys) (below_both x.0 xs (e ∷ es ++ ys) parts.0).1 in
    (grind (arith, less, atom_cmp_total.trans x.0 e.0 a, atom_cmp_ties e.0 a), before_begun xs (e ∷ es) ys a parts.1 is)

-- and from one on that is after the atom all are
after_begun : (items : List Entry) (ys : List Counted) (a : AtomTree) → 0 < length items → IsRising (entries_of items ++ ys) → begins_by (entries_of items) a ≡ false → below_all atom_cmp a (entries_of items ++ ys) ≡ true
after_begun [] ys a some rising is = absurd (omega arith)
after_begun (e ∷ items) ys a some rising is =
    grind (arith, lesser atom_cmp atom_cmp_total a (entry_of e).0, below_further atom_cmp atom_cmp_total a (entry_of e).0 (entries_of items ++ ys), below_rest atom_cmp (entry_of e) (entries_of items ++ ys) rising)

-- so the block is found
pub partitioned : (bs : List Block) (a : AtomTree) → HaveEntries bs → IsRising (later_entries bs) → (i j : ℕ) (d : Block) → i ≤ j → j < length bs
    → begins_by (entries_of (get_or bs j d).items) a ≡ true → begins_by (entries_of (get_or bs i d).items) a ≡ true
partitioned [] a filled rising i j d le lt is = absurd (omega arith)
partitioned (b ∷ bs) a filled rising i zero d le lt is = let first : i ≡ 0 = omega arith in rw first is
partitioned (b ∷ bs) a filled rising (suc i) (suc j) d le lt is = partitioned bs a filled.1 (rising_both (entries_of b.items) (later_entries bs) rising).1 i j d (omega arith) (omega arith) is
partitioned (b ∷ []) a filled rising zero (suc j) d le lt is = absurd (omega arith)
partitioned (b ∷ c ∷ bs) a filled rising zero (suc j) d le lt is =
    let rest = (rising_both (entries_of b.items) (later_entries (c ∷ bs)) rising).1 in
    first_begun b.items filled.0 (before_begun (entries_of b.items) (entries_of c.items) (later_entries bs) a rising (partitioned (c ∷ bs) a filled.1 rest zero j d (omega arith) (omega arith) is))
  where
    first_begun : (items : List Entry) → 0 < length items → AreBefore (entries_of items) a → begins_by (entries_of items) a ≡ true
    first_begun [] some before = absurd (omega arith)
    first_begun (e ∷ items) some before = rw before.0 refl

pub first_chosen : (bs : List Block) (a : AtomTree) → HaveEntries bs → IsRising (later_entries bs) → IsBegunTo bs a 0 → below_all atom_cmp a (later_entries bs) ≡ true
first_chosen [] a filled rising begun = refl
first_chosen (b ∷ bs) a filled rising begun = after_begun b.items (later_entries bs) a filled.0 rising (begun.1 0 b (omega arith) (omega arith))

later_chosen : (first : List Counted) (bs : List Block) (n : ℕ) (a : AtomTree) → HaveEntries bs → IsRising (first ++ later_entries bs) → n < length bs → IsBegunTo bs a (suc n) → IsLaterFor first bs a n
later_chosen first [] n a filled rising lt begun = absurd (omega arith)
later_chosen first (b ∷ bs) zero a filled rising lt begun =
    let rest = (rising_both first (later_entries (b ∷ bs)) rising).1 in (
      before_begun first (entries_of b.items) (later_entries bs) a rising (begun.0 0 b (omega arith) (omega arith)),
      first_chosen bs a filled.1 (rising_both (entries_of b.items) (later_entries bs) rest).1 (λ k d lo hi. absurd (omega arith), λ k d lo hi. begun.1 (suc k) d (omega arith) (omega arith)),
    )
later_chosen first (b ∷ bs) (suc n) a filled rising lt begun = (
  before_begun first (entries_of b.items) (later_entries bs) a rising (begun.0 0 b (omega arith) (omega arith)),
  later_chosen (entries_of b.items) bs n a filled.1 (rising_both first (later_entries (b ∷ bs)) rising).1 (omega arith)
      (λ k d lo hi. begun.0 (suc k) d (omega arith) (omega arith), λ k d lo hi. begun.1 (suc k) d (omega arith) (omega arith)),
)

pub chosen : (blocks : Blocks) (a : AtomTree) (n : ℕ) (found : Option ℕ) → HaveEntries blocks.later.items → IsRising (entries_in blocks) → n ≤ length blocks.later.items → IsBegunTo blocks.later.items a n → SomeIff found (1 ≤ n) (n - 1)
    → IsBlockFor blocks a found
chosen blocks a zero None filled rising le begun is = first_chosen blocks.later.items a filled (rising_both (entries_of blocks.first.items) (later_entries blocks.later.items) rising).1 begun
chosen blocks a (suc n) (Some i) filled rising le begun is = let same : i ≡ n = omega (arith, is.1) in rw same (later_chosen (entries_of blocks.first.items) blocks.later.items n a filled rising (omega arith) begun)
chosen blocks a (suc n) None filled rising le begun is = absurd (is (omega arith))
chosen blocks a zero (Some i) filled rising le begun is = absurd (omega (arith, is.0))

-- an atom is found and edited among those that are neither before nor after it
find_before : (xs ys : List Counted) (a : AtomTree) → AreBefore xs a → find atom_cmp a (xs ++ ys) ≡ find atom_cmp a ys
find_before [] ys a before = refl
find_before (x ∷ xs) ys a before = grind (arith, find_before xs ys a before.1, greater atom_cmp atom_cmp_total a x.0 before.0)

find_after : (xs ys : List Counted) (a : AtomTree) → below_all atom_cmp a ys ≡ true → find atom_cmp a (xs ++ ys) ≡ find atom_cmp a xs
find_after [] ys a after = find_below atom_cmp a ys after
find_after (x ∷ xs) ys a after = grind (arith, find_after xs ys a after)

set_before : (xs ys : List Counted) (a : AtomTree) (n : ℕ) → AreBefore xs a → set_among (xs ++ ys) a n ≡ xs ++ set_among ys a n
set_before [] ys a n before = refl
set_before (x ∷ xs) ys a n before = grind (arith, set_before xs ys a n before.1, greater atom_cmp atom_cmp_total a x.0 before.0)

set_after : (xs ys : List Counted) (a : AtomTree) (n : ℕ) → below_all atom_cmp a ys ≡ true → set_among (xs ++ ys) a n ≡ set_among xs a n ++ ys
set_after [] [] a n after = grind arith
set_after [] (y ∷ ys) a n after = grind (arith, keep_below atom_cmp a (y ∷ ys) after, below_one atom_cmp a y ys after)
set_after (x ∷ xs) ys a n after = grind (arith, set_after xs ys a n after)

-- so its count in its block is that in all of them, and an edit there is one of all
pub count_in_first : (xs ys : List Counted) (a : AtomTree) → below_all atom_cmp a ys ≡ true → find_count (xs ++ ys) a ≡ find_count xs a
count_in_first xs ys a after = grind (arith, find_after xs ys a after)

pub count_in_later : (xs : List Counted) (bs : List Block) (a : AtomTree) (i : ℕ) (b : Block) → IsLaterFor xs bs a i → b ≡ get_or bs i b → find_count (xs ++ later_entries bs) a ≡ find_count (entries_of b.items) a
count_in_later xs [] a i b at is = absurd at
count_in_later xs (c ∷ bs) a zero b at is = rw (find_before xs (later_entries (c ∷ bs)) a at.0, find_after (entries_of c.items) (later_entries bs) a at.1, is) refl
count_in_later xs (c ∷ bs) a (suc i) b at is = rw (find_before xs (later_entries (c ∷ bs)) a at.0) (count_in_later (entries_of c.items) bs a i b at.1 is)

pub set_in_first : (xs new ys : List Counted) (a : AtomTree) (n : ℕ) → below_all atom_cmp a ys ≡ true → new ≡ set_among xs a n → new ++ ys ≡ set_among (xs ++ ys) a n
set_in_first xs new ys a n after is = rw (is, set_after xs ys a n after) refl

pub set_in_later : (xs : List Counted) (bs : List Block) (a : AtomTree) (i n : ℕ) (b new : Block) → IsLaterFor xs bs a i → b ≡ get_or bs i b → entries_of new.items ≡ set_among (entries_of b.items) a n
    → xs ++ later_entries (set bs i new) ≡ set_among (xs ++ later_entries bs) a n
set_in_later xs [] a i n b new at is e = absurd at
set_in_later xs (c ∷ bs) a zero n b new at is e = rw (set_before xs (later_entries (c ∷ bs)) a n at.0, set_after (entries_of c.items) (later_entries bs) a n at.1, e, is) refl
set_in_later xs (c ∷ bs) a (suc i) n b new at is e = rw (set_before xs (later_entries (c ∷ bs)) a n at.0, set_in_later (entries_of c.items) bs a i n b new at.1 is e) refl

pub in_range : (xs : List Counted) (bs : List Block) (a : AtomTree) (i : ℕ) → IsLaterFor xs bs a i → i < length bs
in_range xs [] a i at = absurd at
in_range xs (c ∷ bs) a i at = grind (arith, in_range (entries_of c.items) bs a)

-- what holds of all entries holds of those of a block
pub rising_first : (xs ys : List Counted) → IsRising (xs ++ ys) → IsRising xs
rising_first xs ys rising = (rising_both xs ys rising).0

pub rising_at : (xs : List Counted) (bs : List Block) (i : ℕ) (b : Block) → IsRising (xs ++ later_entries bs) → i < length bs → b ≡ get_or bs i b → IsRising (entries_of b.items)
rising_at xs [] i b rising lt is = absurd (omega arith)
rising_at xs (c ∷ bs) zero b rising lt is = rw is (rising_first (entries_of c.items) (later_entries bs) (rising_both xs (later_entries (c ∷ bs)) rising).1)
rising_at xs (c ∷ bs) (suc i) b rising lt is = rising_at (entries_of c.items) bs i b (rising_both xs (later_entries (c ∷ bs)) rising).1 (omega arith) is

each_both : (xs ys : List Counted) → AllByRecursion IsEntry (xs ++ ys) → AllByRecursion IsEntry xs × AllByRecursion IsEntry ys
each_both [] ys each = (tt, each)
each_both (x ∷ xs) ys each = grind (arith, each_both xs ys each.1)

pub each_first : (xs ys : List Counted) → AllByRecursion IsEntry (xs ++ ys) → AllByRecursion IsEntry xs
each_first xs ys each = (each_both xs ys each).0

pub each_at : (xs : List Counted) (bs : List Block) (i : ℕ) (b : Block) → AllByRecursion IsEntry (xs ++ later_entries bs) → i < length bs → b ≡ get_or bs i b → AllByRecursion IsEntry (entries_of b.items)
each_at xs [] i b each lt is = absurd (omega arith)
each_at xs (c ∷ bs) zero b each lt is = rw is (each_first (entries_of c.items) (later_entries bs) (each_both xs (later_entries (c ∷ bs)) each).1)
each_at xs (c ∷ bs) (suc i) b each lt is = each_at (entries_of c.items) bs i b (each_both xs (later_entries (c ∷ bs)) each).1 (omega arith) is

-- a block with the same entries takes the place of another
pub entries_same : (bs : List Block) (i : ℕ) (b new : Block) → b ≡ get_or bs i b → entries_of new.items ≡ entries_of b.items → later_entries (set bs i new) ≡ later_entries bs
entries_same [] i b new is same = refl
entries_same (c ∷ bs) i b new is same = grind (arith, entries_same bs)

-- a block without entries goes
no_items : (items : List Entry) → length items ≡ 0 → entries_of items ≡ []
no_items [] none = refl
no_items (e ∷ items) none = absurd (omega arith)

pub entries_without : (bs : List Block) (i : ℕ) (new read : Block) → i < length bs → read ≡ get_or (set bs i new) i read → length read.items ≡ 0 → later_entries (remove (set bs i new) i) ≡ later_entries (set bs i new)
entries_without [] i new read lt is none = absurd (omega arith)
entries_without (b ∷ bs) zero new read lt is none = grind (arith, no_items new.items)
entries_without (b ∷ bs) (suc i) new read lt is none = ap (λ es. entries_of b.items ++ es) (entries_without bs i new read (omega arith) is none)

-- a block is divided in two
pub entries_divided : (bs : List Block) (i : ℕ) (b front rest : Block) → i < length bs → b ≡ get_or bs i b → entries_of b.items ≡ entries_of front.items ++ entries_of rest.items → later_entries (insert (set bs i front) (suc i) rest) ≡ later_entries bs
entries_divided [] i b front rest lt is parts = absurd (omega arith)
entries_divided (c ∷ bs) zero b front rest lt is parts = rw (← (append_assoc (entries_of front.items) (entries_of rest.items) (later_entries bs)), ← parts, is) refl
entries_divided (c ∷ bs) (suc i) b front rest lt is parts = ap (λ es. entries_of c.items ++ es) (entries_divided bs i b front rest (omega arith) is parts)

-- at a place in it
pub parts : (items front rest : List Entry) (n : ℕ) → front ≡ take n items → rest ≡ drop n items → entries_of items ≡ entries_of front ++ entries_of rest
parts items front rest n left right = rw (left, right, ← (map-append entry_of (take n items) (drop n items)), take-append-drop n items) refl

-- the entry at a place in a later block
pub entry_here : (xs : List Counted) (bs : List Block) (at left i : ℕ) (b : Block) (x : Entry) → i < length (xs ++ later_entries bs) → i ≡ length xs + (length (later_entries (take at bs)) + left) → at < length bs → b ≡ get_or bs at b → left < length b.items
    → x ≡ get_or b.items left x → slice_get (xs ++ later_entries bs) i ≡ Some (entry_of x)
entry_here xs bs at left i b x there place lt is within here =
    let long : left < length (entries_of (get_or bs at b).items) = rw (← is, length-map b.items entry_of) within in
    rw (
      slice_get-get_or (xs ++ later_entries bs) i (entry_of x) there,
      place,
      get_or-append-add xs (later_entries bs) (length (later_entries (take at bs)) + left) (entry_of x),
      get_or-flat_map (λ (c : Block). entries_of c.items) bs at left b (entry_of x) lt long,
      ← is,
      get_or-map entry_of b.items left x (entry_of x) within,
      ← here,
    ) refl

-- for the functions that go to the block of an atom
pub ruleset in_block = (count_in_first, count_in_later, set_in_first, set_in_later, in_range, rising_first, rising_at, each_first, each_at, entries_same)

-- Edits of entries with boxes, as edits of the counts that they stand for.

-- the atom of the entry at its place
atom_at : (items : List Entry) (a : AtomTree) (i : ℕ) (d : Entry) → IsAt (entries_of items) a i → atom_of (get_or items i d).atom.value ≡ a
atom_at [] a i d at = absurd at
atom_at (x ∷ items) a zero d at = at
atom_at (x ∷ items) a (suc i) d at = atom_at items a i d at.1

-- what holds of each entry, at the atom's
entry_at : (items : List Entry) (a : AtomTree) (i : ℕ) (d : Entry) → IsAt (entries_of items) a i → AllByRecursion IsEntry (entries_of items) → IsEntry (entry_of (get_or items i d))
entry_at [] a i d at all = absurd at
entry_at (x ∷ items) a zero d at all = all.0
entry_at (x ∷ items) a (suc i) d at all = entry_at items a i d at.1 all.1

-- the count in the entry that was read at the atom's place
pub count_at : (items : List Entry) (a : AtomTree) (i : ℕ) (e : Entry) → IsAt (entries_of items) a i → e ≡ get_or items i e → find_count (entries_of items) a ≡ e.count
count_at items a i e at is = ap (λ count. unwrap_or count 0) (find_at atom_cmp atom_cmp_total entry_of a items i e at) ∙ ap (λ x. x.count) (sym is)

-- it is not 0
pub count_at_some : (items : List Entry) (a : AtomTree) (i : ℕ) (e : Entry) → IsAt (entries_of items) a i → e ≡ get_or items i e → AllByRecursion IsEntry (entries_of items) → 0 < e.count
count_at_some items a i e at is all = subst (λ x. 0 < x.count) (sym is) (entry_at items a i e at all).0

-- and it is 0 at a gap
pub count_gap : (items : List Entry) (a : AtomTree) (i : ℕ) → IsRising (entries_of items) → IsGapFor (entries_of items) a i → find_count (entries_of items) a ≡ 0
count_gap items a i rising gap = ap (λ count. unwrap_or count 0) (find_gap atom_cmp atom_cmp_total entry_of a items i rising gap)

-- a count is written over that of the entry that was read at the atom's place
pub write_at : (items : List Entry) (a : AtomTree) (i n m : ℕ) (e : Entry) → IsAt (entries_of items) a i → e ≡ get_or items i e → 0 < n → n ≡ m → entries_of (set items i (record { atom = e.atom; count = n })) ≡ set_among (entries_of items) a m
write_at items a i n m e at is some same = grind (arith, atom_at, put_at, atom_cmp_total, on_count, without, e.atom.value, e.atom)

-- an entry is written into the atom's gap
pub write_gap : (items : List Entry) (a : AtomTree) (i n m : ℕ) (x : Entry) → IsGapFor (entries_of items) a i → entry_of x ≡ (a, n) → 0 < n → n ≡ m → entries_of (insert items i x) ≡ set_among (entries_of items) a m
write_gap items a i n m x gap is some same = grind (arith, put_gap, atom_cmp_total, on_count, without)

-- the entry at the atom's place is removed
pub drop_at : (items : List Entry) (a : AtomTree) (i m : ℕ) → IsRising (entries_of items) → IsAt (entries_of items) a i → m ≡ 0 → entries_of (remove items i) ≡ set_among (entries_of items) a m
drop_at items a i m rising at none = grind (arith, remove_at, atom_cmp_total, on_count, without)

-- an entry that was read at the atom's place says that a copy is there
pub not_missing : (items : List Entry) (a : AtomTree) (i : ℕ) (e : Entry) → IsAt (entries_of items) a i → e ≡ get_or items i e → AllByRecursion IsEntry (entries_of items) → (false ≡ true) ↔ (find_count (entries_of items) a ≡ 0)
not_missing items a i e at is all = grind (arith, count_at_some, count_at)

-- for the functions that edit entries: what the entry at a place says of the count, and what an edit there makes
pub ruleset one_more = (count_at, count_gap, write_at, write_gap)

pub ruleset copies = (count_at, count_at_some, count_gap, write_at, drop_at, not_missing)

-- What the entries of a bag say of the multiset that they stand for.

module _ (es : List Counted) (bag : Multiset) (rising : IsRising es) (seen : finite.from_sorted es ≡ bag) where
  pub entries_seen : finite.entries bag ≡ es
  entries_seen = ap (λ z. finite.entries z) (sym seen) ∙ entries_rising es rising

  pub count_seen : (a : AtomTree) → find_count es a ≡ count_of bag a
  count_seen a = ap (λ o. unwrap_or o 0) (sym (get_rising es a rising)) ∙ ap (λ z. count_of z a) seen

  pub copies_seen : total es ≡ copies_in bag
  copies_seen = ap total (sym entries_seen)

  pub kept_seen : AllByRecursion IsEntry es → IsBag bag
  kept_seen each = subst (AllByRecursion IsEntry) (sym entries_seen) each

  pub len_seen : length es ≡ finite.len bag
  len_seen = ap length (sym entries_seen) ∙ sym (finite.len-entries bag)

  -- an edit of the entries, seen as one of the multiset
  pub set_seen : (a : AtomTree) (n m : ℕ) (edited : List Counted) → edited ≡ set_among es a n → n ≡ m → finite.from_sorted edited ≡ with_count bag a m
  set_seen a n m edited is same = ap (λ z. finite.from_sorted z) is ∙ bag_set es a n rising ∙ ap (λ z. with_count z a n) seen ∙ ap (with_count bag a) same

-- what always holds of the entries holds after an edit, where the copies are counted along
pub kept_set : (es edited : List Counted) (a : AtomTree) (n copies new : ℕ) → AreKept es copies → IsGroundAtom a → edited ≡ set_among es a n → new + find_count es a ≡ copies + n → AreKept edited new
kept_set es edited a n copies new kept known is sum = grind (arith, rising_set, each_set, total_set, total, kept.rising, kept.each, kept.counted)

abbrev pub no_entries : List Counted
no_entries = []

-- the multiset of no entries
pub empty_seen : finite.from_sorted {R = atom_cmp} no_entries ≡ finite.empty
empty_seen = finite.empty_of_len (finite.from_sorted no_entries) (finite.len-entries (finite.from_sorted no_entries) ∙ ap length (entries_rising no_entries refl))

-- an atom that is there is ground
pub ground_there : (es : List Counted) (a : AtomTree) → AllByRecursion IsEntry es → ¬ (find_count es a ≡ 0) → IsGroundAtom a
ground_there [] a all there = absurd (there refl)
ground_there (e ∷ es) a all there = grind (arith, ground_there es a all.1, atom_cmp_ties a e.0)

-- the counts of a list are at most others where each entry's is
counts_from_entries : (others : List Counted) (count : AtomTree → ℕ) (a : AtomTree) → AllByRecursion (λ e. e.1 ≤ count e.0) others → find_count others a ≤ count a
counts_from_entries [] count a all = omega arith
counts_from_entries (e ∷ others) count a all = grind (arith, counts_from_entries others count a, atom_cmp_ties a e.0)

-- so one bag is contained in another if no entry of it has a greater count
pub contained_all : (bag other : Multiset) (n : ℕ) → finite.len other ≤ n → AllByRecursion (λ e. e.1 ≤ count_of bag e.0) (take n (finite.entries other)) → IsContained other bag
contained_all bag other n most all a =
    let whole = take_all n (finite.entries other) (subst (λ m. m ≤ n) (finite.len-entries other) most) in
    rw (finite.get-entries other a) (counts_from_entries (finite.entries other) (count_of bag) a (rw whole at all))

-- where a copy was not missing, there is one
some_copy_there : (n : ℕ) → (false ≡ true) ↔ (n ≡ 0) → 0 < n
some_copy_there n is = grind arith

-- no count is above the sum of them all
pub count_le_total : (es : List Counted) (a : AtomTree) → find_count es a ≤ total es
count_le_total [] a = omega arith
count_le_total (e ∷ es) a = grind (arith, total-cons e es, count_le_total es a)

-- there are at least as many copies as entries
pub few_entries : (es : List Counted) (copies : ℕ) → AreKept es copies → length es ≤ copies
few_entries es copies kept = omega (arith, at_most es kept.each, kept.counted)
  where
    at_most : (es : List Counted) → AllByRecursion IsEntry es → length es ≤ total es
    at_most [] each = omega arith
    at_most (e ∷ es) each = omega (arith, at_most es each.1, each.0.0, total-cons e es)

-- and none exactly in the empty multiset
pub none_seen : (es : List Counted) (bag : Multiset) (copies : ℕ) → AreKept es copies → finite.from_sorted es ≡ bag → ((copies == 0) ≡ true) ↔ (bag ≡ finite.empty)
none_seen es bag copies kept seen = grind (arith, finite.empty_of_len bag, few_entries es copies kept, len_seen es bag kept.rising seen, copies_seen es bag kept.rising seen, entries_rising no_entries, empty_seen, kept.counted)

pub some_copy : (es : List Counted) (a : AtomTree) (copies : ℕ) → AreKept es copies → (false ≡ true) ↔ (find_count es a ≡ 0) → 1 ≤ copies
some_copy es a copies kept is = omega (arith, some_copy_there (find_count es a) is, count_le_total es a, kept.counted)

-- what always holds of the entries holds after one copy is taken
pub kept_taken : (es edited : List Counted) (a : AtomTree) (copies : ℕ) → AreKept es copies → (false ≡ true) ↔ (find_count es a ≡ 0) → edited ≡ set_among es a (find_count es a - 1) → AreKept edited (copies - 1)
kept_taken es edited a copies kept is e = grind (arith, some_copy_there (find_count es a) is, count_le_total es a, kept_set es edited a (find_count es a - 1) copies (copies - 1), ground_there es a kept.each, kept.counted)

-- for the functions that ask the entries of a bag
pub ruleset seen = (entries_seen, count_seen, copies_seen, kept_seen, len_seen, set_seen, few_entries, none_seen, some_copy)
