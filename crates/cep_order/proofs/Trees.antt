-- Flags that are set, counted and listed, and trees of counts.
use Rattle.std.proofs.Common.{◌≡◌, ◌⊎◌, ⊎_elim, ℕ, suc, ◌+◌, ◌<◌, ◌≤◌, Bool, true, false, cond, List, [], ◌∷◌, length, get_or, take, set, refl, sym, ap, ◌∙◌, arith, Some, zero, subst, Contains, ◌≢◌, ◌-◌, ◌*◌, ◌/◌, ◌^◌, replicate, length-set, add-one}
use Rattle.std.specs.Prelude.{slice_get, count_by}
use Rattle.std.proofs.lemmas.Bool.{cases_lt, false≢true, cases_eq}
use Rattle.std.proofs.lemmas.Nat.{pow_pos}
use Rattle.std.proofs.Math.Seq.{take-set-lt}
use Rattle.std.proofs.lemmas.List.{length-take, get_or-take, take-set-le, take-take, take_all, get_or_past, get_or-set_same, get_or-set_other, get_or-replicate, length-replicate}
use Rattle.std.proofs.lemmas.List.Sums.{sum_by-set, sum_by-cons, count_by-le-length, sum_by-take-le}
use Rattle.std.specs.List.Sorted.{IsStrictlyIncreasing}
use Rattle.cep_order.specs.Flags.{set_before, set_places_from, set_places}
use Rattle.cep_order.specs.Counts.{Counts, only_at, IsNearly, IsTree}
use Rattle.std.proofs.lemmas.List.Elements.{Contains-get_or}
use Rattle.std.proofs.lemmas.Bool.Decides.{nat_tests}
use Rattle.std.proofs.Math.Nat.{pow-succ', le-mul_of_pos_right}
use Rattle.cep_base.proofs.Elements.{contains_none, contains_cases, contains_at}

-- Flags that are set, counted and listed.

-- a flag is set or not
pub on_or_off : (flag : Bool) → (flag ≡ true) ⊎ (flag ≡ false)
on_or_off flag = grind arith

-- one flag more in front
one_more : (flag : Bool) (flags : List Bool) (x : ℕ) → set_before (flag ∷ flags) (suc x) ≡ cond flag 1 0 + set_before flags x
one_more flag flags x = sum_by-cons (λ f. cond f 1 0) flag (take x flags)

-- a flag that is set is one of them
pub on_within : (flags : List Bool) (place : ℕ) → get_or flags place false ≡ true → place < length flags
on_within flags place on = ⊎_elim (λ less. less) (λ past. absurd (false≢true (sym (get_or_past flags place false past) ∙ on))) (cases_lt place (length flags))

-- A flag that is written counts only at later places.
pub written_after : (flags : List Bool) (place x : ℕ) (flag : Bool) → x ≤ place → set_before (set flags place flag) x ≡ set_before flags x
written_after flags place x flag later = ap (count_by (λ f. f)) (take-set-le x flags place flag later)

pub set_counts : (flags : List Bool) (place x : ℕ) → place < length flags → place < x → get_or flags place false ≡ false → set_before (set flags place true) x ≡ set_before flags x + 1
set_counts flags place x within before off = grind (arith, take-set-lt, sum_by-set, length-take, get_or-take)

pub unset_counts : (flags : List Bool) (place x : ℕ) → place < length flags → place < x → get_or flags place false ≡ true → set_before flags x ≡ set_before (set flags place false) x + 1
unset_counts flags place x within before on = grind (arith, take-set-lt, sum_by-set, length-take, get_or-take)

-- no more are set than there are
pub set_few : (flags : List Bool) (x : ℕ) → set_before flags x ≤ length flags
set_few flags x = omega (arith, sum_by-take-le (λ f. cond f 1 0) flags x, count_by-le-length (λ f. f) flags)

-- no fewer are set before a later place
pub counted_more : (flags : List Bool) (x y : ℕ) → x ≤ y → set_before flags x ≤ set_before flags y
counted_more flags x y le = omega (arith, sum_by-take-le (λ f. cond f 1 0) (take y flags) x, ap (count_by (λ f. f)) (take-take x y flags le))

-- beyond the end all are counted
pub all_before : (flags : List Bool) (x : ℕ) → length flags ≤ x → set_before flags x ≡ set_before flags (length flags)
all_before flags x beyond = ap (count_by (λ f. f)) (take_all x flags beyond ∙ sym (take_all (length flags) flags (omega arith)))

-- as many places as flags that are set
pub as_many : (from : ℕ) (flags : List Bool) → length (set_places_from from flags) ≡ set_before flags (length flags)
as_many from [] = refl
as_many from (true ∷ flags) = omega (arith, one_more true flags (length flags), as_many (from + 1) flags)
as_many from (false ∷ flags) = omega (arith, one_more false flags (length flags), as_many (from + 1) flags)

-- A flag that is set stands in the list of places, after those before it.
pub place_found : (from : ℕ) (flags : List Bool) (place : ℕ) → get_or flags place false ≡ true → slice_get (set_places_from from flags) (set_before flags place) ≡ Some (from + place)
place_found from (true ∷ flags) (suc place) on = grind (arith, one_more true flags place, place_found (from + 1) flags place on)
place_found from (false ∷ flags) (suc place) on = grind (arith, one_more, place_found (from + 1) flags place on)
place_found from flags place on = grind arith

-- The places of flags that are set, as a list.

pub listed : (flags : List Bool) (place : ℕ) → get_or flags place false ≡ true → Contains (set_places flags) place
listed flags place on = subst (λ n. Contains (set_places flags) n) (omega arith) (contains_at (set_places flags) (set_before flags place) (0 + place) (place_found 0 flags place on))

listed_from : (from : ℕ) (flags : List Bool) (place : ℕ) → Contains (set_places_from from flags) place → (q : ℕ) × (place ≡ from + q) × (get_or flags q false ≡ true)
listed_from from [] place there = absurd (contains_none place there)
listed_from from (false ∷ flags) place there = let is = listed_from (from + 1) flags place there in (suc is.0, omega (arith, is.1), is.2)
listed_from from (true ∷ flags) place there =
    ⊎_elim
    (λ same. (0, omega arith, refl))
    (λ later. let is = listed_from (from + 1) flags place later in (suc is.0, omega (arith, is.1), is.2))
    (contains_cases from (set_places_from (from + 1) flags) place there)

pub set_there : (flags : List Bool) (place : ℕ) → Contains (set_places flags) place → get_or flags place false ≡ true
set_there flags place there = let is = listed_from 0 flags place there in let same : place ≡ is.0 = omega (arith, is.1) in ap (λ n. get_or flags n false) same ∙ is.2

increasing_from : (from : ℕ) (flags : List Bool) → IsStrictlyIncreasing (set_places_from from flags)
increasing_from from [] k within = absurd (omega arith)
increasing_from from (false ∷ flags) k within = increasing_from (from + 1) flags k within
increasing_from from (true ∷ flags) zero within =
    let later = set_places_from (from + 1) flags in
    omega (arith, (listed_from (from + 1) flags (get_or later 0 0) (Contains-get_or later 0 0 (omega arith))).1)
increasing_from from (true ∷ flags) (suc k) within =
    let later = set_places_from (from + 1) flags in
    let next : suc k + 1 ≡ suc (k + 1) = omega arith in
    subst (λ n. get_or later k 0 < get_or (from ∷ later) n 0) (sym next) (increasing_from (from + 1) flags k (omega arith))

pub increasing : (flags : List Bool) → IsStrictlyIncreasing (set_places flags)
increasing flags = increasing_from 0 flags

-- Trees of counts.

all_here : (here amount node : ℕ) → node ≡ here → only_at here amount node ≡ amount
all_here here amount node same = grind (arith, nat_tests)

none_elsewhere : (here amount node : ℕ) → node ≢ here → only_at here amount node ≡ 0
none_elsewhere here amount node apart = grind (arith, nat_tests)

module _ (flags : List Bool) (counts : List ℕ) (height : ℕ) (tree : IsTree flags counts height) where
  inner : (node : ℕ) → 0 < node → node < 2 ^ height → get_or counts node 0 ≡ get_or counts (2 * node) 0 + get_or counts (2 * node + 1) 0
  inner node some low = omega (arith, (tree.each node some (omega (arith, tree.size))).inner low, none_elsewhere 0 0 node (λ none. omega arith))

  leaf : (node : ℕ) → 0 < node → 2 ^ height ≤ node → node < 2 * 2 ^ height → set_before flags ((node - 2 ^ height) * 64) + get_or counts node 0 ≡ set_before flags ((node - 2 ^ height + 1) * 64)
  leaf node some low high = omega (arith, (tree.each node some (omega (arith, tree.size))).leaf low, none_elsewhere 0 0 node (λ none. omega arith))

  -- A node counts the flags under it that are set.
  pub counts_below : (levels node : ℕ) → 0 < node → 2 ^ height ≤ node * 2 ^ levels → (node + 1) * 2 ^ levels ≤ 2 * 2 ^ height
      → set_before flags ((node * 2 ^ levels - 2 ^ height) * 64) + get_or counts node 0 ≡ set_before flags (((node + 1) * 2 ^ levels - 2 ^ height) * 64)
  counts_below zero node some low high =
      let first : (node * 2 ^ 0 - 2 ^ height) * 64 ≡ (node - 2 ^ height) * 64 = omega arith in
      let last : ((node + 1) * 2 ^ 0 - 2 ^ height) * 64 ≡ (node - 2 ^ height + 1) * 64 = omega arith in
      omega (arith, ap (set_before flags) first, ap (set_before flags) last, leaf node some (omega arith) (omega arith))
  counts_below (suc levels) node some low high =
      let twice = pow-succ' 2 levels in
      let here = ap (λ n. node * n) twice in
      let room = le-mul_of_pos_right (node + 1) (pow_pos levels) in
      let one = counts_below levels (2 * node) (omega arith) (omega (arith, here)) (omega (arith, here, twice, pow_pos levels)) in
      let other = counts_below levels (2 * node + 1) (omega arith) (omega (arith, here)) (omega (arith, here, twice)) in
      let first : (node * 2 ^ suc levels - 2 ^ height) * 64 ≡ (2 * node * 2 ^ levels - 2 ^ height) * 64 = omega (arith, here) in
      let last : ((node + 1) * 2 ^ suc levels - 2 ^ height) * 64 ≡ ((2 * node + 1 + 1) * 2 ^ levels - 2 ^ height) * 64 = omega (arith, here, twice) in
      omega (arith, one, other, ap (set_before flags) first, ap (set_before flags) last, inner node some (omega (arith, here, twice, room)))

  -- The root counts all.
  pub root_counts : get_or counts 1 0 ≡ set_before flags (length flags)
  root_counts =
      let all = counts_below height 1 (omega arith) (omega arith) (omega arith) in
      let none : (1 * 2 ^ height - 2 ^ height) * 64 ≡ 0 = omega arith in
      let whole : ((1 + 1) * 2 ^ height - 2 ^ height) * 64 ≡ 2 ^ height * 64 = omega arith in
      omega (arith, all, ap (set_before flags) none, ap (set_before flags) whole, all_before flags (2 ^ height * 64) tree.room)

  few_by : (bound node : ℕ) → node < bound → 0 < node → node < 2 * 2 ^ height → get_or counts node 0 ≤ get_or counts 1 0
  few_by zero node less some high = absurd (omega arith)
  few_by (suc bound) node less some high =
      ⊎_elim
      (λ root. omega (arith, ap (λ n. get_or counts n 0) root))
      (λ other.
      let above = few_by bound (node / 2) (omega arith) (omega arith) (omega arith) in
      let sums = inner (node / 2) (omega arith) (omega arith) in
      ⊎_elim
      (λ even. omega (arith, above, sums, ap (λ n. get_or counts n 0) even))
      (λ apart. let odd : node ≡ 2 * (node / 2) + 1 = omega arith in omega (arith, above, sums, ap (λ n. get_or counts n 0) odd))
      (cases_eq node (2 * (node / 2))))
      (cases_eq node 1)

  -- No node counts more than there may be flags.
  pub counts_few : (node : ℕ) → 0 < node → node < length counts → get_or counts node 0 ≤ 67108864
  counts_few node some high = omega (arith, few_by (suc node) node (omega arith) some (omega (arith, tree.size)), root_counts, set_few flags (length flags), tree.few)

-- Levels of a tree by half of it.
module _ (levels below node : ℕ) (one : levels ≡ below + 1) where
  pub half : 2 ^ levels ≡ 2 * 2 ^ below
  half = ap (λ n. 2 ^ n) (one ∙ add-one below) ∙ pow-succ' 2 below

  pub halves : node * 2 ^ levels ≡ 2 * (node * 2 ^ below)
  halves = ap (λ n. node * n) half ∙ omega arith

-- Going down to the leaf of a flag: under this node, levels above the leaves, is the one with k before it.
pub record IsDown (flags : List Bool) (counts : List ℕ) (height k levels node left : ℕ) : Type 0 where
  pub before : set_before flags ((node * 2 ^ levels - 2 ^ height) * 64) + left ≡ k
  pub within : left < get_or counts node 0

module _ (flags : List Bool) (counts : List ℕ) (height k : ℕ) (tree : IsTree flags counts height) where
  pub down_first : k < set_before flags (length flags) → IsDown flags counts height k height 1 k
  down_first some = let none : (1 * 2 ^ height - 2 ^ height) * 64 ≡ 0 = omega arith in record { before = omega (arith, ap (set_before flags) none); within = omega (arith, root_counts flags counts height tree) }

  module _ (levels below node left : ℕ) (one : levels ≡ below + 1) (some : 0 < node) (low : 2 ^ height ≤ node * 2 ^ levels) (high : (node + 1) * 2 ^ levels ≤ 2 * 2 ^ height) where
    twice : 2 ^ levels ≡ 2 * 2 ^ below
    twice = half levels below node one

    here : node * 2 ^ levels ≡ 2 * (node * 2 ^ below)
    here = halves levels below node one

    sums : get_or counts node 0 ≡ get_or counts (node * 2) 0 + get_or counts (node * 2 + 1) 0
    sums = grind (arith, inner, here, twice, le-mul_of_pos_right, pow_pos)

    first : set_before flags ((node * 2 ^ levels - 2 ^ height) * 64) ≡ set_before flags ((node * 2 * 2 ^ below - 2 ^ height) * 64)
    first = ap (set_before flags) (omega (arith, here))

    pub down_left : IsDown flags counts height k levels node left → left < get_or counts (node * 2) 0 → IsDown flags counts height k below (node * 2) left
    down_left down less = record { before = omega (arith, down.before, first); within = less }

    pub down_right : IsDown flags counts height k levels node left → get_or counts (node * 2) 0 ≤ left → IsDown flags counts height k below (node * 2 + 1) (left - get_or counts (node * 2) 0)
    down_right down more =
        let passed = counts_below flags counts height tree below (node * 2) (omega arith) (omega (arith, here)) (omega (arith, here, twice, pow_pos below)) in
        record { before = omega (arith, down.before, first, passed); within = omega (arith, down.within, sums) }

-- Where nothing is set each node counts none.
pub nothing_at : (n i : ℕ) → ◌≡◌ {A = ℕ} (get_or (replicate n 0) i 0) 0
nothing_at n i = grind (arith, get_or-replicate, get_or_past, length-replicate, cases_lt)

-- A flag is written: the leaf of its block is off by as many as the flags after it are.
module _ (flags : List Bool) (counts : List ℕ) (height place lacks exceeds : ℕ) (flag : Bool) (tree : IsTree flags counts height)
    (after : (x : ℕ) → place < x → set_before (set flags place flag) x + exceeds ≡ set_before flags x + lacks) where
  before : (x : ℕ) → x ≤ place → set_before (set flags place flag) x ≡ set_before flags x
  before x later = written_after flags place x flag later

  pub off_at_leaf : (here : ℕ) → here ≡ 2 ^ height + place / 64 → IsNearly (set flags place flag) counts height here lacks exceeds
  off_at_leaf here is = grind (arith, length-set, here, none_elsewhere, inner, leaf, all_here, before, cases_lt, cases_eq)

-- A node is mended: now its parent is off.
module _ (flags : List Bool) (counts : List ℕ) (height here lacks exceeds count : ℕ) (some : 0 < here) (within : here < length counts) (nearly : IsNearly flags counts height here lacks exceeds) (mends : count + exceeds ≡ get_or counts here 0 + lacks) where
  at_node : (node : ℕ) → node ≡ here → (get_or (set counts here count) node 0 ≡ count) × (get_or counts node 0 ≡ get_or counts here 0)
  at_node node same = (ap (λ n. get_or (set counts here count) n 0) same ∙ get_or-set_same counts here count 0 within, ap (λ n. get_or counts n 0) same)

  elsewhere : (node : ℕ) → node ≢ here → get_or (set counts here count) node 0 ≡ get_or counts node 0
  elsewhere node apart = get_or-set_other counts here node count 0 apart

  above : (node : ℕ) → node ≡ here / 2 → (only_at (here / 2) lacks node ≡ lacks) × (only_at (here / 2) exceeds node ≡ exceeds)
  above node is = (all_here (here / 2) lacks node is, all_here (here / 2) exceeds node is)

  not_above : (node : ℕ) → node ≢ here / 2 → (only_at (here / 2) lacks node ≡ 0) × (only_at (here / 2) exceeds node ≡ 0)
  not_above node apart = (none_elsewhere (here / 2) lacks node apart, none_elsewhere (here / 2) exceeds node apart)

  mended : (node : ℕ) → node ≡ here → Counts flags counts (2 ^ height) node (only_at here lacks node) (only_at here exceeds node)
      → Counts flags (set counts here count) (2 ^ height) node (only_at (here / 2) lacks node) (only_at (here / 2) exceeds node)
  mended node same was = grind (arith, at_node, not_above, all_here, here, inner, elsewhere, leaf, was.inner, was.leaf)

  other : (node : ℕ) → node ≢ here → Counts flags counts (2 ^ height) node (only_at here lacks node) (only_at here exceeds node)
      → Counts flags (set counts here count) (2 ^ height) node (only_at (here / 2) lacks node) (only_at (here / 2) exceeds node)
  other node apart was = grind (arith, elsewhere, none_elsewhere, here, inner, at_node, above, not_above, cases_eq, leaf)

  pub off_above : IsNearly flags (set counts here count) height (here / 2) lacks exceeds
  off_above = record {
    size = length-set counts here count ∙ nearly.size;
    room = nearly.room;
    few = nearly.few;
    few_leaves = nearly.few_leaves;
    each = λ node positive below.
        let was = nearly.each node positive (omega (arith, length-set counts here count)) in
        ⊎_elim (λ same. mended node same was) (λ apart. other node apart was) (cases_eq node here);
  }

  pub fewer : ((node : ℕ) → 0 < node → node ≤ here → get_or counts node 0 ≤ 67108864) → (node : ℕ) → 0 < node → node ≤ here / 2 → get_or (set counts here count) node 0 ≤ 67108864
  fewer few node positive low = omega (arith, few node positive (omega arith), elsewhere node (λ e. omega arith))

-- A node that counts too many counts some.
pub some_too_many : (flags : List Bool) (counts : List ℕ) (height here : ℕ) → 0 < here → here < length counts → IsNearly flags counts height here 0 1 → 0 < get_or counts here 0
some_too_many flags counts height here some within nearly =
    let is = nearly.each here some within in
    let none = all_here here 0 here refl in
    let one = all_here here 1 here refl in
    ⊎_elim
    (λ low. omega (arith, is.inner low, none, one))
    (λ high. omega (arith, is.leaf high, none, one, counted_more flags ((here - 2 ^ height) * 64) ((here - 2 ^ height + 1) * 64) (omega arith)))
    (cases_lt here (2 ^ height))

-- Where no node is off it is a tree.
pub none_off : (flags : List Bool) (counts : List ℕ) (height here lacks exceeds : ℕ) → here ≡ 0 → IsNearly flags counts height here lacks exceeds → IsTree flags counts height
none_off flags counts height here lacks exceeds is nearly = grind (arith, here, none_elsewhere, inner, leaf, nearly.size, nearly.room, nearly.few, nearly.few_leaves, nearly.each)
