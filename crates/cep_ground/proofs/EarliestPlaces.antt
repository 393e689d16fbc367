-- The order of places in a text, the earliest of some, and the first places of variables.
use Rattle.std.proofs.lemmas.Bool.{ne_eqb, cases_lt}
use Rattle.std.proofs.Common.{min}
use Rattle.cep_base.proofs.Elements.{contains_same}
use Rattle.std.proofs.Common.{◌≡◌, ◌≢◌, ⊎_elim, ℕ, suc, ◌+◌, ◌-◌, ◌<◌, ◌≤◌, Bool, List, [], ◌∷◌, ◌++◌, length, take, refl, sym, ap, subst, ◌∙◌, arith, append_assoc, length-append, true, false, Contains, ◌⊎◌, inl, inr, zero, if◌then◌else◌, map}
use Rattle.std.proofs.lemmas.List.Sums.{sum_by-append, sum_by-cons}
use Rattle.std.proofs.lemmas.Bool.{eqb-false}
use Rattle.std.specs.Prelude.{◌==◌, sum_by, cond, Option, Some, slice_get}
use Rattle.cep_base.specs.declared.place.Pos.{Pos}
use Rattle.cep_base.specs.Spelling.{IsUnbroken}
use Rattle.cep_lex.specs.Places.{IsPlaceAfter, IsEnded}
use Rattle.cep_ground.specs.Refusals.{StandsBefore}
use Rattle.std.proofs.lemmas.List.{append-nil}
use Rattle.std.proofs.lemmas.Grind.{flat_map-append}
use Rattle.std.specs.List.{flat_map, list_any}
use Rattle.cep_ground.specs.Earliest.{IsEarliest}
use Rattle.cep_base.proofs.Elements.{contains_none, contains_first, contains_cases, contains_left, contains_right, contains_either, contains_behind, contains_map, contains_at}
pub use Rattle.cep_base.proofs.Lists.{take_next}
use Rattle.cep_infer.specs.Places.{ArePlaces, ArePlaceLists}
use Rattle.std.specs.Str.{bytes_eq}
use Rattle.cep_source.specs.Variables.{Occurrence, firsts_beside}
use Rattle.cep_types.specs.Heads.{variable_of}
use Rattle.cep_ground.proofs.NameLaws.{place, position_there, place_within, same_bytes, bytes_same, is_any}

-- Places further on in a text have a greater line, or the same one and no lesser column.

unbroken_both : (one other : List ℕ) → IsUnbroken one → IsUnbroken other → IsUnbroken (one ++ other)
unbroken_both [] other here there = there
unbroken_both (byte ∷ one) other here there = (here.0, unbroken_both one other here.1 there)

-- the bytes of the last line, which begins with these
abbrev last_line : List ℕ → List ℕ → List ℕ
last_line line [] = line
last_line line (byte ∷ bytes) = last_line (cond (byte == 10) [] (line ++ byte ∷ [])) bytes

unbroken_last : (line bytes : List ℕ) → IsUnbroken bytes → last_line line bytes ≡ line ++ bytes
unbroken_last line [] all = sym (append-nil line)
unbroken_last line (byte ∷ bytes) all = rw (ne_eqb byte 10 all.0, unbroken_last (line ++ byte ∷ []) bytes all.1) (append_assoc line (byte ∷ []) bytes)

ended_last : (line front bytes : List ℕ) → last_line line ((front ++ 10 ∷ []) ++ bytes) ≡ last_line [] bytes
ended_last line [] bytes = refl
ended_last line (byte ∷ front) bytes = ended_last (cond (byte == 10) [] (line ++ byte ∷ [])) front bytes

last_is : (lines bytes : List ℕ) → IsEnded lines → IsUnbroken bytes → last_line [] (lines ++ bytes) ≡ bytes
last_is lines bytes ended all = ⊎_elim (λ none. rw none (unbroken_last [] bytes all)) (λ some. rw some.1 (ended_last [] some.0 bytes ∙ unbroken_last [] bytes all)) ended

-- whole lines are cut in one way from the bytes of the last one
one_cut : (lines bytes lines' bytes' : List ℕ) → lines ++ bytes ≡ lines' ++ bytes' → IsEnded lines → IsEnded lines' → IsUnbroken bytes → IsUnbroken bytes' → bytes ≡ bytes'
one_cut lines bytes lines' bytes' e ended ended' all all' = sym (last_is lines bytes ended all) ∙ ap (last_line []) e ∙ last_is lines' bytes' ended' all'

-- whether a byte is one, as a number
abbrev one_break : ℕ → ℕ
one_break byte = cond (byte == 10) 1 0

not_break : (byte : ℕ) (b : Bool) → (byte == 10) ≡ b → one_break byte ≡ 0 → byte ≢ 10
not_break byte b e zero_ = grind (arith, one_break, eqb-false)

no_breaks : (bytes : List ℕ) → sum_by one_break bytes ≡ 0 → IsUnbroken bytes
no_breaks [] none = tt
no_breaks (byte ∷ bytes) none = (not_break byte (byte == 10) refl (omega (arith, none, (sum_by-cons one_break byte bytes))), no_breaks bytes (omega (arith, none, (sum_by-cons one_break byte bytes))))

-- a place with more bytes before it does not stand before one with fewer
pub later_place : (before mid : List ℕ) (pos pos' : Pos) → IsPlaceAfter before pos → IsPlaceAfter (before ++ mid) pos' → ¬ (StandsBefore pos' pos)
later_place before mid pos pos' is is' earlier = grind (arith, sum_by-append, one_break, append_assoc, one_cut, unbroken_both, no_breaks, length-append)

take_nothing : (n : ℕ) → take {A = ℕ} n [] ≡ []
take_nothing n = grind arith

take_more : (at further : ℕ) (text : List ℕ) → (mid : List ℕ) × (take (at + further) text ≡ take at text ++ mid)
take_more (suc at) further (byte ∷ text) =
    let rest = take_more at further text in
    let e : suc at + further ≡ suc (at + further) = omega arith in
    (rest.0, ap (λ n. take n (byte ∷ text)) e ∙ ap (λ bytes. byte ∷ bytes) rest.1)
take_more at further text = grind (arith, take_nothing)

-- so places stand in the order of their bytes
pub places_rise : (text : List ℕ) (at at' : ℕ) (pos pos' : Pos) → at ≤ at' → IsPlaceAfter (take at text) pos → IsPlaceAfter (take at' text) pos' → ¬ (StandsBefore pos' pos)
places_rise text at at' pos pos' less is is' = later_place (take at text) (take_more at (at' - at) text).0 pos pos' is (subst (λ bytes. IsPlaceAfter bytes pos') (ap (λ n. take n text) (omega (arith, less)) ∙ (take_more at (at' - at) text).1) is')

-- The earlier of two earliest places is the earliest of both.

-- a place that does not stand before one does not stand before an earlier one
pub chain : (one other next : Pos) → ¬ (StandsBefore other one) → ¬ (StandsBefore next other) → ¬ (StandsBefore next one)
chain one other next no_ no' before = grind (arith, cases_lt)

no_order : (line line' col col' : ℕ) → ¬ ((line < line') ⊎ ((line ≡ line') × (col < col'))) → ¬ ((line' < line) ⊎ ((line' ≡ line) × (col' < col))) → (line ≡ line') × (col ≡ col')
no_order line line' col col' not_before not_after = grind (arith, cases_lt)

-- places of which neither stands before the other are one
pub one_place : (one other : Pos) → ¬ (StandsBefore one other) → ¬ (StandsBefore other one) → one ≡ other
one_place one other no_ no' = grind (arith, no_order)

-- of two places one does not stand before the other
not_both : (one other : Pos) → StandsBefore one other → ¬ (StandsBefore other one)
not_both one other before after = grind (arith, one.line, other.line)

pub earlier_other : (pos next : Pos) → StandsBefore next pos → (xs ys : List Pos) → IsEarliest xs (Some pos) → IsEarliest ys (Some next) → IsEarliest (xs ++ ys) (Some next)
earlier_other pos next before xs ys one other = (
  contains_right xs ys next other.0,
  λ q there. ⊎_elim (λ left. chain next pos q (not_both next pos before) (one.1 q left)) (λ right. other.1 q right) (contains_either xs ys q there),
)

pub earlier_one : (pos next : Pos) → ¬ (StandsBefore next pos) → (xs ys : List Pos) → IsEarliest xs (Some pos) → IsEarliest ys (Some next) → IsEarliest (xs ++ ys) (Some pos)
earlier_one pos next later xs ys one other = (
  contains_left xs ys pos one.0,
  λ q there. ⊎_elim (λ left. one.1 q left) (λ right. chain pos next q later (other.1 q right)) (contains_either xs ys q there),
)

pub one_alone : (answer : Option Pos) (xs ys : List Pos) → IsEarliest xs answer → ys ≡ [] → IsEarliest (xs ++ ys) answer
one_alone answer xs ys one none = subst (λ zs. IsEarliest zs answer) (sym (ap (λ zs. xs ++ zs) none ∙ append-nil xs)) one

pub other_alone : (answer : Option Pos) (xs ys : List Pos) → xs ≡ [] → IsEarliest ys answer → IsEarliest (xs ++ ys) answer
other_alone answer xs ys none other = subst (λ zs. IsEarliest zs answer) (sym (ap (λ zs. zs ++ ys) none)) other

pub single : (pos : Pos) → IsEarliest (pos ∷ []) (Some pos)
single pos = grind (arith, contains_first, contains_none, contains_cases, pos.line)

-- and the places of one list more
pub flat_next : (lists : List (List Pos)) (i : ℕ) (places : List Pos) → slice_get lists i ≡ Some places → flat_map (λ ps. ps) (take (i + 1) lists) ≡ flat_map (λ ps. ps) (take i lists) ++ places
flat_next lists i places found = grind (arith, take_next lists i places found, flat_map-append, append-nil places)

-- The earliest of some places, told by bytes and by lines.

-- places in bytes and by lines, all lists joined
pub both_places : (text : List ℕ) (ats : List ℕ) (ps : List Pos) (more_ : List ℕ) (others : List Pos) → ArePlaces text ats ps → ArePlaces text more_ others → ArePlaces text (ats ++ more_) (ps ++ others)
both_places text (at ∷ ats) (p ∷ ps) more_ others here there = (here.0, both_places text ats ps more_ others here.1 there)
both_places text ats ps more_ others here there = grind arith

pub joined : (text : List ℕ) (ats : List (List ℕ)) (lists : List (List Pos)) → ArePlaceLists text ats lists → ArePlaces text (flat_map (λ xs. xs) ats) (flat_map (λ ps. ps) lists)
joined text (xs ∷ ats) (ps ∷ lists) are = both_places text xs ps (flat_map (λ ys. ys) ats) (flat_map (λ qs. qs) lists) are.0 (joined text ats lists are.1)
joined text ats lists are = grind arith

-- the place by its line of one in bytes, and the other way round
pub record AtPos (text : List ℕ) (ps : List Pos) (at : ℕ) : Type 0 where
  pub pos : Pos
  pub there : Contains ps pos
  pub is : IsPlaceAfter (take at text) pos

pub at_pos : (text : List ℕ) (ats : List ℕ) (ps : List Pos) (at : ℕ) → ArePlaces text ats ps → Contains ats at → AtPos text ps at
at_pos text (a ∷ ats) (p ∷ ps) at are there =
    ⊎_elim
    (λ (alike : a ≡ at). record { pos = p; there = contains_first p ps; is = subst (λ n. IsPlaceAfter (take n text) p) alike are.0 })
    (λ later. let rest = at_pos text ats ps at are.1 later in record { pos = rest.pos; there = contains_behind p ps rest.pos rest.there; is = rest.is })
    (contains_cases a ats at there)
at_pos text ats ps at are there = grind arith

record AtByte (text : List ℕ) (ats : List ℕ) (pos : Pos) : Type 0 where
  at : ℕ
  there : Contains ats at
  is : IsPlaceAfter (take at text) pos

at_byte : (text : List ℕ) (ats : List ℕ) (ps : List Pos) (pos : Pos) → ArePlaces text ats ps → Contains ps pos → AtByte text ats pos
at_byte text (a ∷ ats) (p ∷ ps) pos are there =
    ⊎_elim
    (λ (alike : p ≡ pos). record { at = a; there = contains_first a ats; is = subst (λ q. IsPlaceAfter (take a text) q) alike are.0 })
    (λ later. let rest = at_byte text ats ps pos are.1 later in record { at = rest.at; there = contains_behind a ats rest.at rest.there; is = rest.is })
    (contains_cases p ps pos there)
at_byte text ats ps pos are there = grind (arith, contains_none)

-- the least of some numbers
abbrev least_of : ℕ → List ℕ → ℕ
least_of n [] = n
least_of n (m ∷ ns) = min n (least_of m ns)

least_there : (n : ℕ) (ns : List ℕ) → Contains (n ∷ ns) (least_of n ns)
least_there n [] = contains_first n []
least_there n (m ∷ ns) = grind (arith, least_of m ns, contains_same, contains_behind n (m ∷ ns) (least_of m ns) (least_there m ns), cases_lt n (least_of m ns), least_there m ns)

least_first : (n : ℕ) (ns : List ℕ) (k : ℕ) → Contains (n ∷ ns) k → least_of n ns ≤ k
least_first n [] k there = ⊎_elim (λ (same : n ≡ k). omega arith) (λ later. absurd (contains_none k later)) (contains_cases n [] k there)
least_first n (m ∷ ns) k there = ⊎_elim (λ (same : n ≡ k). omega arith) (λ later. omega (arith, least_first m ns k later)) (contains_cases n (m ∷ ns) k there)

-- The earliest place by lines is the one of the least in bytes.
pub record IsLeastAt (text : List ℕ) (ats : List ℕ) (pos : Pos) : Type 0 where
  pub at : ℕ
  pub there : Contains ats at
  pub least : (n : ℕ) → Contains ats n → at ≤ n
  pub pos_is : IsPlaceAfter (take at text) pos

pub least_at : (text ats all : List ℕ) → ats ≡ all → (ps : List Pos) → ArePlaces text ats ps → (pos : Pos) → IsEarliest ps (Some pos) → IsLeastAt text ats pos
least_at text ats [] is ps are pos earliest = grind (arith, at_byte, contains_none, earliest.0)
least_at text ats (n ∷ ns) is ps are pos earliest =
    let least : ℕ = least_of n ns in
    let there : Contains ats least = subst (λ ms. Contains ms least) (sym is) (least_there n ns) in
    let own = at_pos text ats ps least are there in
    let at = at_byte text ats ps pos are earliest.0 in
    let before : least ≤ at.at = least_first n ns at.at (subst (λ ms. Contains ms at.at) is at.there) in
    let alike = one_place own.pos pos (earliest.1 own.pos own.there) (places_rise text least at.at own.pos pos before own.is at.is) in
    record {
      at = least;
      there = there;
      least = λ m inside. least_first n ns m (subst (λ ms. Contains ms m) is inside);
      pos_is = subst (λ q. IsPlaceAfter (take least text) q) alike own.is;
    }

-- The places of variables among the first occurrences.

-- the names of occurrences
abbrev pub names_among : List Occurrence → List (List ℕ)
names_among occurrences = map (λ (o : Occurrence). o.name) occurrences

-- where all names were seen, none occurs first
none_first : (seen : List (List ℕ)) (ys : List Occurrence) → ((y : Occurrence) → Contains ys y → Contains seen y.name) → firsts_beside seen ys ≡ []
none_first seen [] all = refl
none_first seen (y ∷ ys) all = let yes = is_any seen y.name (all y (contains_first y ys)) in rw (yes, none_first seen ys (λ z there. all z (contains_behind y ys z there)))

append_by : (b : Bool) (seen : List (List ℕ)) (x : Occurrence) (xs ys : List Occurrence)
    → ((y : Occurrence) → Contains ys y → Contains seen y.name ⊎ Contains (names_among (if b then firsts_beside seen xs else x ∷ firsts_beside (x.name ∷ seen) xs)) y.name)
    → (((y : Occurrence) → Contains ys y → Contains seen y.name ⊎ Contains (names_among (firsts_beside seen xs)) y.name) → firsts_beside seen (xs ++ ys) ≡ firsts_beside seen xs)
    → (((y : Occurrence) → Contains ys y → Contains (x.name ∷ seen) y.name ⊎ Contains (names_among (firsts_beside (x.name ∷ seen) xs)) y.name) → firsts_beside (x.name ∷ seen) (xs ++ ys) ≡ firsts_beside (x.name ∷ seen) xs)
    → (if b then firsts_beside seen (xs ++ ys) else x ∷ firsts_beside (x.name ∷ seen) (xs ++ ys)) ≡ (if b then firsts_beside seen xs else x ∷ firsts_beside (x.name ∷ seen) xs)
append_by true seen x xs ys all old new = old all
append_by false seen x xs ys all old new =
    ap (λ os. x ∷ os) (new (λ y there.
    ⊎_elim
    (λ seen_. inl (contains_behind x.name seen y.name seen_))
    (λ first. ⊎_elim
    (λ (alike : x.name ≡ y.name). inl (subst (Contains (x.name ∷ seen)) alike (contains_first x.name seen)))
    (λ later. inr later)
    (contains_cases x.name (names_among (firsts_beside (x.name ∷ seen) xs)) y.name first))
    (all y there)))

-- where all further names occur before, the first occurrences stay
pub firsts_append : (seen : List (List ℕ)) (xs ys : List Occurrence) → ((y : Occurrence) → Contains ys y → Contains seen y.name ⊎ Contains (names_among (firsts_beside seen xs)) y.name) → firsts_beside seen (xs ++ ys) ≡ firsts_beside seen xs
firsts_append seen [] ys all = none_first seen ys (λ y there. ⊎_elim (λ seen_. seen_) (λ never. absurd (contains_none y.name never)) (all y there))
firsts_append seen (x ∷ xs) ys all = rw (append_by (list_any (λ name. bytes_eq name x.name) seen) seen x xs ys all (λ old. firsts_append seen xs ys old) (λ new. firsts_append (x.name ∷ seen) xs ys new))

-- A variable has its own number, and was not seen before.
pub record HasPlace (seen : List (List ℕ)) (firsts_ : List Occurrence) (v : ℕ) (o : Occurrence) : Type 0 where
  pub number : place (λ other. bytes_eq other o.name) (names_among firsts_) ≡ v
  pub unseen : ¬ (Contains seen o.name)

differ_by : (xs ys : List ℕ) → (xs ≡ ys → ⊥) → (b : Bool) → bytes_eq xs ys ≡ b → b ≡ false
differ_by xs ys differ b e = grind (arith, same_bytes)

place_by : (b : Bool) (seen : List (List ℕ)) (x : Occurrence) (xs : List Occurrence) (v : ℕ) (o : Occurrence) → list_any (λ name. bytes_eq name x.name) seen ≡ b
    → slice_get (if b then firsts_beside seen xs else x ∷ firsts_beside (x.name ∷ seen) xs) v ≡ Some o
    → (slice_get (firsts_beside seen xs) v ≡ Some o → HasPlace seen (firsts_beside seen xs) v o)
    → ((w : ℕ) → slice_get (firsts_beside (x.name ∷ seen) xs) w ≡ Some o → HasPlace (x.name ∷ seen) (firsts_beside (x.name ∷ seen) xs) w o)
    → HasPlace seen (if b then firsts_beside seen xs else x ∷ firsts_beside (x.name ∷ seen) xs) v o
place_by true seen x xs v o is found old new = old found
place_by false seen x xs zero o is found old new =
    let alike : x ≡ o = cc in
    subst (λ (p : Occurrence). HasPlace seen (x ∷ firsts_beside (x.name ∷ seen) xs) 0 p) alike
    (record {
      number = ap (λ b. cond b 0 (1 + place (λ other. bytes_eq other x.name) (names_among (firsts_beside (x.name ∷ seen) xs)))) (bytes_same x.name);
      unseen = λ there. seen_absurd (is_any seen x.name there);
    })
  where
    seen_absurd : list_any (λ name. bytes_eq name x.name) seen ≡ true → ⊥
    seen_absurd seen_it = absurd cc
place_by false seen x xs (suc v) o is found old new =
    let rest = new v found in
    let apart : bytes_eq x.name o.name ≡ false = differ_by x.name o.name (λ alike. rest.unseen (subst (Contains (x.name ∷ seen)) alike (contains_first x.name seen))) (bytes_eq x.name o.name) refl in
    let one : 1 + v ≡ suc v = omega arith in
    record {
      number = ap (λ b. cond b 0 (1 + place (λ other. bytes_eq other o.name) (names_among (firsts_beside (x.name ∷ seen) xs)))) apart ∙ ap (λ n. 1 + n) rest.number ∙ one;
      unseen = λ there. rest.unseen (contains_behind x.name seen o.name there);
    }

pub first_place : (seen : List (List ℕ)) (xs : List Occurrence) (v : ℕ) (o : Occurrence) → slice_get (firsts_beside seen xs) v ≡ Some o → HasPlace seen (firsts_beside seen xs) v o
first_place seen [] v o found = absurd cc
first_place seen (x ∷ xs) v o found =
    place_by (list_any (λ name. bytes_eq name x.name) seen) seen x xs v o refl found
    (λ old. first_place seen xs v o old) (λ w new. first_place (x.name ∷ seen) xs w o new)

-- so its name has its number
pub variable_at : (xs : List Occurrence) (v : ℕ) (o : Occurrence) → slice_get (firsts_beside [] xs) v ≡ Some o → variable_of (names_among (firsts_beside [] xs)) o.name ≡ v
variable_at xs v o found =
    position_there (λ other. bytes_eq other o.name) (names_among (firsts_beside [] xs))
    (within (contains_map (λ (p : Occurrence). p.name) (firsts_beside [] xs) o (contains_at (firsts_beside [] xs) v o found))) ∙ ((first_place [] xs v o found).number)
  where
    within : Contains (names_among (firsts_beside [] xs)) o.name → place (λ other. bytes_eq other o.name) (names_among (firsts_beside [] xs)) < length (names_among (firsts_beside [] xs))
    within there = place_within (λ other. bytes_eq other o.name) (names_among (firsts_beside [] xs)) (is_any (names_among (firsts_beside [] xs)) o.name there)
