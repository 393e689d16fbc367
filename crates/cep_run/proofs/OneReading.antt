-- What is typed for one choice is heard in one way.
use Rattle.std.proofs.Common.{◌≡◌, ℕ, ◌+◌, ◌<◌, ◌≤◌, ◌^◌, List, [], ◌∷◌, ◌++◌, length, length-append, refl, sym, ap, ◌∙◌, subst, arith}
use Rattle.std.proofs.lemmas.List.{append-nil, append_cancel_right}
use Rattle.std.proofs.lemmas.Str.Parse.{digit_from_value}
use Rattle.std.proofs.Math.Seq.{take-append_seam, drop-append_seam}
use Rattle.std.proofs.lemmas.Fmt.{decimal_is_IsNumeral, decimal_injective}
use Rattle.std.specs.Fmt.{decimal}
use Rattle.std.specs.Str.Parse.{AllDigits}
use Rattle.cep_base.specs.Spelling.{IsUnbroken}
use Rattle.cep_base.specs.declared.console.Event.{Event}
use Rattle.cep_run.specs.declared.choice.Choice.{Choice}
use Rattle.cep_run.specs.declared.choice.Choice.TheVariants.{Place}
use Rattle.cep_run.specs.Choice.{room_after, Hears, chosen, again, no_more, no_room}
use Rattle.cep_choice.specs.TypedLine.{Chooses, ChoosesNone, Cut, Ended, Last, Nothing, Full, ReadsLine, IsLine}

-- two lines that end at their LFs in the same bytes are the same
same_line : (line other rest behind : List ℕ) → IsUnbroken line → IsUnbroken other → line ++ 10 ∷ rest ≡ other ++ 10 ∷ behind → (line ≡ other) × (rest ≡ behind)
same_line [] [] rest behind whole whole' same = (refl, (cc))
same_line [] (byte ∷ other) rest behind whole whole' same = absurd (whole'.0 (cc))
same_line (byte ∷ line) [] rest behind whole whole' same = absurd (whole.0 (cc))
same_line (byte ∷ line) (first ∷ other) rest behind whole whole' same =
    let later = same_line line other rest behind whole.1 whole'.1 (cc) in
    ((cc (later.0)), later.1)

-- bytes without an LF end before the first one
ends_before : (line rest bytes more : List ℕ) → IsUnbroken bytes → line ++ 10 ∷ rest ≡ bytes ++ more → length bytes ≤ length line
ends_before line rest [] more unbroken same = omega arith
ends_before [] rest (byte ∷ bytes) more unbroken same = absurd (unbroken.0 (cc))
ends_before (first ∷ line) rest (byte ∷ bytes) more unbroken same = omega (arith, ends_before line rest bytes more unbroken.1 (cc))

-- as many bytes at the front of one list are the same
same_front : (bytes others rest behind : List ℕ) → length bytes ≡ length others → bytes ++ rest ≡ others ++ behind → (bytes ≡ others) × (rest ≡ behind)
same_front bytes others rest behind many same =
    (cc (take-append_seam bytes rest, take-append_seam others behind), cc (drop-append_seam bytes rest, drop-append_seam others behind))

-- a line that ends at an LF does not end with the input
ended_or_last : (come line rest other : List ℕ) → come ≡ line ++ 10 ∷ rest → come ≡ other → IsUnbroken other → ⊥
ended_or_last come line rest other ended last unbroken =
    let most = ends_before line rest other [] unbroken (sym ended ∙ last ∙ sym (append-nil other)) in
    omega (arith, most, ap length (sym ended ∙ last), length-append line (10 ∷ rest))

-- a line that ends at an LF within the room does not fill it
ended_or_full : (room : ℕ) (come line rest bytes more : List ℕ) → come ≡ line ++ 10 ∷ rest → length line < room → come ≡ bytes ++ more → IsUnbroken bytes → length bytes ≡ room → ⊥
ended_or_full room come line rest bytes more ended within front unbroken full =
    omega (arith, ends_before line rest bytes more unbroken (sym ended ∙ front))

-- input that ends within the room does not fill it
within_or_full : (room : ℕ) (come line bytes more : List ℕ) → come ≡ line → length line < room → come ≡ bytes ++ more → length bytes ≡ room → ⊥
within_or_full room come line bytes more whole within front full = omega (arith, ap length (sym whole ∙ front), length-append bytes more)

-- where some bytes come, the input did not end before them
last_or_nothing : (come line : List ℕ) → come ≡ line → 0 < length line → come ≡ [] → ⊥
last_or_nothing come line whole some none = omega (arith, ap length (sym whole ∙ none))

-- two readings of a line gave the same
record SameReading (events events' : List Event) (cut cut' : Cut) (rest rest' : List ℕ) (taken taken' : ℕ) : Type 0 where
  said : events ≡ events'
  cuts : cut ≡ cut'
  left : rest ≡ rest'
  many : taken ≡ taken'

-- from the bytes to come a line is read in one way
one_reading : (room : ℕ) (come : List ℕ) (cut cut' : Cut) {events events' : List Event} {rest rest' : List ℕ} {taken taken' : ℕ} → ReadsLine room come events cut rest taken → ReadsLine room come events' cut' rest' taken' → SameReading events events' cut cut' rest rest' taken taken'
one_reading room come (Ended line) (Ended other) {rest = rest} {rest' = rest'} reads reads' =
    let same = same_line line other rest rest' reads.1 reads'.1 (sym reads.0 ∙ reads'.0) in
    record { said = cc (same.0); cuts = cc (same.0); left = same.1; many = cc (same.0) }
one_reading room come (Last line) (Last other) reads reads' = record { said = (cc); cuts = (cc); left = (cc); many = (cc) }
one_reading room come Nothing Nothing reads reads' = record { said = (cc); cuts = refl; left = (cc); many = (cc) }
one_reading room come (Full bytes) (Full others) {rest = rest} {rest' = rest'} reads reads' =
    let same = same_front bytes others rest rest' (reads.2 ∙ sym reads'.2) (sym reads.0 ∙ reads'.0) in
    record { said = cc (same.0); cuts = cc (same.0); left = same.1; many = (cc) }
-- all other pairs of ends exclude each other
one_reading room come (Ended line) (Last other) {rest = rest} reads reads' = absurd (ended_or_last come line rest other reads.0 reads'.0 reads'.3)
one_reading room come (Last line) (Ended other) {rest' = rest} reads reads' = absurd (ended_or_last come other rest line reads'.0 reads.0 reads.3)
one_reading room come (Ended line) Nothing {rest = rest} reads reads' = absurd (ended_or_last come line rest [] reads.0 reads'.0 tt)
one_reading room come Nothing (Ended line) {rest' = rest} reads reads' = absurd (ended_or_last come line rest [] reads'.0 reads.0 tt)
one_reading room come (Ended line) (Full bytes) {rest = rest} {rest' = more} reads reads' = absurd (ended_or_full room come line rest bytes more reads.0 reads.2 reads'.0 reads'.1 reads'.2)
one_reading room come (Full bytes) (Ended line) {rest = more} {rest' = rest} reads reads' = absurd (ended_or_full room come line rest bytes more reads'.0 reads'.2 reads.0 reads.1 reads.2)
one_reading room come (Last line) Nothing reads reads' = absurd (last_or_nothing come line reads.0 reads.2 reads'.0)
one_reading room come Nothing (Last line) reads reads' = absurd (last_or_nothing come line reads'.0 reads'.2 reads.0)
one_reading room come (Last line) (Full bytes) {rest' = more} reads reads' = absurd (within_or_full room come line bytes more reads.0 reads.4 reads'.0 reads'.2)
one_reading room come (Full bytes) (Last line) {rest = more} reads reads' = absurd (within_or_full room come line bytes more reads'.0 reads'.4 reads.0 reads.2)
one_reading room come Nothing (Full bytes) {rest' = more} reads reads' = absurd (within_or_full room come [] bytes more reads.0 reads.2 reads'.0 reads'.2)
one_reading room come (Full bytes) Nothing {rest = more} reads reads' = absurd (within_or_full room come [] bytes more reads'.0 reads'.2 reads.0 reads.2)

-- a CR is no digit
digits_or_CR : (digits : List ℕ) → AllDigits 10 (digits ++ 13 ∷ []) → ⊥
digits_or_CR [] all = let low = digit_from_value 13 all.0 in omega (arith, low.0)
digits_or_CR (digit ∷ digits) all = digits_or_CR digits all.1

-- a number alone is not a number and a CR
plain_or_closed : (place other : ℕ) → place < 2 ^ 64 → decimal place ≡ decimal other ++ 13 ∷ [] → ⊥
plain_or_closed place other small same = digits_or_CR (decimal other) (subst (AllDigits 10) same (decimal_is_IsNumeral place small).0.1)

-- a line chooses one place
one_place : (n : ℕ) (line : List ℕ) (place other : ℕ) → n < 2 ^ 32 → Chooses n line place → Chooses n line other → place ≡ other
one_place n line place other small chooses chooses' = grind (arith, decimal_injective place other, plain_or_closed place other, plain_or_closed other place, append_cancel_right (decimal place) (decimal other) (13 ∷ []), chooses.1, chooses.2, chooses'.1, chooses'.2)

-- one reading gives one line
one_line : (cut cut' : Cut) (line other : List ℕ) → cut ≡ cut' → IsLine cut line → IsLine cut' other → line ≡ other
one_line cut cut' line other same is is' = grind arith

-- where a line was read, the input did not end before it
line_or_nothing : (cut : Cut) (line : List ℕ) → cut ≡ Nothing → IsLine cut line → ⊥
line_or_nothing cut line none is = grind arith

-- where a line was read, the room was not full before its end
line_or_full : (cut : Cut) (line bytes : List ℕ) → cut ≡ Full bytes → IsLine cut line → ⊥
line_or_full cut line bytes full is = grind arith

-- one reading does not find both the end of the input and a full room
nothing_or_full : (bytes : List ℕ) → Nothing ≡ Full bytes → ⊥
nothing_or_full bytes same = cc

-- one reading does not choose a place and none
chosen_or_none : (n : ℕ) (cut cut' : Cut) (line other : List ℕ) (place : ℕ) → cut ≡ cut' → IsLine cut line → IsLine cut' other → Chooses n line place → ChoosesNone n other → ⊥
chosen_or_none n cut cut' line other place same is is' chooses none =
    none place (subst (λ bytes. Chooses n bytes place) (one_line cut cut' line other same is is') chooses)

-- two choices that were heard are the same
pub record SameHearing (events events' : List Event) (choice choice' : Choice) (rest rest' : List ℕ) (taken taken' : ℕ) : Type 0 where
  pub said : events ≡ events'
  pub choices : choice ≡ choice'
  pub left : rest ≡ rest'
  pub many : taken ≡ taken'

-- from the bytes to come a choice is heard in one way
pub one_hearing : (n : ℕ) → n < 2 ^ 32 → {come : List ℕ} {taken : ℕ} {events events' : List Event} {choice choice' : Choice} {rest rest' : List ℕ} {all all' : ℕ} → Hears n come taken events choice rest all → Hears n come taken events' choice' rest' all' → SameHearing events events' choice choice' rest rest' all all'
one_hearing n small {come} {taken} (chosen {place = place} cut line more reads is chooses many) (chosen {place = other} cut' line' more' reads' is' chooses' many') =
    let reading = one_reading (room_after taken) come cut cut' reads reads' in
    let same = one_line cut cut' line line' reading.cuts is is' in
    let places = one_place n line place other small chooses (subst (λ bytes. Chooses n bytes other) (sym same) chooses') in
    record { said = reading.said; choices = ap Place places; left = reading.left; many = cc (reading.many) }
one_hearing n small {come} {taken} {events' = events'} {choice' = choice'} {rest' = rest'} {all' = all'} (again cut line between more first others reads is none hears whole) (again cut' line' between' more' first' others' reads' is' none' hears' whole') =
    let reading = one_reading (room_after taken) come cut cut' reads reads' in
    let moved = subst (λ bytes. Hears n bytes (taken + more') others' choice' rest' all') (sym reading.left) hears' in
    let later = one_hearing n small hears (subst (λ many. Hears n between (taken + many) others' choice' rest' all') (sym reading.many) moved) in
    record { said = cc (reading.said, later.said); choices = later.choices; left = later.left; many = later.many }
one_hearing n small {come} {taken} (no_more more reads many) (no_more more' reads' many') =
    let reading = one_reading (room_after taken) come Nothing Nothing reads reads' in
    record { said = reading.said; choices = refl; left = reading.left; many = cc (reading.many) }
one_hearing n small {come} {taken} (no_room bytes more reads many) (no_room bytes' more' reads' many') =
    let reading = one_reading (room_after taken) come (Full bytes) (Full bytes') reads reads' in
    record { said = reading.said; choices = refl; left = reading.left; many = cc (reading.many) }
-- all other pairs of cases exclude each other
one_hearing n small {come} {taken} (chosen {place = place} cut line _ reads is chooses _) (again cut' line' _ _ _ _ reads' is' none' _ _) =
    absurd (chosen_or_none n cut cut' line line' place (one_reading (room_after taken) come cut cut' reads reads').cuts is is' chooses none')
one_hearing n small {come} {taken} (again cut line _ _ _ _ reads is none _ _) (chosen {place = place} cut' line' _ reads' is' chooses' _) =
    absurd (chosen_or_none n cut' cut line' line place (one_reading (room_after taken) come cut' cut reads' reads).cuts is' is chooses' none)
one_hearing n small {come} {taken} (chosen cut line _ reads is _ _) (no_more _ reads' _) =
    absurd (line_or_nothing cut line (one_reading (room_after taken) come cut Nothing reads reads').cuts is)
one_hearing n small {come} {taken} (no_more _ reads _) (chosen cut' line' _ reads' is' _ _) =
    absurd (line_or_nothing cut' line' (one_reading (room_after taken) come cut' Nothing reads' reads).cuts is')
one_hearing n small {come} {taken} (chosen cut line _ reads is _ _) (no_room bytes _ reads' _) =
    absurd (line_or_full cut line bytes (one_reading (room_after taken) come cut (Full bytes) reads reads').cuts is)
one_hearing n small {come} {taken} (no_room bytes _ reads _) (chosen cut' line' _ reads' is' _ _) =
    absurd (line_or_full cut' line' bytes (one_reading (room_after taken) come cut' (Full bytes) reads' reads).cuts is')
one_hearing n small {come} {taken} (again cut line _ _ _ _ reads is _ _ _) (no_more _ reads' _) =
    absurd (line_or_nothing cut line (one_reading (room_after taken) come cut Nothing reads reads').cuts is)
one_hearing n small {come} {taken} (no_more _ reads _) (again cut' line' _ _ _ _ reads' is' _ _ _) =
    absurd (line_or_nothing cut' line' (one_reading (room_after taken) come cut' Nothing reads' reads).cuts is')
one_hearing n small {come} {taken} (again cut line _ _ _ _ reads is _ _ _) (no_room bytes _ reads' _) =
    absurd (line_or_full cut line bytes (one_reading (room_after taken) come cut (Full bytes) reads reads').cuts is)
one_hearing n small {come} {taken} (no_room bytes _ reads _) (again cut' line' _ _ _ _ reads' is' _ _ _) =
    absurd (line_or_full cut' line' bytes (one_reading (room_after taken) come cut' (Full bytes) reads' reads).cuts is')
one_hearing n small {come} {taken} (no_more _ reads _) (no_room bytes _ reads' _) =
    absurd (nothing_or_full bytes (one_reading (room_after taken) come Nothing (Full bytes) reads reads').cuts)
one_hearing n small {come} {taken} (no_room bytes _ reads _) (no_more _ reads' _) =
    absurd (nothing_or_full bytes (one_reading (room_after taken) come Nothing (Full bytes) reads' reads).cuts)
