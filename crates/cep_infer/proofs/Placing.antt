-- The places of a text, from one to the next.
use Rattle.std.proofs.Common.{◌≡◌, ◌⊎◌, ℕ, ◌+◌, ◌<◌, ◌≤◌, min, map, length, take, get_or, List, [], ◌∷◌, ◌++◌, ap, subst, ◌∙◌, arith, length-append, length-drop}
use Rattle.std.specs.List.{slice_range}
use Rattle.std.proofs.Math.Nat.{min-le_right}
use Rattle.std.proofs.lemmas.List.{length-take, take_more, take-take, take_min, take-append-drop, map-append}
use Rattle.std.proofs.lemmas.List.Sums.{count_by-le-length}
use Rattle.std.proofs.lemmas.Slice.{between_is}
use Rattle.cep_base.specs.declared.place.Pos.{Pos}
use Rattle.cep_lex.specs.Places.{IsPlaceAfter}
use Rattle.cep_infer.specs.declared.places.Reached.{Reached}
use Rattle.cep_infer.specs.Places.{IsReached, ArePlaces, ArePlaceLists}

-- ---- places in a text

pub front_is_reached : (text : List ℕ) → IsReached text (record { at = 0; pos = record { line = 1; col = 1 } })
front_is_reached text = grind arith

joined : (text : List ℕ) (i j : ℕ) → i ≤ j → take i text ++ slice_range text i j ≡ take j text
joined text i j h = grind (arith, between_is text i j, take-take i j text h, take-append-drop i (take j text))

-- From where a place is looked for: from one that was reached, or from the front where it lies before.
pub record IsStart (text : List ℕ) (start : Reached) (to : ℕ) : Type 0 where
  pub before : start.at ≤ to
  pub reached : IsReached text start

abbrev front : Reached
front = record { at = 0; pos = record { line = 1; col = 1 } }

pub start_is : (text : List ℕ) (from start : Reached) (to : ℕ) → IsReached text from → ((start ≡ from) × (from.at ≤ to)) ⊎ (start ≡ front) → IsStart text start to
start_is text from start to reached given = grind (arith, front_is_reached text)

-- a place further on, which is said by a number that may lie after the text
pub reached_is : (text : List ℕ) (start : Reached) (at to : ℕ) (pos : Pos) → to ≡ min at (length text) → start.at ≤ to → IsReached text start
    → ((before : List ℕ) → IsPlaceAfter before start.pos → IsPlaceAfter (before ++ slice_range text start.at to) pos) → IsReached text (record { at = to; pos = pos })
reached_is text start at to pos is h from further = grind (arith, min-le_right, joined)

pub place_there : (text : List ℕ) (at to : ℕ) (pos : Pos) → to ≡ min at (length text) → IsReached text (record { at = to; pos = pos }) → IsPlaceAfter (take at text) pos
place_there text at to pos is reached = subst (λ (bytes : List ℕ). IsPlaceAfter bytes pos) (ap (λ n. take n text) is ∙ take_min at text) reached.place

range_short : (text : List ℕ) (from to : ℕ) → length (slice_range text from to) ≤ length text
range_short text from to = grind (arith, between_is, length-drop, length-take)

-- the line and the column of a place further on are numbers
pub line_fits : (text : List ℕ) (start : Reached) (to : ℕ) → length text ≤ 1048576 → IsReached text start → start.pos.line + length (slice_range text start.at to) < 4294967296
line_fits text start to short is = grind (arith, count_by-le-length, length-take, range_short)

pub col_fits : (text : List ℕ) (start : Reached) (to : ℕ) → length text ≤ 1048576 → IsReached text start → start.pos.col + length (slice_range text start.at to) < 4294967296
col_fits text start to short is = grind (arith, length-append is.place.lines is.place.bytes, length-take start.at text, range_short text start.at to)

-- ---- one place more

places_push : (text ats : List ℕ) (places : List Pos) (at : ℕ) (pos : Pos) → ArePlaces text ats places → IsPlaceAfter (take at text) pos → ArePlaces text (ats ++ at ∷ []) (places ++ pos ∷ [])
places_push text (a ∷ ats) (p ∷ places) at pos are is = (are.0, places_push text ats places at pos are.1 is)
places_push text ats places at pos are is = grind arith

pub places_more : (text ats : List ℕ) (i d : ℕ) (old new : List Pos) (pos : Pos) → i < length ats → ArePlaces text (take i ats) old → IsPlaceAfter (take (get_or ats i d) text) pos → new ≡ old ++ pos ∷ [] → ArePlaces text (take (i + 1) ats) new
places_more text ats i d old new pos h are is new_is = grind (arith, take_more ats i d h, places_push text (take i ats) old (get_or ats i d) pos are is)

pub lists_push : (text : List ℕ) (ats : List (List ℕ)) (lists : List (List Pos)) (some : List ℕ) (places : List Pos) → ArePlaceLists text ats lists → ArePlaces text some places → ArePlaceLists text (ats ++ some ∷ []) (lists ++ places ∷ [])
lists_push text (a ∷ ats) (p ∷ lists) some places are is = (are.0, lists_push text ats lists some places are.1 is)
lists_push text ats lists some places are is = grind arith

pub lists_more : {X Y : Type 0} (text : List ℕ) (f : Y → List ℕ) (g : X → Y) (xs : List X) (i : ℕ) (x : X) (old new : List (List Pos)) → i < length xs → x ≡ get_or xs i x → ArePlaceLists text (map f (map g (take i xs))) old
    → ((before : List (List ℕ)) → ArePlaceLists text before old → ArePlaceLists text (before ++ f (g x) ∷ []) new) → ArePlaceLists text (map f (map g (take (i + 1) xs))) new
lists_more text f g xs i x old new h given are more = grind (arith, take_more xs i x h, map-append g (take i xs) (get_or xs i x ∷ []), map-append f (map g (take i xs)) (g (get_or xs i x) ∷ []))
