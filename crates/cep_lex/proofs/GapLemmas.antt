-- Gaps, one byte on, with lines and columns.
use Rattle.std.proofs.Common.{◌≡◌, ◌≢◌, ℕ, ◌+◌, ◌<◌, ◌==◌, get_or, take, List, [], ◌∷◌, ◌++◌, length, refl, sym, ap, ◌∙◌, inl, arith, append_assoc, append-nil, length-append, not, eqb, ◌≤◌, Bool, true, false, IsTrue, drop, take-append-drop, length-take-le}
use Rattle.std.specs.List.{count_by}
use Rattle.std.proofs.lemmas.Bool.{eq-eqb, ne_eqb, cases_eq}
use Rattle.std.proofs.lemmas.List.{take_more, drop_at, drop_more, take_all}
use Rattle.std.proofs.lemmas.List.Sums.{sum_by_push}
use Rattle.cep_base.specs.declared.place.Pos.{Pos}
use Rattle.cep_base.specs.Spelling.{IsUnbroken}
use Rattle.cep_lex.specs.Places.{IsPlaceAfter}
use Rattle.cep_lex.specs.Cuts.{is_separator, IsGap, IsLastGap}
use Rattle.cep_lex.specs.Cuts.IsGap.{empty, separator, comment}
use Rattle.cep_lex.specs.Fronts.{IsGapLength}
use Rattle.cep_lex.specs.Fronts.IsGapLength.{all, before}
use Rattle.cep_base.proofs.Bytes.{unbroken_push}
use Rattle.cep_base.proofs.Bools.{true_false}

-- The line and the column, one byte on.

-- the place of the first byte
pub place_start : IsPlaceAfter [] (record { line = 1; col = 1 })
place_start = record { lines = []; bytes = []; cut = refl; ended = inl refl; unbroken = tt; line = refl; col = refl }

abbrev breaks : List ℕ → ℕ
breaks bytes = count_by (λ byte. byte == 10) bytes

-- the place after a byte
after_break : (earlier : List ℕ) (byte : ℕ) (pos : Pos) → byte ≡ 10 → IsPlaceAfter earlier pos → IsPlaceAfter (earlier ++ byte ∷ []) (record { line = pos.line + 1; col = 1 })
after_break earlier byte pos is place = grind (arith, append-nil (earlier ++ 10 ∷ []), sum_by_push, breaks earlier, eq-eqb byte 10 is)

after_more : (earlier : List ℕ) (byte : ℕ) (pos : Pos) → byte ≢ 10 → IsPlaceAfter earlier pos → IsPlaceAfter (earlier ++ byte ∷ []) (record { line = pos.line; col = pos.col + 1 })
after_more earlier byte pos is place = grind (arith, append_assoc, unbroken_push, sum_by_push, breaks, ne_eqb, length-append)

module _ (earlier bytes : List ℕ) (i : ℕ) where
  on : (pos : Pos) → i < length bytes → IsPlaceAfter ((earlier ++ take i bytes) ++ get_or bytes i 0 ∷ []) pos → IsPlaceAfter (earlier ++ take (i + 1) bytes) pos
  on pos within place = rw (take_more bytes i 0 within, ← append_assoc earlier (take i bytes) (get_or bytes i 0 ∷ [])) place

  pub place_break : (pos : Pos) → i < length bytes → get_or bytes i 0 ≡ 10 → IsPlaceAfter (earlier ++ take i bytes) pos → IsPlaceAfter (earlier ++ take (i + 1) bytes) (record { line = pos.line + 1; col = 1 })
  place_break pos within is place = on _ within (after_break (earlier ++ take i bytes) _ pos is place)

  pub place_more : (pos : Pos) → i < length bytes → get_or bytes i 0 ≢ 10 → IsPlaceAfter (earlier ++ take i bytes) pos → IsPlaceAfter (earlier ++ take (i + 1) bytes) (record { line = pos.line; col = pos.col + 1 })
  place_more pos within is place = on _ within (after_more (earlier ++ take i bytes) _ pos is place)

-- Gaps, one byte on, and what they are followed by.

-- a gap and a comment that goes on
pub record IsOpen (bytes : List ℕ) : Type 0 where
  pub gap : List ℕ
  pub body : List ℕ
  pub cut : bytes ≡ gap ++ 37 ∷ body
  pub apart : IsGap gap
  pub unbroken : IsUnbroken body

-- what the bytes so far are, in a comment or outside
abbrev pub IsGapSoFar : Bool → List ℕ → Type 0
IsGapSoFar true bytes = IsOpen bytes
IsGapSoFar false bytes = IsGap bytes

-- two gaps are a gap
pub gap_append : (one two : List ℕ) → IsGap one → IsGap two → IsGap (one ++ two)
gap_append one two empty other = other
gap_append one two (separator byte gap is rest) other = separator byte (gap ++ two) is (gap_append gap two rest other)
gap_append one two (comment body gap unbroken rest) other = rw append_assoc (comment body (gap ++ two) unbroken (gap_append gap two rest other))

-- a separator goes on with a gap
pub gap_separator : (gap : List ℕ) (byte : ℕ) → IsGap gap → is_separator byte ≡ true → IsGap (gap ++ byte ∷ [])
gap_separator gap byte is separates = gap_append gap (byte ∷ []) is (separator byte [] separates empty)

-- `%` begins a comment
pub gap_opened : (gap : List ℕ) → IsGap gap → IsOpen (gap ++ 37 ∷ [])
gap_opened gap is = record { gap = gap; body = []; cut = refl; apart = is; unbroken = tt }

-- a comment goes on with any byte but LF
pub open_more : (bytes : List ℕ) (byte : ℕ) → IsOpen bytes → byte ≢ 10 → IsOpen (bytes ++ byte ∷ [])
open_more bytes byte is no_break = record { gap = is.gap; body = is.body ++ byte ∷ []; cut = ap (λ b. b ++ byte ∷ []) is.cut ∙ append_assoc is.gap (37 ∷ is.body) (byte ∷ []); apart = is.apart; unbroken = unbroken_push is.body byte is.unbroken no_break }

-- and ends with LF
pub open_closed : (bytes : List ℕ) → IsOpen bytes → IsGap (bytes ++ 10 ∷ [])
open_closed bytes is = rw (is.cut, append_assoc) (gap_append is.gap (37 ∷ (is.body ++ 10 ∷ [])) is.apart (comment is.body [] is.unbroken empty))

-- what stands at the end, in a comment or outside
pub gap_ended : (in_comment : Bool) (bytes : List ℕ) → IsGapSoFar in_comment bytes → IsLastGap bytes
gap_ended in_comment bytes is = grind arith

-- a byte within a comment
pub in_comment_next : (bytes : List ℕ) (i : ℕ) (in_comment after : Bool) → i < length bytes → in_comment ≡ true → after ≡ not (eqb (get_or bytes i 0) 10) → IsGapSoFar in_comment (take i bytes) → IsGapSoFar after (take (i + 1) bytes)
in_comment_next bytes i in_comment after within is goes so_far = grind (arith, take_more bytes i 0 within, cases_eq (get_or bytes i 0) 10, open_more, open_closed, eq-eqb, ne_eqb)

-- `%` outside comments
pub comment_next : (bytes : List ℕ) (i : ℕ) (in_comment after : Bool) → i < length bytes → in_comment ≡ false → after ≡ true → get_or bytes i 0 ≡ 37 → IsGapSoFar in_comment (take i bytes) → IsGapSoFar after (take (i + 1) bytes)
comment_next bytes i in_comment after within is goes percent so_far = grind (arith, take_more bytes i 0 within, gap_opened)

-- a separator outside comments
pub separator_next : (bytes : List ℕ) (i : ℕ) (in_comment after : Bool) → i < length bytes → in_comment ≡ false → after ≡ in_comment → is_separator (get_or bytes i 0) ≡ true → IsGapSoFar in_comment (take i bytes) → IsGapSoFar after (take (i + 1) bytes)
separator_next bytes i in_comment after within is goes separates so_far = grind (arith, take_more bytes i 0 within, gap_separator)

-- a byte outside comments that is in no gap
pub gap_found : (bytes : List ℕ) (i : ℕ) (in_comment : Bool) → i < length bytes → in_comment ≡ false → is_separator (get_or bytes i 0) ≡ false → get_or bytes i 0 ≢ 37 → IsGapSoFar in_comment (take i bytes) → IsGapLength bytes i
gap_found bytes i true within is no_separator no_comment so_far = cc
gap_found bytes i false within is no_separator no_comment so_far =
    let cut = rw (drop_more bytes i 0 within) at (sym (take-append-drop i bytes)) in
    before (take i bytes) (get_or bytes i 0) (drop (i + 1) bytes) cut (sym (length-take-le i bytes (omega arith))) so_far (λ e. true_false _ e no_separator) no_comment

-- nothing but a gap
pub gap_whole : (bytes : List ℕ) (i : ℕ) (in_comment : Bool) → length bytes ≤ i → IsGapSoFar in_comment (take i bytes) → IsGapLength bytes (length bytes)
gap_whole bytes i in_comment within so_far = all refl (gap_ended in_comment bytes (rw (take_all i bytes within) at so_far))

-- nothing but a gap, where it is as long as the bytes
pub gap_all : (bytes : List ℕ) (size : ℕ) → IsGapLength bytes size → size ≡ length bytes → IsLastGap bytes
gap_all bytes size given is = grind (arith, length-append)

-- a gap before a byte that is in none
pub record IsGapBefore (bytes : List ℕ) (size : ℕ) : Type 0 where
  pub gap : List ℕ
  pub byte : ℕ
  pub behind : List ℕ
  pub cut : bytes ≡ gap ++ byte ∷ behind
  pub is : length gap ≡ size
  pub next : drop size bytes ≡ byte ∷ behind
  pub apart : IsGap gap
  pub no_separator : IsTrue (is_separator byte) → ⊥
  pub no_comment : byte ≢ 37

pub gap_before : (bytes : List ℕ) (size : ℕ) → IsGapLength bytes size → size < length bytes → IsGapBefore bytes size
gap_before bytes size given is = grind (arith, drop_at)
