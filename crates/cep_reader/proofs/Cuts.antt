-- The lines of bytes: those that the library cuts are the lines.
use Rattle.std.proofs.Common.{◌≡◌, ◌≢◌, ◌⊎◌, inl, inr, ℕ, zero, suc, ◌+◌, ◌-◌, ◌≤◌, ◌==◌, ◌&&◌, List, [], ◌∷◌, ◌++◌, length, take, drop, map, slice_index, true, refl, sym, ap, ◌∙◌, subst, arith, length-append}
use Rattle.std.proofs.Math.Seq.{take-append_seam}
use Rattle.std.specs.Prelude.{nat_lt}
use Rattle.std.proofs.lemmas.Bool.{cond-true, cond-false, eq-eqb, ne_eqb, cases_eq, le-leb}
use Rattle.std.proofs.lemmas.List.{same_from_push, take_all, drop_all, length-map}
use Rattle.bstr.specs.Text.{line_len, lines_from, lines_of, no_cr, without_terminator}
use Rattle.cep_log.proofs.Parted.{HasNone, parting, has_last}
use Rattle.cep_log.specs.Transcript.{IsBefore, AreLines}

-- how long the first line is
len_ended : (text rest : List ℕ) → HasNone 10 text → line_len (text ++ 10 ∷ rest) ≡ suc (length text)
unfolding line_len
len_ended [] rest none = refl
len_ended (byte ∷ text) rest none = cond-false _ _ _ (ne_eqb byte 10 none.0) ∙ ap suc (len_ended text rest none.1)

len_last : (text : List ℕ) → HasNone 10 text → line_len text ≡ length text
unfolding line_len
len_last [] none = refl
len_last (byte ∷ text) none = cond-false _ _ _ (ne_eqb byte 10 none.0) ∙ ap suc (len_last text none.1)

take_line : (text rest : List ℕ) → take (suc (length text)) (text ++ 10 ∷ rest) ≡ text ++ 10 ∷ []
take_line [] rest = refl
take_line (byte ∷ text) rest = grind (arith, take_line text rest)

drop_line : (text rest : List ℕ) → drop (suc (length text)) (text ++ 10 ∷ rest) ≡ rest
drop_line [] rest = refl
drop_line (byte ∷ text) rest = drop_line text rest

-- the end of bytes
last_pushed : (front : List ℕ) (last : ℕ) → slice_index (front ++ last ∷ []) (length (front ++ last ∷ []) - 1) ≡ last
last_pushed [] last = grind arith
last_pushed (byte ∷ front) last = grind (arith, length-append, last_pushed front last)

front_pushed : (front : List ℕ) (last : ℕ) → take (length (front ++ last ∷ []) - 1) (front ++ last ∷ []) ≡ front
front_pushed front last = grind (arith, length-append front (last ∷ []), take-append_seam front (last ∷ []))

some_pushed : (front : List ℕ) (last : ℕ) → nat_lt 0 (length (front ++ last ∷ [])) ≡ true
some_pushed front last = le-leb 1 (length (front ++ last ∷ [])) (omega (arith, length-append front (last ∷ [])))

-- whether the last byte is this one
ends_with : (front : List ℕ) (last stop : ℕ) → (nat_lt 0 (length (front ++ last ∷ [])) && slice_index (front ++ last ∷ []) (length (front ++ last ∷ []) - 1) == stop) ≡ (last == stop)
ends_with front last stop = rw (some_pushed front last, last_pushed front last) refl

-- what the library makes of what stands before an LF
no_cr_is : (text : List ℕ) → IsBefore (no_cr text) text
no_cr_is text = grind (arith, has_last text, front_pushed, cond-true, ends_with, eq-eqb, cond-false, ne_eqb, same_from_push, cases_eq)

ended_is : (text : List ℕ) → without_terminator (text ++ 10 ∷ []) ≡ no_cr text
ended_is text = cond-true _ _ _ (ends_with text 10 10) ∙ ap no_cr (front_pushed text 10)

none_at_last : (front : List ℕ) (last : ℕ) → HasNone 10 (front ++ last ∷ []) → last ≢ 10
none_at_last [] last none = none.0
none_at_last (byte ∷ front) last none = none_at_last front last none.1

last_is_whole : (byte : ℕ) (bytes : List ℕ) → HasNone 10 (byte ∷ bytes) → without_terminator (byte ∷ bytes) ≡ byte ∷ bytes
last_is_whole byte bytes none = elim (has_last (byte ∷ bytes)) [
  | inl e ↦ absurd cc
  | inr some ↦ subst (λ text. without_terminator text ≡ text) (sym some.2) (cond-false _ _ _ (ends_with some.0 some.1 10 ∙ ne_eqb some.1 10 (none_at_last some.0 some.1 (subst (HasNone 10) some.2 none))))
]

no_lines : (fuel : ℕ) → map without_terminator (lines_from fuel []) ≡ []
unfolding lines_from
no_lines zero = refl
no_lines (suc fuel) = refl

-- The lines that the library cuts are the lines.
lines_enough : (fuel : ℕ) (bytes : List ℕ) → length bytes ≤ fuel → AreLines bytes (map without_terminator (lines_from fuel bytes))
unfolding lines_from
lines_enough zero [] short = refl
lines_enough zero (byte ∷ bytes) short = absurd (omega arith)
lines_enough (suc fuel) [] short = refl
lines_enough (suc fuel) (byte ∷ bytes) short = cases (parting 10 (byte ∷ bytes)) (lines_enough fuel) where
  cases : ((text : List ℕ) × (rest : List ℕ) × (byte ∷ bytes ≡ text ++ 10 ∷ rest) × HasNone 10 text) ⊎ HasNone 10 (byte ∷ bytes)
      → ((rest : List ℕ) → length rest ≤ fuel → AreLines rest (map without_terminator (lines_from fuel rest)))
      → AreLines (byte ∷ bytes) (without_terminator (take (line_len (byte ∷ bytes)) (byte ∷ bytes)) ∷ map without_terminator (lines_from fuel (drop (line_len (byte ∷ bytes)) (byte ∷ bytes))))
  cases (inl found) behind =
      let text = found.0 in
      let rest = found.1 in
      let lengths : length (byte ∷ bytes) ≡ length text + suc (length rest) = ap length found.2 ∙ length-append text (10 ∷ rest) in
      let line : without_terminator (take (line_len (byte ∷ bytes)) (byte ∷ bytes)) ≡ no_cr text =
      ap (λ all. without_terminator (take (line_len all) all)) found.2 ∙ ap (λ n. without_terminator (take n (text ++ 10 ∷ rest))) (len_ended text rest found.3) ∙ ap without_terminator (take_line text rest) ∙ ended_is text in
      let left : drop (line_len (byte ∷ bytes)) (byte ∷ bytes) ≡ rest =
      ap (λ all. drop (line_len all) all) found.2 ∙ ap (λ n. drop n (text ++ 10 ∷ rest)) (len_ended text rest found.3) ∙ drop_line text rest in
      let later : AreLines rest (map without_terminator (lines_from fuel (drop (line_len (byte ∷ bytes)) (byte ∷ bytes)))) =
      subst (λ bytes'. AreLines rest (map without_terminator (lines_from fuel bytes'))) (sym left) (behind rest (omega arith)) in
      inl (text, rest, found.2, found.3, subst (λ l. IsBefore l text) (sym line) (no_cr_is text), later)
  cases (inr none) behind =
      let all = len_last (byte ∷ bytes) none in
      let line : without_terminator (take (line_len (byte ∷ bytes)) (byte ∷ bytes)) ≡ byte ∷ bytes =
      ap (λ n. without_terminator (take n (byte ∷ bytes))) all ∙ ap without_terminator (take_all (length (byte ∷ bytes)) (byte ∷ bytes) (omega arith)) ∙ last_is_whole byte bytes none in
      let left : drop (line_len (byte ∷ bytes)) (byte ∷ bytes) ≡ [] = ap (λ n. drop n (byte ∷ bytes)) all ∙ drop_all (length (byte ∷ bytes)) (byte ∷ bytes) (omega arith) in
      let later : map without_terminator (lines_from fuel (drop (line_len (byte ∷ bytes)) (byte ∷ bytes))) ≡ [] = ap (λ bytes'. map without_terminator (lines_from fuel bytes')) left ∙ no_lines fuel in
      inr (sym line, (λ e. let h : byte ∷ bytes ≡ [] = sym line ∙ e in absurd cc), subst (HasNone 10) (sym line) none, later)

pub lines_are : (bytes : List ℕ) → AreLines bytes (map without_terminator (lines_of bytes))
lines_are bytes = lines_enough (length bytes) bytes (omega arith)

-- There are no more lines than bytes.
few_from : (fuel : ℕ) (bytes : List ℕ) → length (lines_from fuel bytes) ≤ fuel
unfolding lines_from
few_from zero bytes = omega arith
few_from (suc fuel) [] = omega arith
few_from (suc fuel) (byte ∷ bytes) = omega (arith, few_from fuel (drop (line_len (byte ∷ bytes)) (byte ∷ bytes)))

pub few_lines : (bytes : List ℕ) → length (map without_terminator (lines_of bytes)) ≤ length bytes
few_lines bytes = omega (arith, few_from (length bytes) bytes, length-map (lines_of bytes) without_terminator)
