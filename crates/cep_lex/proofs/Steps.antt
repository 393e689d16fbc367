-- What stands at a place of the text, and the tokens before it.
use Rattle.std.proofs.Common.{◌≡◌, ℕ, ◌+◌, ◌-◌, ◌<◌, ◌≤◌, List, [], ◌∷◌, ◌++◌, length, take, drop, sym, ap, subst, ◌∙◌, arith, length-append, length-drop, length-take-le, take-append-drop}
use Rattle.std.proofs.lemmas.List.{drop-drop, take_rest}
use Rattle.cep_lex.specs.declared.token.Token.{Token}
use Rattle.cep_lex.specs.declared.token.TokenKind.{TokenKind}
use Rattle.cep_lex.specs.Words.{BeginsNoToken}
use Rattle.cep_lex.specs.Cuts.{IsLastGap, Splits, StartsWith, Cuts, IsBadByte, IsNameLong}
use Rattle.cep_lex.specs.Fronts.{IsFront, IsGapLength, IsShortLength, IsLongLength}
use Rattle.cep_lex.proofs.GapLemmas.{IsGapBefore, gap_before, gap_all}

-- a token takes its bytes
pub length_start : (at : ℕ) (bytes : List ℕ) (token : Token) (behind : List ℕ) → StartsWith at bytes token behind → token.to + length behind ≡ at + length bytes
length_start at bytes token behind is = grind (arith, length-append)

-- a further token, cut from the rest
pub cut_more : (at : ℕ) (bytes : List ℕ) (tokens : List Token) (rest : List ℕ) (from : ℕ) (token : Token) (behind : List ℕ) → Cuts at bytes tokens rest → from + length rest ≡ at + length bytes → StartsWith from rest token behind → Cuts at bytes (tokens ++ token ∷ []) behind
cut_more at bytes [] rest from token behind cut place starts = grind arith
cut_more at bytes (first ∷ tokens) rest from token behind cut place starts = grind (arith, length_start, cut.0, cut.1, cut_more first.to cut.0 tokens rest from token behind cut.2 (place ∙ sym (length_start at bytes first cut.0 cut.1)) starts, first.to, cut.2)

-- the token at the front of what stands after a gap
pub split_front : (bytes : List ℕ) (gap : ℕ) (kind : TokenKind) (size : ℕ) (before : IsGapBefore bytes gap) → IsFront (drop gap bytes) kind size → Splits bytes before.gap kind (take size (drop gap bytes)) (drop size (drop gap bytes))
split_front bytes gap kind size before front = record { cut = rw (take-append-drop, before.next) before.cut; apart = before.apart; spelled = front.spelled; longest = front.longest }

-- nothing but a gap is left
pub end_here : (text : List ℕ) (at gap : ℕ) → at ≤ length text → at + gap ≡ length text → IsGapLength (take (length text - at) (drop at text)) gap → IsLastGap (drop at text)
end_here text at gap within is apart = gap_all (drop at text) gap (rw take_rest at apart) (omega (arith, length-drop at text))

-- a gap that does not end the text stops before its end
pub gap_stops : (text : List ℕ) (at gap : ℕ) → at ≤ length text → gap ≤ length (take (length text - at) (drop at text)) → (at + gap ≡ length text → ⊥) → at + gap < length text
gap_stops text at gap within most differs = grind (arith, take_rest, length-drop)

module _ (text : List ℕ) (at gap : ℕ) (within : at + gap < length text) (apart_there : IsGapLength (take (length text - at) (drop at text)) gap) where
  apart : IsGapLength (drop at text) gap
  apart = rw take_rest at apart_there

  -- a gap before some byte
  gap_here : IsGapBefore (drop at text) gap
  gap_here = gap_before (drop at text) gap apart (omega (arith, length-drop at text))

  -- how many bytes are left
  left_here : at + gap + length (drop gap (drop at text)) ≡ length text
  left_here = omega (arith, length-drop at text, length-drop gap (drop at text))

  -- a byte that begins no token is the fault of the text
  pub bad_byte_here : BeginsNoToken (take (length text - (at + gap)) (drop (at + gap) text)) → (tokens : List Token) → Cuts 0 text tokens (drop at text) → IsBadByte text (at + gap)
  bad_byte_here no_token tokens cut = grind (arith, gap_here, apart, take_rest text (at + gap), drop-drop gap at text, left_here)

  -- so is a name that is too long
  pub long_name_here : (kind : TokenKind) (size : ℕ) → IsFront (take (length text - (at + gap)) (drop (at + gap) text)) kind size → IsLongLength kind size → (tokens : List Token) → Cuts 0 text tokens (drop at text) → IsNameLong text (at + gap)
  long_name_here kind size front_there long tokens cut =
      let front : IsFront (drop gap (drop at text)) kind size = rw (take_rest, ← drop-drop gap at text) at front_there in
      let bytes = drop gap (drop at text) in
      record {
        tokens = tokens;
        rest = drop at text;
        gap = gap_here.gap;
        kind = kind;
        word = take size bytes;
        behind = drop size bytes;
        cut = cut;
        split = split_front (drop at text) gap kind size gap_here front;
        long = (long.0, omega (arith, length-take-le size bytes front.within, long.1));
        place = ap (λ b. at + gap + length b) (take-append-drop size bytes) ∙ left_here;
      }

  -- and another token is the next one
  pub token_here : (kind : TokenKind) (size : ℕ) → IsFront (take (length text - (at + gap)) (drop (at + gap) text)) kind size → IsShortLength kind size → StartsWith at (drop at text) (record { kind = kind; from = at + gap; to = at + gap + size }) (drop (at + gap + size) text)
  token_here kind size front_there short =
      let front : IsFront (drop gap (drop at text)) kind size = rw (take_rest, ← drop-drop gap at text) at front_there in
      let bytes = drop gap (drop at text) in
      let s = length-take-le size bytes front.within in
      record {
        gap = gap_here.gap;
        word = take size bytes;
        split = subst (λ b. Splits (drop at text) gap_here.gap kind (take size bytes) b) (ap (drop size) (drop-drop gap at text) ∙ drop-drop size (at + gap) text) (split_front (drop at text) gap kind size gap_here front);
        short = grind (arith, s);
        from = ap (λ n. at + n) (sym gap_here.is);
        to = ap (λ n. at + gap + n) (sym s);
      }

  -- its end is in the text
  pub token_ends : (kind : TokenKind) (size : ℕ) → IsFront (take (length text - (at + gap)) (drop (at + gap) text)) kind size → (at < at + gap + size) × (at + gap + size ≤ length text)
  token_ends kind size front_there = let front : IsFront (drop gap (drop at text)) kind size = rw (take_rest, ← drop-drop gap at text) at front_there in let s = left_here in (omega (arith, front.some), omega (arith, front.within))

-- what stands after a token that ends in the text
pub cut_next : (text : List ℕ) (at : ℕ) (tokens : List Token) (token : Token) → at ≤ length text → Cuts 0 text tokens (drop at text) → StartsWith at (drop at text) token (drop token.to text) → Cuts 0 text (tokens ++ token ∷ []) (drop token.to text)
cut_next text at tokens token within cut starts = cut_more 0 text tokens (drop at text) at token (drop token.to text) cut (omega (arith, length-drop at text)) starts
