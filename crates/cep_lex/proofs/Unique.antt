-- What stands after a gap is a function of the bytes, and a text has one list of tokens at most, or one first fault.
use Rattle.std.proofs.Common.{◌≡◌, ℕ, ◌==◌, Bool, true, false, cond, List, [], ◌∷◌, ◌++◌, refl, sym, ap, ◌∙◌, append_assoc, ◌+◌, length, Result, Ok, Err, arith}
use Rattle.std.proofs.lemmas.Bool.{or_cases, eqb-true, ne_eqb, false_from_ne_true}
use Rattle.std.proofs.lemmas.List.{append-nil, append_cancel_right}
use Rattle.cep_base.specs.Spelling.{IsUnbroken}
use Rattle.cep_lex.specs.declared.token.TokenKind.{TokenKind}
use Rattle.cep_lex.specs.Cuts.{is_separator, IsGap, IsLastGap, Splits, StartsWith, Cuts, IsLexed}
use Rattle.cep_lex.specs.Cuts.IsGap.{empty, separator, comment}
use Rattle.cep_lex.specs.Fronts.{class}
use Rattle.cep_lex.proofs.Lexed.{Follows, shaped, same_kind}
use Rattle.std.proofs.Math.Seq.{take-append_seam, drop-append_seam}
use Rattle.cep_lex.specs.declared.fault.LexFault.{LexFault}
use Rattle.cep_lex.specs.declared.fault.LexFault.TheVariants.{BadByte, NameLong}
use Rattle.cep_lex.specs.declared.token.Token.{Token}
use Rattle.cep_lex.specs.Words.{SpellsToken, IsLongest, BeginsNoToken, IsShort, IsTooLong}

-- What stands after the gap at the front of bytes is a function of the bytes.

-- what stands after the gap, from outside comments or from within one
abbrev pub behind_gap : Bool → List ℕ → List ℕ
behind_gap in_comment [] = []
behind_gap true (byte ∷ bytes) = cond (byte == 10) (behind_gap false bytes) (behind_gap true bytes)
behind_gap false (byte ∷ bytes) = cond (byte == 37) (behind_gap true bytes) (cond (is_separator byte) (behind_gap false bytes) (byte ∷ bytes))

-- a comment up to its LF
skip_comment : (body rest : List ℕ) → IsUnbroken body → behind_gap true (body ++ 10 ∷ rest) ≡ behind_gap false rest
skip_comment [] rest unbroken = refl
skip_comment (byte ∷ body) rest unbroken = rw (ne_eqb byte 10 unbroken.0) (skip_comment body rest unbroken.1)

-- a comment up to the end
skip_open : (body : List ℕ) → IsUnbroken body → behind_gap true body ≡ []
skip_open [] unbroken = refl
skip_open (byte ∷ body) unbroken = rw (ne_eqb byte 10 unbroken.0) (skip_open body unbroken.1)

-- a gap
skip_gap : (gap rest : List ℕ) → IsGap gap → behind_gap false (gap ++ rest) ≡ behind_gap false rest
skip_gap gap rest empty = refl
skip_gap gap rest (separator byte gap' separates is) = grind (arith, eqb-true, or_cases, skip_gap gap' rest is)
skip_gap gap rest (comment body gap' unbroken is) = grind (arith, behind_gap, append_assoc, skip_comment, skip_gap gap' rest is)

-- a gap that ends the text
pub skip_last : (bytes : List ℕ) → IsLastGap bytes → behind_gap false bytes ≡ []
skip_last bytes is = grind (arith, behind_gap false, append-nil bytes, skip_gap, skip_open)

-- a byte that is in no gap stands after it
pub skip_to : (bytes gap : List ℕ) (byte : ℕ) (rest : List ℕ) → bytes ≡ gap ++ byte ∷ rest → IsGap gap → (is_separator byte ≡ true → ⊥) → (byte ≡ 37 → ⊥) → behind_gap false bytes ≡ byte ∷ rest
skip_to bytes gap byte rest cut apart no_separator no_comment = grind (arith, behind_gap, skip_gap, ne_eqb, false_from_ne_true)

-- the first byte of a token is in no gap
first_no_separator : (byte : ℕ) (run : List ℕ) → Follows (class byte) run → is_separator byte ≡ true → ⊥
first_no_separator byte run follows separates = grind (arith, eqb-true, or_cases)

-- a token stands after its gap
pub skip_to_token : (bytes gap : List ℕ) (kind : TokenKind) (word rest : List ℕ) → Splits bytes gap kind word rest → behind_gap false bytes ≡ word ++ rest
skip_to_token bytes gap kind word rest is = grind (arith, shaped, skip_to, first_no_separator)

-- A text has one list of tokens at most, or one first fault.

-- a token at the front of bytes, as long as it can be
pub record IsAtFront (bytes : List ℕ) : Type 0 where
  pub kind : TokenKind
  pub word : List ℕ
  pub rest : List ℕ
  pub cut : bytes ≡ word ++ rest
  pub spelled : SpellsToken kind word
  pub longest : IsLongest word rest

-- two such tokens are the same
same_front : (bytes : List ℕ) (one other : IsAtFront bytes) → (one.kind ≡ other.kind) × (one.word ≡ other.word) × (one.rest ≡ other.rest)
same_front bytes one other =
    let e : one.word ++ one.rest ≡ other.word ++ other.rest = sym one.cut ∙ other.cut in
    let size : length one.word ≡ length other.word = omega (arith, one.longest other.kind other.word other.rest e other.spelled, other.longest one.kind one.word one.rest (sym e) one.spelled) in
    let word : one.word ≡ other.word = grind (arith, take-append_seam one.word one.rest, take-append_seam other.word other.rest) in
    let rest : one.rest ≡ other.rest = grind (arith, drop-append_seam one.word one.rest, drop-append_seam other.word other.rest) in
    (same_kind one.kind other.kind other.word (rw word at one.spelled) other.spelled, word, rest)

-- the token after a gap
abbrev front_of : (bytes gap : List ℕ) (kind : TokenKind) (word rest : List ℕ) → Splits bytes gap kind word rest → IsAtFront (behind_gap false bytes)
front_of bytes gap kind word rest is = record { kind = kind; word = word; rest = rest; cut = skip_to_token bytes gap kind word rest is; spelled = is.spelled; longest = is.longest }

-- two tokens at the front of the same bytes are the same
same_start : (at : ℕ) (bytes : List ℕ) (one other : Token) (behind behind' : List ℕ) → StartsWith at bytes one behind → StartsWith at bytes other behind' → (one ≡ other) × (behind ≡ behind')
same_start at bytes one other behind behind' is is' =
    let same = same_front _ (front_of bytes is.gap one.kind is.word behind is.split) (front_of bytes is'.gap other.kind is'.word behind' is'.split) in
    let gaps : is.gap ≡ is'.gap = append_cancel_right is.gap is'.gap (is'.word ++ behind') (grind (arith, is.split.cut, is'.split.cut, same)) in
    (grind (arith, gaps, same, is.from, is.to, is'.from, is'.to), same.2)

-- a long token is no short one
long_or_short : (kind : TokenKind) (word : List ℕ) → IsShort kind word → IsTooLong kind word → ⊥
long_or_short kind word short long = grind arith

-- bytes that begin with a token are some
front_some : (bytes : List ℕ) → IsAtFront bytes → bytes ≡ [] → ⊥
front_some bytes front none = grind (arith, shaped)

-- how the cutting ends, at the rest
abbrev Ends : ℕ → List Token → List ℕ → Result (List Token) LexFault → Type 0
Ends size tokens rest (Ok all) = (all ≡ tokens) × (behind_gap false rest ≡ [])
Ends size tokens rest (Err (BadByte at)) = ((behind_gap false rest ≡ []) → ⊥) × BeginsNoToken (behind_gap false rest) × (at + length (behind_gap false rest) ≡ size)
Ends size tokens rest (Err (NameLong at)) = (front : IsAtFront (behind_gap false rest)) × IsTooLong front.kind front.word × (at + length (behind_gap false rest) ≡ size)

-- the cutting of a text, and how it ends
pub record IsCut (text : List ℕ) (answer : Result (List Token) LexFault) : Type 0 where
  pub tokens : List Token
  pub rest : List ℕ
  pub cut : Cuts 0 text tokens rest
  pub ends : Ends (length text) tokens rest answer

-- each text is cut so
is_cut : (text : List ℕ) (answer : Result (List Token) LexFault) → IsLexed text answer → IsCut text answer
is_cut text (Err (NameLong at)) is =
    record { tokens = is.tokens; rest = is.rest; cut = is.cut; ends = (front_of is.rest is.gap is.kind is.word is.behind is.split, is.long, ap (λ b. at + length b) (skip_to_token is.rest is.gap is.kind is.word is.behind is.split) ∙ is.place) }
is_cut text answer is = grind (arith, skip_last, skip_to)

-- no further token can be cut from such a rest
is_stuck : (size : ℕ) (tokens : List Token) (rest : List ℕ) (answer : Result (List Token) LexFault) → Ends size tokens rest answer → (at : ℕ) (token : Token) (behind : List ℕ) → StartsWith at rest token behind → ⊥
is_stuck size tokens rest answer ends at token behind starts = grind (arith, front_some, front_of rest starts.gap token.kind starts.word behind starts.split, same_front, long_or_short)

-- two cuttings that end so are the same
same_cuts : (at : ℕ) (bytes : List ℕ) (tokens others : List Token) (rest rest' : List ℕ)
    → ((at : ℕ) (token : Token) (behind : List ℕ) → StartsWith at rest token behind → ⊥) → ((at : ℕ) (token : Token) (behind : List ℕ) → StartsWith at rest' token behind → ⊥)
    → Cuts at bytes tokens rest → Cuts at bytes others rest' → (tokens ≡ others) × (rest ≡ rest')
same_cuts at bytes [] [] rest rest' stuck stuck' one other = (refl, sym one ∙ other)
same_cuts at bytes [] (token ∷ others) rest rest' stuck stuck' one other = absurd (stuck at token other.0 (rw one at other.1))
same_cuts at bytes (token ∷ tokens) [] rest rest' stuck stuck' one other = absurd (stuck' at token one.0 (rw other at one.1))
same_cuts at bytes (token ∷ tokens) (token' ∷ others) rest rest' stuck stuck' one other =
    let same = same_start at bytes token token' one.0 other.0 one.1 other.1 in
    let more = same_cuts token'.to other.0 tokens others rest rest' stuck stuck' (rw (same.0, same.1) at one.2) other.2 in
    ((λ i. same.0 i ∷ more.0 i), more.1)

-- one cutting ends in one way
same_end : (size : ℕ) (tokens : List Token) (rest : List ℕ) (one other : Result (List Token) LexFault) → Ends size tokens rest one → Ends size tokens rest other → one ≡ other
same_end size tokens rest one other is is' = grind (arith, front_some)

-- a text is lexed in one way
pub lexed_one : (text : List ℕ) (one other : Result (List Token) LexFault) → IsLexed text one → IsLexed text other → one ≡ other
lexed_one text one other is is' =
    let cut = is_cut text one is in
    let cut' = is_cut text other is' in
    let same = same_cuts 0 text cut.tokens cut'.tokens cut.rest cut'.rest (is_stuck _ _ _ one cut.ends) (is_stuck _ _ _ other cut'.ends) cut.cut cut'.cut in
    same_end (length text) cut'.tokens cut'.rest one other (rw (same.0, same.1) at cut.ends) cut'.ends
