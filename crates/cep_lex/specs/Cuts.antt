-- What the tokens of a text are, and which text has none.
use Rattle.std.specs.Prelude.{◌≡◌, ◌⊎◌, ℕ, ◌+◌, ◌≢◌, ◌==◌, ◌||◌, Bool, IsTrue, List, [], ◌∷◌, ◌++◌, length, Result, Ok, Err}
use Rattle.cep_base.specs.Spelling.{IsUnbroken}
use Rattle.cep_lex.specs.Words.{SpellsToken, IsLongest, BeginsNoToken, IsShort, IsTooLong}
use Rattle.cep_lex.specs.declared.fault.LexFault.{LexFault}
use Rattle.cep_lex.specs.declared.fault.LexFault.TheVariants.{BadByte, NameLong}
use Rattle.cep_lex.specs.declared.token.Token.{Token}
use Rattle.cep_lex.specs.declared.token.TokenKind.{TokenKind}

-- space, tab, CR and LF
abbrev pub is_separator : ℕ → Bool
is_separator byte = byte == 32 || byte == 9 || byte == 13 || byte == 10

-- What stands between tokens: separators, and comments from `%` up to an LF.
pub data IsGap : List ℕ → Type 0 where
  empty : IsGap []
  separator : (byte : ℕ) (gap : List ℕ) → IsTrue (is_separator byte) → IsGap gap → IsGap (byte ∷ gap)
  comment : (body gap : List ℕ) → IsUnbroken body → IsGap gap → IsGap (37 ∷ (body ++ 10 ∷ gap))

-- What stands after the last token: a gap, whose last comment may end with the text.
abbrev pub IsLastGap : List ℕ → Type 0
IsLastGap bytes = IsGap bytes ⊎ ((gap : List ℕ) × (body : List ℕ) × (bytes ≡ gap ++ 37 ∷ body) × IsGap gap × IsUnbroken body)

-- The bytes are a gap, a token of this kind, as long as it can be, and what stands after it.
pub record Splits (bytes gap : List ℕ) (kind : TokenKind) (word behind : List ℕ) : Type 0 where
  pub cut : bytes ≡ gap ++ (word ++ behind)
  pub apart : IsGap gap
  pub spelled : SpellsToken kind word
  pub longest : IsLongest word behind

-- The bytes from this place on are a gap, this token, and what stands after it.
pub record StartsWith (at : ℕ) (bytes : List ℕ) (token : Token) (behind : List ℕ) : Type 0 where
  pub gap : List ℕ
  pub word : List ℕ
  pub split : Splits bytes gap token.kind word behind
  pub short : IsShort token.kind word
  pub from : token.from ≡ at + length gap
  pub to : token.to ≡ token.from + length word

-- The bytes from this place on are cut into these tokens, and the rest is not cut.
abbrev pub Cuts : ℕ → List ℕ → List Token → List ℕ → Type 0
Cuts at bytes [] rest = bytes ≡ rest
Cuts at bytes (token ∷ tokens) rest = (behind : List ℕ) × StartsWith at bytes token behind × Cuts token.to behind tokens rest

-- These are the tokens of the text.
pub record AreTokens (text : List ℕ) (tokens : List Token) : Type 0 where
  pub rest : List ℕ
  pub cut : Cuts 0 text tokens rest
  pub last : IsLastGap rest

-- After some tokens and a gap, at this place, stands a byte that begins no token, no comment, and separates none.
pub record IsBadByte (text : List ℕ) (at : ℕ) : Type 0 where
  pub tokens : List Token
  pub rest : List ℕ
  pub gap : List ℕ
  pub byte : ℕ
  pub behind : List ℕ
  pub cut : Cuts 0 text tokens rest
  pub found : rest ≡ gap ++ byte ∷ behind
  pub apart : IsGap gap
  pub no_separator : IsTrue (is_separator byte) → ⊥
  pub no_comment : byte ≢ 37
  pub no_token : BeginsNoToken (byte ∷ behind)
  pub place : at + length (byte ∷ behind) ≡ length text

-- After some tokens and a gap, at this place, begins a name that is too long.
pub record IsNameLong (text : List ℕ) (at : ℕ) : Type 0 where
  pub tokens : List Token
  pub rest : List ℕ
  pub gap : List ℕ
  pub kind : TokenKind
  pub word : List ℕ
  pub behind : List ℕ
  pub cut : Cuts 0 text tokens rest
  pub split : Splits rest gap kind word behind
  pub long : IsTooLong kind word
  pub place : at + length (word ++ behind) ≡ length text

-- What the text is: its tokens, or the first fault in it.
abbrev pub IsLexed : List ℕ → Result (List Token) LexFault → Type 0
IsLexed text (Ok tokens) = AreTokens text tokens
IsLexed text (Err (BadByte at)) = IsBadByte text at
IsLexed text (Err (NameLong at)) = IsNameLong text at
