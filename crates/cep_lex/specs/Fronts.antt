-- Private.
-- What bytes begin with: a gap, or a token that the first byte tells. The public clauses speak of none of this.
use Rattle.std.specs.Prelude.{◌≡◌, ◌≢◌, ◌⊎◌, ℕ, ◌<◌, ◌≤◌, ◌==◌, Bool, if◌then◌else◌, IsTrue, List, [], ◌∷◌, ◌++◌, length, take, drop, Err}
use Rattle.std.specs.Char.{is_ascii_alphabetic, is_ascii_digit}
use Rattle.cep_base.specs.Spelling.{is_name_byte}
use Rattle.cep_lex.specs.Words.{Runs, SpellsToken, IsLongest}
use Rattle.cep_lex.specs.Cuts.{is_separator, IsGap, IsLastGap, StartsWith, Cuts, IsLexed}
use Rattle.cep_lex.specs.declared.token.Token.{Token}
use Rattle.cep_lex.specs.declared.token.TokenKind.{TokenKind}
use Rattle.cep_lex.specs.declared.token.TokenKind.TheVariants.{Number, Lolli, Back, Blank, Colon, Dot, Comma, Star, Dollar, Equals, Open, Close, OpenBrace, CloseBrace}
use Rattle.cep_base.specs.declared.limits.TheConstants.{MOST_NAME}
use Rattle.cep_lex.specs.declared.words.Class.{Class}
use Rattle.cep_lex.specs.declared.words.Class.TheVariants.{Letter, Digit, Hash, Pair, Mark, Other}
use Rattle.cep_lex.specs.declared.words.RunOf.{RunOf}
use Rattle.cep_lex.specs.declared.words.RunOf.TheVariants.{NameBytes, Digits, Letters}
use Rattle.cep_lex.specs.declared.lexing.Step.{Step}
use Rattle.cep_lex.specs.declared.lexing.Step.TheVariants as step

-- the class of a byte that is neither a letter nor a digit
abbrev pub mark_class : ℕ → Class
mark_class byte =
    if byte == 35 then Hash
    else (if byte == 45 then Pair Lolli 111
    else (if byte == 60 then Pair Back 45
    else (if byte == 95 then Mark Blank
    else (if byte == 58 then Mark Colon
    else (if byte == 46 then Mark Dot
    else (if byte == 44 then Mark Comma
    else (if byte == 42 then Mark Star
    else (if byte == 36 then Mark Dollar
    else (if byte == 61 then Mark Equals
    else (if byte == 40 then Mark Open
    else (if byte == 41 then Mark Close
    else (if byte == 123 then Mark OpenBrace
    else (if byte == 125 then Mark CloseBrace
    else Other)))))))))))))

-- what a first byte tells of a token
abbrev pub class : ℕ → Class
class byte = if is_ascii_alphabetic byte then Letter else (if is_ascii_digit byte then Digit else mark_class byte)

-- what a class says of the first byte
abbrev pub BeginsWith : Class → ℕ → Type 0
BeginsWith Letter byte = IsTrue (is_ascii_alphabetic byte)
BeginsWith Digit byte = IsTrue (is_ascii_digit byte)
BeginsWith Hash byte = byte ≡ 35
BeginsWith (Pair kind second) byte = SpellsToken kind (byte ∷ second ∷ [])
BeginsWith (Mark kind) byte = SpellsToken kind (byte ∷ [])
BeginsWith Other byte = Unit {0}

-- this byte stands after the first
abbrev pub HasSecond : List ℕ → ℕ → Type 0
HasSecond bytes second = (first : ℕ) × (rest : List ℕ) × (bytes ≡ first ∷ second ∷ rest)

-- whether a run goes on with the byte
abbrev pub passes : RunOf → ℕ → Bool
passes NameBytes byte = is_name_byte byte
passes Digits byte = is_ascii_digit byte
passes Letters byte = is_ascii_alphabetic byte

-- a letter, and then bytes of names
abbrev pub IsLetters : List ℕ → Type 0
IsLetters word = Runs is_ascii_alphabetic is_name_byte word

-- The first bytes, so many, spell a token of this kind, as long as it can be.
pub record IsFront (bytes : List ℕ) (kind : TokenKind) (size : ℕ) : Type 0 where
  pub some : 0 < size
  pub within : size ≤ length bytes
  pub spelled : SpellsToken kind (take size bytes)
  pub longest : IsLongest (take size bytes) (drop size bytes)

-- only a number may be longer than the longest name
abbrev pub IsShortLength : TokenKind → ℕ → Type 0
IsShortLength kind size = (kind ≡ Number) ⊎ (size ≤ MOST_NAME)

-- longer than the longest name, and no number
abbrev pub IsLongLength : TokenKind → ℕ → Type 0
IsLongLength kind size = (kind ≢ Number) × (MOST_NAME < size)

-- So many bytes at the front are a gap: all of them, or those before a byte that is in none.
pub data IsGapLength (bytes : List ℕ) (size : ℕ) : Type 0 where
  all : size ≡ length bytes → IsLastGap bytes → IsGapLength bytes size
  before : (gap : List ℕ) (byte : ℕ) (behind : List ℕ) → bytes ≡ gap ++ byte ∷ behind → size ≡ length gap → IsGap gap → (IsTrue (is_separator byte) → ⊥) → byte ≢ 37 → IsGapLength bytes size

-- What stands at a place of the text: nothing but a gap, a token, or the fault of the text, if tokens stand before it.
abbrev pub Stands : List ℕ → ℕ → Step → Type 0
Stands text at step.End = IsLastGap (drop at text)
Stands text at (step.Next token) = StartsWith at (drop at text) token (drop token.to text) × (at < token.to) × (token.to ≤ length text)
Stands text at (step.Fault fault) = (tokens : List Token) → Cuts 0 text tokens (drop at text) → IsLexed text (Err fault)
