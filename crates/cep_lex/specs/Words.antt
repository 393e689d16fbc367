-- How each kind of token is spelled.
use Rattle.std.specs.Prelude.{◌≡◌, ◌≢◌, ◌⊎◌, ℕ, ◌<◌, ◌≤◌, ◌==◌, Bool, IsTrue, List, [], ◌∷◌, ◌++◌, length, codes}
use Rattle.std.specs.List.{AllByRecursion}
use Rattle.std.specs.Char.{is_ascii_alphabetic, is_ascii_digit, is_ascii_lowercase, is_ascii_uppercase}
use Rattle.cep_base.specs.Spelling.{is_name_byte, reserved_words}
use Rattle.cep_base.specs.declared.limits.TheConstants.{MOST_NAME}
use Rattle.cep_lex.specs.declared.token.TokenKind.{TokenKind}
use Rattle.cep_lex.specs.declared.token.TokenKind.TheVariants.{Name, Variable, Blank, Number, Directive, Colon, Dot, Comma, Star, Dollar, Equals, Open, Close, OpenBrace, CloseBrace, Lolli, Back, KwType, KwPred, KwBwd, KwFact, KwStage, KwContext, KwQui}

-- the test passes each byte
abbrev pub Pass : (ℕ → Bool) → List ℕ → Type 0
Pass test bytes = AllByRecursion (λ byte. IsTrue (test byte)) bytes

-- a byte that passes the first test, and then bytes that pass the second
abbrev pub Runs : (ℕ → Bool) → (ℕ → Bool) → List ℕ → Type 0
Runs first next [] = ⊥
Runs first next (byte ∷ run) = IsTrue (first byte) × Pass next run

-- The bytes spell a token of this kind.
abbrev pub SpellsToken : TokenKind → List ℕ → Type 0
SpellsToken Name word = Runs is_ascii_lowercase is_name_byte word × AllByRecursion (λ reserved. word ≢ reserved) reserved_words
SpellsToken Variable word = Runs is_ascii_uppercase is_name_byte word
SpellsToken Blank word = word ≡ codes "_"
SpellsToken Number word = Runs is_ascii_digit is_ascii_digit word
SpellsToken Directive word = Runs (λ byte. byte == 35) is_ascii_alphabetic word × (1 < length word)
SpellsToken Colon word = word ≡ codes ":"
SpellsToken Dot word = word ≡ codes "."
SpellsToken Comma word = word ≡ codes ","
SpellsToken Star word = word ≡ codes "*"
SpellsToken Dollar word = word ≡ codes "$"
SpellsToken Equals word = word ≡ codes "="
SpellsToken Open word = word ≡ codes "("
SpellsToken Close word = word ≡ codes ")"
SpellsToken OpenBrace word = word ≡ codes "{"
SpellsToken CloseBrace word = word ≡ codes "}"
SpellsToken Lolli word = word ≡ codes "-o"
SpellsToken Back word = word ≡ codes "<-"
SpellsToken KwType word = word ≡ codes "type"
SpellsToken KwPred word = word ≡ codes "pred"
SpellsToken KwBwd word = word ≡ codes "bwd"
SpellsToken KwFact word = word ≡ codes "fact"
SpellsToken KwStage word = word ≡ codes "stage"
SpellsToken KwContext word = word ≡ codes "context"
SpellsToken KwQui word = word ≡ codes "qui"

-- The word is as long as it can be: no longer front of it and what stands after it spells a token.
abbrev pub IsLongest : List ℕ → List ℕ → Type 0
IsLongest word behind = (kind : TokenKind) (other rest : List ℕ) → word ++ behind ≡ other ++ rest → SpellsToken kind other → length other ≤ length word

-- no front of the bytes spells a token
abbrev pub BeginsNoToken : List ℕ → Type 0
BeginsNoToken bytes = (kind : TokenKind) (word rest : List ℕ) → bytes ≡ word ++ rest → SpellsToken kind word → ⊥

-- Only a number may be longer than the longest name.
abbrev pub IsShort : TokenKind → List ℕ → Type 0
IsShort kind word = (kind ≡ Number) ⊎ (length word ≤ MOST_NAME)

-- a name, a variable or a directive that is longer than the longest name
abbrev pub IsTooLong : TokenKind → List ℕ → Type 0
IsTooLong kind word = (kind ≢ Number) × (MOST_NAME < length word)
