-- Tokens as the grammar sees them.
use Rattle.std.specs.Prelude.{ℕ, ◌-◌, if◌then◌else◌, List, map, take, drop, codes}
use Rattle.std.specs.Str.{bytes_eq}
use Rattle.cep_lex.specs.declared.token.Token.{Token}
use Rattle.cep_lex.specs.declared.token.TokenKind.{TokenKind}
use Rattle.cep_lex.specs.declared.token.TokenKind.TheVariants as token
use Rattle.cep_parse.specs.declared.symbol.Symbol.{Symbol}
use Rattle.cep_parse.specs.declared.symbol.Word.{Word}
use Rattle.cep_parse.specs.declared.symbol.Word.TheVariants as word

-- a directive, by its bytes
abbrev pub directive_word : List ℕ → Word
directive_word bytes =
    if bytes_eq bytes (codes "#interactive") then word.Interactive
    else (if bytes_eq bytes (codes "#trace") then word.Trace
    else word.Other)

-- the word of a token, by its kind and its bytes
abbrev pub word_of : TokenKind → List ℕ → Word
word_of token.Name bytes = word.Name
word_of token.Variable bytes = word.Variable
word_of token.Blank bytes = word.Blank
word_of token.Number bytes = word.Number
word_of token.Directive bytes = directive_word bytes
word_of token.Colon bytes = word.Colon
word_of token.Dot bytes = word.Dot
word_of token.Comma bytes = word.Comma
word_of token.Star bytes = word.Star
word_of token.Dollar bytes = word.Dollar
word_of token.Equals bytes = word.Equals
word_of token.Open bytes = word.Open
word_of token.Close bytes = word.Close
word_of token.OpenBrace bytes = word.OpenBrace
word_of token.CloseBrace bytes = word.CloseBrace
word_of token.Lolli bytes = word.Lolli
word_of token.Back bytes = word.Back
word_of token.KwType bytes = word.Type
word_of token.KwPred bytes = word.Pred
word_of token.KwBwd bytes = word.Bwd
word_of token.KwFact bytes = word.Fact
word_of token.KwStage bytes = word.Stage
word_of token.KwContext bytes = word.Context
word_of token.KwQui bytes = word.Qui

-- the bytes from a place of the text up to another
abbrev pub slice_of : List ℕ → ℕ → ℕ → List ℕ
slice_of text from to = take (to - from) (drop from text)

-- a token as the grammar sees it
abbrev pub symbol_of : List ℕ → Token → Symbol
symbol_of text token = record { word = word_of token.kind (slice_of text token.from token.to); at = record { from = token.from; to = token.to } }

-- the tokens of a text as the grammar sees them
abbrev pub symbols_of : List ℕ → List Token → List Symbol
symbols_of text tokens = map (symbol_of text) tokens
