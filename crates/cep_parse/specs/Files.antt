-- What the tokens of a text say: its raw file, or the first fault.
use Rattle.std.specs.Prelude.{◌≡◌, ℕ, ◌+◌, ◌-◌, ◌≤◌, List, [], ◌∷◌, ◌++◌, length, Result, Ok, Err}
use Rattle.cep_lex.specs.declared.token.Token.{Token}
use Rattle.cep_parse.specs.declared.fault.ParseFault.{ParseFault}
use Rattle.cep_parse.specs.declared.fault.ParseFault.TheVariants.{Unexpected, Nested}
use Rattle.cep_parse.specs.declared.raw.RawItem.{RawItem}
use Rattle.cep_parse.specs.declared.symbol.Symbol.{Symbol}
use Rattle.cep_parse.specs.declared.symbol.Word.{Word}
use Rattle.cep_parse.specs.declared.symbol.Word.TheVariants as word
use Rattle.cep_base.specs.declared.limits.TheConstants.{MOST_OPEN}
use Rattle.cep_parse.specs.Symbols.{symbols_of}
use Rattle.cep_parse.specs.Grammar.{File}

-- A file begins with these symbols: with some further ones they are a file.
pub record Begins (symbols : List Symbol) : Type 0 where
  pub more : List Symbol
  pub items : List RawItem
  pub file : File (symbols ++ more) items

-- how many parentheses are open after a word, where so many were open before it
abbrev pub open_behind : Word → ℕ → ℕ
open_behind word.Open open_ = open_ + 1
open_behind word.Close open_ = open_ - 1
open_behind word.Name open_ = open_
open_behind word.Variable open_ = open_
open_behind word.Blank open_ = open_
open_behind word.Number open_ = open_
open_behind word.Interactive open_ = open_
open_behind word.Trace open_ = open_
open_behind word.Colon open_ = open_
open_behind word.Dot open_ = open_
open_behind word.Comma open_ = open_
open_behind word.Star open_ = open_
open_behind word.Dollar open_ = open_
open_behind word.Equals open_ = open_
open_behind word.Lolli open_ = open_
open_behind word.Back open_ = open_
open_behind word.OpenBrace open_ = open_
open_behind word.CloseBrace open_ = open_
open_behind word.Type open_ = open_
open_behind word.Pred open_ = open_
open_behind word.Bwd open_ = open_
open_behind word.Fact open_ = open_
open_behind word.Stage open_ = open_
open_behind word.Context open_ = open_
open_behind word.Qui open_ = open_
open_behind word.Other open_ = open_

-- how many parentheses are open after the symbols, where so many were open before them
abbrev pub open_from : ℕ → List Symbol → ℕ
open_from open_ [] = open_
open_from open_ (symbol ∷ symbols) = open_from (open_behind symbol.word open_) symbols

-- after no front of the symbols are more parentheses open than may be
abbrev pub IsShallow : List Symbol → Type 0
IsShallow symbols = (front rest : List Symbol) → symbols ≡ front ++ rest → open_from 0 front ≤ MOST_OPEN

-- This is the place of the first symbol such that no file begins with those up to it and with it, or the end of the text where the symbols are a proper front of files. No parenthesis before it is one too many.
pub data IsUnexpected (symbols : List Symbol) (size : ℕ) (place : ℕ) : Type 0 where
  symbol : (front rest : List Symbol) (next : Symbol) → symbols ≡ front ++ next ∷ rest → IsShallow front → Begins front → (Begins (front ++ next ∷ []) → ⊥) → place ≡ next.at.from → IsUnexpected symbols size place
  ended : IsShallow symbols → Begins symbols → ((items : List RawItem) → File symbols items → ⊥) → place ≡ size → IsUnexpected symbols size place

-- This is the place of the first parenthesis that is one too many, and files begin with the symbols up to it and with it.
pub record IsNested (symbols : List Symbol) (place : ℕ) : Type 0 where
  pub front : List Symbol
  pub rest : List Symbol
  pub next : Symbol
  pub cut : symbols ≡ front ++ next ∷ rest
  pub shallow : IsShallow front
  pub begins : Begins (front ++ next ∷ [])
  pub deeper : open_from 0 (front ++ next ∷ []) ≡ MOST_OPEN + 1
  pub place_is : place ≡ next.at.from

-- What the tokens of a text say: the raw file that they are, or the first fault among them.
abbrev pub IsParsed : List ℕ → List Token → Result (List RawItem) ParseFault → Type 0
IsParsed text tokens (Ok file) = File (symbols_of text tokens) file × IsShallow (symbols_of text tokens)
IsParsed text tokens (Err (Unexpected place)) = IsUnexpected (symbols_of text tokens) (length text) place
IsParsed text tokens (Err (Nested place)) = IsNested (symbols_of text tokens) place
