-- What the items of a raw file are made of.
use Rattle.std.specs.Prelude.{◌≡◌, ℕ, zero, suc, ◌+◌, ◌<◌, List, [], ◌∷◌, length, Option, Some, None, Contains}
use Rattle.std.specs.List.{AllByRecursion}
use Rattle.cep_lex.specs.declared.token.Token.{Token}
use Rattle.cep_lex.specs.declared.token.TokenKind.{TokenKind}
use Rattle.cep_lex.specs.declared.token.TokenKind.TheVariants as token
use Rattle.cep_parse.specs.declared.raw.Span.{Span}
use Rattle.cep_parse.specs.declared.raw.RawKind.{RawKind}
use Rattle.cep_parse.specs.declared.raw.RawKind.TheVariants as kind
use Rattle.cep_parse.specs.declared.raw.RawNode.{RawNode}
use Rattle.cep_parse.specs.declared.raw.RawAtom.{RawAtom}
use Rattle.cep_parse.specs.declared.raw.RawElem.{RawElem}
use Rattle.cep_parse.specs.declared.raw.RawElem.TheVariants as elem
use Rattle.cep_parse.specs.declared.raw.RawRule.{RawRule}
use Rattle.cep_parse.specs.declared.raw.RawStart.{RawStart}
use Rattle.cep_parse.specs.declared.raw.RawStart.TheVariants as start
use Rattle.cep_parse.specs.declared.raw.RawItem.{RawItem}
use Rattle.cep_parse.specs.declared.raw.RawItem.TheVariants as item

-- The span is that of one of the tokens, which is of this kind.
pub record IsTokenAt (tokens : List Token) (kind : TokenKind) (span : Span) : Type 0 where
  pub token : Token
  pub there : Contains tokens token
  pub kind_is : token.kind ≡ kind
  pub from_is : span.from ≡ token.from
  pub to_is : span.to ≡ token.to

-- At this place one of the tokens begins, which is of this kind.
pub record IsTokenFrom (tokens : List Token) (kind : TokenKind) (at : ℕ) : Type 0 where
  pub token : Token
  pub there : Contains tokens token
  pub kind_is : token.kind ≡ kind
  pub from_is : at ≡ token.from

-- The span is that of a name.
abbrev pub IsNameAt : List Token → Span → Type 0
IsNameAt tokens span = IsTokenAt tokens token.Name span

-- Variables and blanks have no arguments.
abbrev pub IsCount : RawKind → ℕ → Type 0
IsCount kind.App args = Unit {0}
IsCount kind.Var args = args ≡ 0
IsCount kind.Blank args = args ≡ 0

-- The nodes are so many terms in prefix order: each takes the place of one that is still to come, and then come its arguments.
abbrev pub Fill : ℕ → List RawNode → Type 0
Fill zero [] = Unit {0}
Fill zero (first ∷ nodes) = ⊥
Fill (suc terms) [] = ⊥
Fill (suc terms) (first ∷ nodes) = IsCount first.kind first.args × Fill (first.args + terms) nodes

-- A constructor stands at a name, a variable at a variable, a blank at a `_`.
abbrev pub IsWrittenAt : List Token → RawKind → Span → Type 0
IsWrittenAt tokens kind.App span = IsNameAt tokens span
IsWrittenAt tokens kind.Var span = IsTokenAt tokens token.Variable span
IsWrittenAt tokens kind.Blank span = IsTokenAt tokens token.Blank span

-- An atom has a name, and its nodes are its arguments, each a token.
pub record IsAtomOf (tokens : List Token) (atom : RawAtom) : Type 0 where
  pub name : IsNameAt tokens atom.name
  pub filled : Fill atom.args atom.nodes
  pub few : length atom.nodes < length tokens
  pub nodes : AllByRecursion (λ node. IsWrittenAt tokens node.kind node.at) atom.nodes

abbrev pub IsElemOf : List Token → RawElem → Type 0
IsElemOf tokens (elem.Atom kept atom) = IsAtomOf tokens atom
IsElemOf tokens (elem.Qui span) = IsTokenAt tokens token.KwQui span
IsElemOf tokens (elem.Stage name) = IsNameAt tokens name

-- a label is a name
abbrev pub IsLabelOf : List Token → Option Span → Type 0
IsLabelOf tokens (Some label) = IsNameAt tokens label
IsLabelOf tokens None = Unit {0}

-- A rule begins at its label, or at one of the tokens where it has none.
abbrev pub IsBegunAt : List Token → Option Span → ℕ → Type 0
IsBegunAt tokens (Some label) at = at ≡ label.from
IsBegunAt tokens None at = (kind : TokenKind) × IsTokenFrom tokens kind at

pub record IsRuleOf (tokens : List Token) (rule : RawRule) : Type 0 where
  pub begun : IsBegunAt tokens rule.label rule.at
  pub label : IsLabelOf tokens rule.label
  pub left : AllByRecursion (IsElemOf tokens) rule.left
  pub right : AllByRecursion (IsElemOf tokens) rule.right

abbrev pub IsStartOf : List Token → RawStart → Type 0
IsStartOf tokens (start.Named name) = IsNameAt tokens name
IsStartOf tokens (start.Listed atoms) = AllByRecursion (IsAtomOf tokens) atoms

-- the turns of a trace are a number
abbrev pub IsLimitOf : List Token → Option Span → Type 0
IsLimitOf tokens (Some number) = IsTokenAt tokens token.Number number
IsLimitOf tokens None = Unit {0}

-- An item's names are names of the text, and its atoms and rules are as told. A trace begins at a directive.
abbrev pub IsItemOf : List Token → RawItem → Type 0
IsItemOf tokens (item.Sort name) = IsNameAt tokens name
IsItemOf tokens (item.Pred name args of_kind) = IsNameAt tokens name × AllByRecursion (IsNameAt tokens) args
IsItemOf tokens (item.Colon left args right) = IsNameAt tokens left × AllByRecursion (IsNameAt tokens) args × IsNameAt tokens right
IsItemOf tokens (item.Clause label head goals) = IsLabelOf tokens label × AllByRecursion (IsAtomOf tokens) (head ∷ goals)
IsItemOf tokens (item.Outer rule) = IsRuleOf tokens rule
IsItemOf tokens (item.Stage name rules) = IsNameAt tokens name × AllByRecursion (IsRuleOf tokens) rules
IsItemOf tokens (item.Context name atoms) = IsNameAt tokens name × AllByRecursion (IsAtomOf tokens) atoms
IsItemOf tokens (item.Interactive name) = IsNameAt tokens name
IsItemOf tokens (item.Trace at limit stage start) = IsTokenFrom tokens token.Directive at × IsLimitOf tokens limit × IsNameAt tokens stage × IsStartOf tokens start
