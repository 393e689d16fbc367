-- The grammar: which symbols are which form, and the raw item that it gives.
use Rattle.std.specs.Prelude.{ℕ, ◌+◌, ◌<◌, Bool, true, false, List, [], ◌∷◌, ◌++◌, Option, None, Some}
use Rattle.cep_base.specs.declared.kind.PredKind.TheVariants.{Linear, Back, Fact}
use Rattle.cep_parse.specs.declared.raw.Span.{Span}
use Rattle.cep_parse.specs.declared.raw.RawKind.{RawKind}
use Rattle.cep_parse.specs.declared.raw.RawKind.TheVariants.{Blank, Var, App}
use Rattle.cep_parse.specs.declared.raw.RawNode.{RawNode}
use Rattle.cep_parse.specs.declared.raw.RawAtom.{RawAtom}
use Rattle.cep_parse.specs.declared.raw.RawElem.{RawElem}
use Rattle.cep_parse.specs.declared.raw.RawElem.TheVariants as elem
use Rattle.cep_parse.specs.declared.raw.RawRule.{RawRule}
use Rattle.cep_parse.specs.declared.raw.RawStart.TheVariants.{Named, Listed}
use Rattle.cep_parse.specs.declared.raw.RawItem.{RawItem}
use Rattle.cep_parse.specs.declared.raw.RawItem.TheVariants as item
use Rattle.cep_parse.specs.declared.symbol.Symbol.{Symbol}
use Rattle.cep_parse.specs.declared.symbol.Word.{Word}
use Rattle.cep_parse.specs.declared.symbol.Word.TheVariants as word

-- a word at a place
abbrev pub at : Word → Span → Symbol
at word span = record { word = word; at = span }

-- a term's own node
abbrev pub node : RawKind → Span → ℕ → RawNode
node kind span args = record { at = span; kind = kind; args = args }

-- the place of the first symbol
abbrev pub place_of : List Symbol → ℕ
place_of [] = 0
place_of (symbol ∷ symbols) = symbol.at.from

mutual
  -- arg = Name | Variable | "_" | "(" term ")"
  pub data Arg : List Symbol → List RawNode → Type 0 where
    arg_name : (a : Span) → Arg (at word.Name a ∷ []) (node App a 0 ∷ [])
    arg_variable : (a : Span) → Arg (at word.Variable a ∷ []) (node Var a 0 ∷ [])
    arg_blank : (a : Span) → Arg (at word.Blank a ∷ []) (node Blank a 0 ∷ [])
    arg_term : (open_ close : Span) (symbols : List Symbol) (nodes : List RawNode) → Term symbols nodes → Arg (at word.Open open_ ∷ (symbols ++ at word.Close close ∷ [])) nodes

  -- term = Name { arg } | Variable | "_" | "(" term ")"
  pub data Term : List Symbol → List RawNode → Type 0 where
    applied : (a : Span) (symbols : List Symbol) (args : ℕ) (nodes : List RawNode) → Args symbols args nodes → Term (at word.Name a ∷ symbols) (node App a args ∷ nodes)
    variable : (a : Span) → Term (at word.Variable a ∷ []) (node Var a 0 ∷ [])
    blank : (a : Span) → Term (at word.Blank a ∷ []) (node Blank a 0 ∷ [])
    nested : (open_ close : Span) (symbols : List Symbol) (nodes : List RawNode) → Term symbols nodes → Term (at word.Open open_ ∷ (symbols ++ at word.Close close ∷ [])) nodes

  -- { arg }, so many
  pub data Args : List Symbol → ℕ → List RawNode → Type 0 where
    no_args : Args [] 0 []
    more_args : (first rest : List Symbol) (args : ℕ) (nodes others : List RawNode) → Arg first nodes → Args rest args others → Args (first ++ rest) (args + 1) (nodes ++ others)

-- atom = Name { arg }
pub data Atom : List Symbol → RawAtom → Type 0 where
  atom : (a : Span) (symbols : List Symbol) (args : ℕ) (nodes : List RawNode) → Args symbols args nodes → Atom (at word.Name a ∷ symbols) (record { name = a; args = args; nodes = nodes })

-- Where a rule's side stands: in a stage's rule or an outer one, on the left or on the right.
pub record Side : Type 0 where
  pub outer : Bool
  pub right : Bool

-- lelem = "(" ")" | [ "$" ] atom, relem = "(" ")" | atom, and in outer rules "qui" on the left and "stage" Name
pub data Elem : Side → List Symbol → List RawElem → Type 0 where
  unit : (side : Side) (open_ close : Span) → Elem side (at word.Open open_ ∷ at word.Close close ∷ []) []
  atom : (side : Side) (symbols : List Symbol) (a : RawAtom) → Atom symbols a → Elem side symbols (elem.Atom false a ∷ [])
  kept : (outer : Bool) (dollar : Span) (symbols : List Symbol) (a : RawAtom) → Atom symbols a → Elem (record { outer = outer; right = false }) (at word.Dollar dollar ∷ symbols) (elem.Atom true a ∷ [])
  qui : (a : Span) → Elem (record { outer = true; right = false }) (at word.Qui a ∷ []) (elem.Qui a ∷ [])
  stage : (right : Bool) (stage_ a : Span) → Elem (record { outer = true; right = right }) (at word.Stage stage_ ∷ at word.Name a ∷ []) (elem.Stage a ∷ [])

-- { "*" elem }
pub data Stars : Side → List Symbol → List RawElem → Type 0 where
  none : (side : Side) → Stars side [] []
  more : (side : Side) (star : Span) (first rest : List Symbol) (elems others : List RawElem) → Elem side first elems → Stars side rest others → Stars side (at word.Star star ∷ (first ++ rest)) (elems ++ others)

-- elem { "*" elem }
pub data Elems : Side → List Symbol → List RawElem → Type 0 where
  elems : (side : Side) (first rest : List Symbol) (elems others : List RawElem) → Elem side first elems → Stars side rest others → Elems side (first ++ rest) (elems ++ others)

-- the two sides of a rule, with their arrow and their dot
pub data Sides : Bool → List Symbol → List RawElem → List RawElem → Type 0 where
  sides : (outer : Bool) (arrow dot : Span) (before after : List Symbol) (left right : List RawElem)
      → Elems (record { outer = outer; right = false }) before left → Elems (record { outer = outer; right = true }) after right
      → Sides outer (before ++ at word.Lolli arrow ∷ (after ++ at word.Dot dot ∷ [])) left right

-- { rule }, where rule = Name ":" left "-o" right "."
pub data Rules : List Symbol → List RawRule → Type 0 where
  none : Rules [] []
  more : (a colon : Span) (symbols rest : List Symbol) (left right : List RawElem) (rules : List RawRule)
      → Sides false symbols left right → Rules rest rules
      → Rules (at word.Name a ∷ at word.Colon colon ∷ (symbols ++ rest)) (record { at = a.from; label = Some a; left = left; right = right } ∷ rules)

-- one of two words
pub data IsOneOf (one other : Word) : Word → Type 0 where
  one : IsOneOf one other one
  other : IsOneOf one other other

-- { ( "<-" | "," ) atom }
pub data Goals : List Symbol → List RawAtom → Type 0 where
  none : Goals [] []
  more : (mark : Word) (a : Span) (first rest : List Symbol) (goal : RawAtom) (goals : List RawAtom)
      → IsOneOf word.Back word.Comma mark → Atom first goal → Goals rest goals → Goals (at mark a ∷ (first ++ rest)) (goal ∷ goals)

-- relem of a bag, and its atoms
pub data BagElem : List Symbol → List RawAtom → Type 0 where
  unit : (open_ close : Span) → BagElem (at word.Open open_ ∷ at word.Close close ∷ []) []
  atom : (symbols : List Symbol) (a : RawAtom) → Atom symbols a → BagElem symbols (a ∷ [])

-- { ( "," | "*" ) relem }
pub data BagMore : List Symbol → List RawAtom → Type 0 where
  none : BagMore [] []
  more : (mark : Word) (a : Span) (first rest : List Symbol) (atoms others : List RawAtom)
      → IsOneOf word.Comma word.Star mark → BagElem first atoms → BagMore rest others → BagMore (at mark a ∷ (first ++ rest)) (atoms ++ others)

-- bag = "{" [ relem { ( "," | "*" ) relem } ] "}", after its opening brace
pub data Bag : List Symbol → List RawAtom → Type 0 where
  empty : (close : Span) → Bag (at word.CloseBrace close ∷ []) []
  some : (close : Span) (first rest : List Symbol) (atoms others : List RawAtom)
      → BagElem first atoms → BagMore rest others → Bag (first ++ (rest ++ at word.CloseBrace close ∷ [])) (atoms ++ others)

-- [ "." ]
pub data MayDot : List Symbol → Type 0 where
  none : MayDot []
  dot : (a : Span) → MayDot (at word.Dot a ∷ [])

-- [ Name ":" ]
pub data Label : List Symbol → Option Span → Type 0 where
  none : Label [] None
  named : (a colon : Span) → Label (at word.Name a ∷ at word.Colon colon ∷ []) (Some a)

-- names, one after another
abbrev pub names : List Span → List Symbol
names [] = []
names (a ∷ rest) = at word.Name a ∷ names rest

-- ( "_" | Number ) of a trace
pub data Limit : Symbol → Option Span → Type 0 where
  blank : (a : Span) → Limit (at word.Blank a) None
  number : (a : Span) → Limit (at word.Number a) (Some a)

-- An item. `x : y.` is read as `colon` in every case.
pub data Item : List Symbol → RawItem → Type 0 where
  sort : (a colon type_ dot : Span) → Item (at word.Name a ∷ at word.Colon colon ∷ at word.Type type_ ∷ at word.Dot dot ∷ []) (item.Sort a)
  pred : (a colon pred_ dot : Span) (args : List Span) → Item (at word.Name a ∷ (names args ++ at word.Colon colon ∷ at word.Pred pred_ ∷ at word.Dot dot ∷ [])) (item.Pred a args Linear)
  back : (a colon bwd dot : Span) (args : List Span) → Item (at word.Name a ∷ (names args ++ at word.Colon colon ∷ at word.Bwd bwd ∷ at word.Dot dot ∷ [])) (item.Pred a args Back)
  fact : (a colon fact_ dot : Span) (args : List Span) → Item (at word.Name a ∷ (names args ++ at word.Colon colon ∷ at word.Fact fact_ ∷ at word.Dot dot ∷ [])) (item.Pred a args Fact)
  colon : (a colon_ b dot : Span) (args : List Span) → Item (at word.Name a ∷ (names args ++ at word.Colon colon_ ∷ at word.Name b ∷ at word.Dot dot ∷ [])) (item.Colon a args b)
  -- a clause without goals and without a label
  bare_clause : (dot : Span) (symbols : List Symbol) (head : RawAtom) → Atom symbols head → Item (symbols ++ at word.Dot dot ∷ []) (item.Clause None head [])
  -- one with a label: its head has arguments
  labelled : (a colon_ dot : Span) (symbols : List Symbol) (head : RawAtom) → Atom symbols head → 0 < head.args
      → Item (at word.Name a ∷ at word.Colon colon_ ∷ (symbols ++ at word.Dot dot ∷ [])) (item.Clause (Some a) head [])
  -- a clause with goals
  clause : (arrow dot : Span) (before symbols first rest : List Symbol) (label : Option Span) (head goal : RawAtom) (goals : List RawAtom)
      → Label before label → Atom symbols head → Atom first goal → Goals rest goals
      → Item (before ++ (symbols ++ at word.Back arrow ∷ (first ++ (rest ++ at word.Dot dot ∷ [])))) (item.Clause label head (goal ∷ goals))
  outer : (before symbols : List Symbol) (label : Option Span) (left right : List RawElem)
      → Label before label → Sides true symbols left right
      → Item (before ++ symbols) (item.Outer (record { at = place_of (before ++ symbols); label = label; left = left; right = right }))
  -- a label `_` counts as no label
  unnamed : (blank colon_ : Span) (symbols : List Symbol) (left right : List RawElem) → Sides true symbols left right
      → Item (at word.Blank blank ∷ at word.Colon colon_ ∷ symbols) (item.Outer (record { at = blank.from; label = None; left = left; right = right }))
  stage : (stage_ a equals open_ close : Span) (symbols ending : List Symbol) (rules : List RawRule) → Rules symbols rules → MayDot ending
      → Item (at word.Stage stage_ ∷ at word.Name a ∷ at word.Equals equals ∷ at word.OpenBrace open_ ∷ (symbols ++ at word.CloseBrace close ∷ ending)) (item.Stage a rules)
  context : (context_ a equals open_ : Span) (symbols ending : List Symbol) (atoms : List RawAtom) → Bag symbols atoms → MayDot ending
      → Item (at word.Context context_ ∷ at word.Name a ∷ at word.Equals equals ∷ at word.OpenBrace open_ ∷ (symbols ++ ending)) (item.Context a atoms)
  interactive : (directive a dot : Span) → Item (at word.Interactive directive ∷ at word.Name a ∷ at word.Dot dot ∷ []) (item.Interactive a)
  trace_named : (directive stage_ a dot : Span) (mark : Symbol) (limit : Option Span) → Limit mark limit
      → Item (at word.Trace directive ∷ mark ∷ at word.Name stage_ ∷ at word.Name a ∷ at word.Dot dot ∷ []) (item.Trace directive.from limit stage_ (Named a))
  trace_listed : (directive stage_ open_ dot : Span) (mark : Symbol) (limit : Option Span) (symbols : List Symbol) (atoms : List RawAtom) → Limit mark limit → Bag symbols atoms
      → Item (at word.Trace directive ∷ mark ∷ at word.Name stage_ ∷ at word.OpenBrace open_ ∷ (symbols ++ at word.Dot dot ∷ [])) (item.Trace directive.from limit stage_ (Listed atoms))

-- file = { item }
pub data File : List Symbol → List RawItem → Type 0 where
  none : File [] []
  more : (first rest : List Symbol) (item_ : RawItem) (items : List RawItem) → Item first item_ → File rest items → File (first ++ rest) (item_ ∷ items)
