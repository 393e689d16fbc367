-- What the items of a file declare, as it is written.
use Rattle.std.specs.Prelude.{ℕ, Bool, ◌&&◌, not, List, [], ◌∷◌, Option, Some, None, ◌++◌, ◌==◌, length, map, filter}
use Rattle.std.specs.Str.{bytes_eq}
use Rattle.std.specs.List.{flat_map, list_any}
use Rattle.cep_base.specs.declared.kind.PredKind.{PredKind}
use Rattle.cep_parse.specs.declared.raw.Span.{Span}
use Rattle.cep_parse.specs.declared.raw.RawAtom.{RawAtom}
use Rattle.cep_parse.specs.declared.raw.RawRule.{RawRule}
use Rattle.cep_parse.specs.declared.raw.RawStart.{RawStart}
use Rattle.cep_parse.specs.declared.raw.RawItem.{RawItem}
use Rattle.cep_parse.specs.declared.raw.RawItem.TheVariants as item
use Rattle.cep_parse.specs.Symbols.{slice_of}

-- A text, and the raw file that its tokens are.
pub record Source : Type 0 where
  pub text : List ℕ
  pub file : List RawItem

-- what the text says at a span
abbrev pub said : Source → Span → List ℕ
said source span = slice_of source.text span.from span.to

-- A predicate: its name, the names of its arguments' types, and its kind.
pub record PredItem : Type 0 where
  pub name : Span
  pub args : List Span
  pub kind : PredKind

-- A constructor: its name, the names of its arguments' types, and that of its own type.
pub record ConItem : Type 0 where
  pub name : Span
  pub args : List Span
  pub sort : Span

-- A clause: its head and its goals. Its label has no meaning.
pub record ClauseItem : Type 0 where
  pub head : RawAtom
  pub goals : List RawAtom

-- A rule, and the name of its stage where it stands in one.
pub record RuleItem : Type 0 where
  pub home : Option Span
  pub raw : RawRule

-- A context and its atoms.
pub record ContextItem : Type 0 where
  pub name : Span
  pub atoms : List RawAtom

-- A trace: its place, the number of turns if it has one, its stage and its start state.
pub record TraceItem : Type 0 where
  pub at : ℕ
  pub limit : Option Span
  pub stage : Span
  pub start : RawStart

-- What an item declares, of each kind: types, predicates, what `x a : y.` says, clauses, rules, stages, interactive stages, contexts, traces.
pub record Declares : Type 0 where
  pub sorts : List Span
  pub preds : List PredItem
  pub colons : List ConItem
  pub clauses : List ClauseItem
  pub rules : List RuleItem
  pub stages : List Span
  pub interactives : List Span
  pub contexts : List ContextItem
  pub traces : List TraceItem

abbrev pub declared_nothing : Declares
declared_nothing = record { sorts = []; preds = []; colons = []; clauses = []; rules = []; stages = []; interactives = []; contexts = []; traces = [] }

abbrev pub declares : RawItem → Declares
declares (item.Sort name) = record declared_nothing { sorts = name ∷ [] }
declares (item.Pred name args of_kind) = record declared_nothing { preds = record { name = name; args = args; kind = of_kind } ∷ [] }
declares (item.Colon left args right) = record declared_nothing { colons = record { name = left; args = args; sort = right } ∷ [] }
declares (item.Clause label head goals) = record declared_nothing { clauses = record { head = head; goals = goals } ∷ [] }
declares (item.Outer raw) = record declared_nothing { rules = record { home = None; raw = raw } ∷ [] }
declares (item.Stage name raws) = record declared_nothing { stages = name ∷ []; rules = map (λ raw. record { home = Some name; raw = raw }) raws }
declares (item.Context name atoms) = record declared_nothing { contexts = record { name = name; atoms = atoms } ∷ [] }
declares (item.Interactive name) = record declared_nothing { interactives = name ∷ [] }
declares (item.Trace at limit stage start) = record declared_nothing { traces = record { at = at; limit = limit; stage = stage; start = start } ∷ [] }

-- the types, the predicates, the rules, the stages, the names of the stages that are said to be interactive, the contexts, the traces
abbrev pub sorts_of : Source → List Span
sorts_of source = flat_map (λ item. (declares item).sorts) source.file

abbrev pub preds_of : Source → List PredItem
preds_of source = flat_map (λ item. (declares item).preds) source.file

abbrev pub rules_of : Source → List RuleItem
rules_of source = flat_map (λ item. (declares item).rules) source.file

abbrev pub stages_of : Source → List Span
stages_of source = flat_map (λ item. (declares item).stages) source.file

abbrev pub interactives_of : Source → List Span
interactives_of source = flat_map (λ item. (declares item).interactives) source.file

abbrev pub contexts_of : Source → List ContextItem
contexts_of source = flat_map (λ item. (declares item).contexts) source.file

abbrev pub traces_of : Source → List TraceItem
traces_of source = flat_map (λ item. (declares item).traces) source.file

-- whether one of these spans says the name
abbrev pub is_said : Source → List Span → List ℕ → Bool
is_said source spans name = list_any (λ span. bytes_eq (said source span) name) spans

-- Whether `x : y.` is a clause with a label: y is a predicate, and no type. It is a constructor else, and so is `x a : y.`
abbrev pub is_labelled : Source → List Span → Span → Bool
is_labelled source args right =
    (length args == 0) && (not (is_said source (sorts_of source) (said source right)) && is_said source (map (λ pred. pred.name) (preds_of source)) (said source right))

-- an atom of a predicate without arguments
abbrev pub bare : Span → RawAtom
bare name = record { name = name; args = 0; nodes = [] }

-- the constructors
abbrev pub cons_in : Source → RawItem → List ConItem
cons_in source item = filter (λ con. not (is_labelled source con.args con.sort)) (declares item).colons

abbrev pub cons_of : Source → List ConItem
cons_of source = flat_map (cons_in source) source.file

-- the clauses
abbrev pub clauses_in : Source → RawItem → List ClauseItem
clauses_in source item = (declares item).clauses ++ map (λ con. record { head = bare con.sort; goals = [] }) (filter (λ con. is_labelled source con.args con.sort) (declares item).colons)

abbrev pub clauses_of : Source → List ClauseItem
clauses_of source = flat_map (clauses_in source) source.file
