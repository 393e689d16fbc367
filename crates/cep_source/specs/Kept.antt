-- What is kept at hand of a source: what it declares, kind by kind, and the places of its names.
use Rattle.std.specs.Prelude.{◌≡◌, ℕ, List, Some, map}
use Rattle.std.specs.List.{flat_map}
use Rattle.cep_parse.specs.declared.raw.Span.{Span}
use Rattle.cep_parse.specs.declared.raw.RawItem.{RawItem}
use Rattle.cep_parse.specs.declared.raw.RawAtom.{RawAtom}
use Rattle.cep_parse.specs.declared.raw.RawRule.{RawRule}
use Rattle.cep_source.specs.Items.{Source, ClauseItem, ConItem, PredItem, ContextItem, RuleItem, TraceItem, declares, cons_in, clauses_in}
use Rattle.cep_source.specs.Spaces.{rule_names_from}
use Rattle.cep_source.specs.Firsts.{IsTable, IsNamed, text_alone, unlabelled_over}
use Rattle.cep_source.specs.declared.items.AtomRef.{AtomRef}
use Rattle.cep_source.specs.declared.items.ClauseRef.{ClauseRef}
use Rattle.cep_source.specs.declared.items.RawCon.{RawCon}
use Rattle.cep_source.specs.declared.items.RawPred.{RawPred}
use Rattle.cep_source.specs.declared.items.RawContext.{RawContext}
use Rattle.cep_source.specs.declared.items.RuleRef.{RuleRef}
use Rattle.cep_source.specs.declared.items.TraceRef.{TraceRef}
use Rattle.cep_source.specs.declared.rules.Rules.{Rules}
use Rattle.cep_source.specs.declared.gathering.Kinds.{Kinds}
use Rattle.cep_source.specs.declared.clauses.Clauses.{Clauses}
use Rattle.cep_source.specs.declared.source.Source.TheInside.{Inside}

abbrev pub atom_at : AtomRef → RawAtom
atom_at atom = record { name = atom.name; args = atom.args; nodes = atom.nodes.now }

abbrev pub con_item : RawCon → ConItem
con_item con = record { name = con.name; args = con.args.now; sort = con.sort }

abbrev pub pred_item : RawPred → PredItem
pred_item pred = record { name = pred.name; args = pred.args.now; kind = pred.kind }

abbrev pub context_item : RawContext → ContextItem
context_item context = record { name = context.name; atoms = context.atoms.now }

abbrev pub clause_item : ClauseRef → ClauseItem
clause_item clause = record { head = atom_at clause.head; goals = clause.goals.now }

abbrev pub rule_item : RuleRef → RuleItem
rule_item rule = record { home = rule.home; raw = rule.raw.now }

-- a rule of a stage
abbrev pub in_stage : Span → RawRule → RuleItem
in_stage stage raw = record { home = Some stage; raw = raw }

abbrev pub trace_item : TraceRef → TraceItem
trace_item trace = record { at = trace.at; limit = trace.limit; stage = trace.stage; start = trace.start.now }

abbrev pub source_of : Inside → Source
source_of inside = record { text = inside.text.now; file = inside.file.now }

-- Each list has what these items declare of its kind, in written order.
pub record AreKinds (file : List RawItem) (kinds : Kinds) : Type 0 where
  pub sorts : kinds.sorts.items.items ≡ flat_map (λ item. (declares item).sorts) file
  pub preds : map pred_item kinds.preds.items.items ≡ flat_map (λ item. (declares item).preds) file
  pub rules : map rule_item kinds.rules.table.items.items ≡ flat_map (λ item. (declares item).rules) file
  pub stages : kinds.stages.items.items ≡ flat_map (λ item. (declares item).stages) file
  pub interactives : kinds.interactives.items.items ≡ flat_map (λ item. (declares item).interactives) file
  pub contexts : map context_item kinds.contexts.items.items ≡ flat_map (λ item. (declares item).contexts) file
  pub traces : map trace_item kinds.traces.items ≡ flat_map (λ item. (declares item).traces) file

-- The rules have their names.
pub record AreRules (text : List ℕ) (rules : Rules) : Type 0 where
  pub names : rules.names.items ≡ map (λ named. named.name) (rule_names_from (text_alone text) 0 (map rule_item rules.table.items.items))
  pub table : IsTable (rule_names_from (text_alone text) 0 (map rule_item rules.table.items.items)) rules.table
  pub unlabelled : rules.unlabelled ≡ unlabelled_over 0 (map rule_item rules.table.items.items)

-- All that has a name has that of the text.
pub record HaveTheirNames (text : List ℕ) (kinds : Kinds) : Type 0 where
  pub sorts : IsNamed text (λ name. name) kinds.sorts
  pub preds : IsNamed text (λ pred. pred.name) kinds.preds
  pub rules : AreRules text kinds.rules
  pub stages : IsNamed text (λ name. name) kinds.stages
  pub interactives : IsNamed text (λ name. name) kinds.interactives
  pub contexts : IsNamed text (λ context. context.name) kinds.contexts

-- These are the constructors and the clauses among items of a source.
pub record AreClausesAmong (source : Source) (items : List RawItem) (kept : Clauses) : Type 0 where
  pub cons : map con_item kept.cons.items.items ≡ flat_map (cons_in source) items
  pub clauses : map clause_item kept.clauses.items ≡ flat_map (clauses_in source) items
  pub named : IsNamed source.text (λ con. con.name) kept.cons

-- What is kept is what the source declares, by its names.
pub record IsGathered (inside : Inside) : Type 0 where
  pub kinds : AreKinds (source_of inside).file inside.kinds
  pub named : HaveTheirNames (source_of inside).text inside.kinds
  pub clauses : AreClausesAmong (source_of inside) (source_of inside).file inside.clauses
