-- The spaces of names, and to which declaration a name goes: to the first that has it.
use Rattle.std.specs.Prelude.{◌≡◌, ℕ, ◌+◌, Bool, Contains, List, [], ◌∷◌, ◌++◌, Option, Some, None, map, codes, decimal}
use Rattle.std.specs.Option.{option_map}
use Rattle.std.specs.Str.{bytes_eq}
use Rattle.std.specs.List.{list_any, find, position}
use Rattle.cep_base.specs.declared.kind.PredKind.{PredKind}
use Rattle.cep_parse.specs.declared.raw.Span.{Span}
use Rattle.cep_parse.specs.declared.raw.RawAtom.{RawAtom}
use Rattle.cep_refusal.specs.declared.fault.Fault.{Fault}
use Rattle.cep_refusal.specs.declared.reason.Reason.TheVariants.{Twice}
use Rattle.cep_refusal.specs.First.{wrong}
use Rattle.cep_source.specs.declared.space.Space.{Space}
use Rattle.cep_source.specs.declared.space.Space.TheVariants as space
use Rattle.cep_source.specs.Items.{Source, PredItem, ConItem, RuleItem, ContextItem, said, sorts_of, preds_of, cons_of, stages_of, rules_of, contexts_of}

-- A name that is declared, and its place.
pub record Named : Type 0 where
  pub name : List ℕ
  pub at : ℕ

-- the name that a span says, at its place
abbrev pub named : Source → Span → Named
named source span = record { name = said source span; at = span.from }

-- the name of a rule: its label, or, without one, `qui/` and its number among those without, from 1
abbrev pub rule_name : Source → ℕ → Option Span → List ℕ
rule_name source unlabelled (Some label) = said source label
rule_name source unlabelled None = codes "qui/" ++ decimal (unlabelled + 1)

-- how many rules without a label there are after one with this label
abbrev pub unlabelled_behind : ℕ → Option Span → ℕ
unlabelled_behind unlabelled (Some label) = unlabelled
unlabelled_behind unlabelled None = unlabelled + 1

-- the names of the rules, where so many without a label stand before them, each at the rule's place
abbrev pub rule_names_from : Source → ℕ → List RuleItem → List Named
rule_names_from source unlabelled [] = []
rule_names_from source unlabelled (rule ∷ rules) =
    record { name = rule_name source unlabelled rule.raw.label; at = rule.raw.at }
    ∷ rule_names_from source (unlabelled_behind unlabelled rule.raw.label) rules

-- the names that are declared in a space, in written order
abbrev pub names_in : Source → Space → List Named
names_in source space.Sorts = map (named source) (sorts_of source)
names_in source space.Constructors = map (λ con. named source con.name) (cons_of source)
names_in source space.Predicates = map (λ pred. named source pred.name) (preds_of source)
names_in source space.Stages = map (named source) (stages_of source)
names_in source space.Contexts = map (λ context. named source context.name) (contexts_of source)
names_in source space.Rules = rule_names_from source 0 (rules_of source)

-- whether the space has the name
abbrev pub is_in : Source → Space → List ℕ → Bool
is_in source space name = list_any (λ other. bytes_eq other.name name) (names_in source space)

-- the place of the first declaration of a name among those of its space, from 0
abbrev pub first_place : Source → Space → List ℕ → Option ℕ
first_place source space name = position (λ other. bytes_eq other.name name) (names_in source space)

-- the predicate, the constructor, the context that has the name
abbrev pub pred_named : Source → List ℕ → Option PredItem
pred_named source name = find (λ pred. bytes_eq (said source pred.name) name) (preds_of source)

abbrev pub con_named : Source → List ℕ → Option ConItem
con_named source name = find (λ con. bytes_eq (said source con.name) name) (cons_of source)

abbrev pub context_named : Source → List ℕ → Option ContextItem
context_named source name = find (λ context. bytes_eq (said source context.name) name) (contexts_of source)

-- of which kind the predicate of an atom is declared
abbrev pub kind_of : Source → RawAtom → Option PredKind
kind_of source atom = option_map (λ pred. pred.kind) (pred_named source (said source atom.name))

-- An earlier declaration of the space has the name.
pub data IsTwice (source : Source) (fault : Fault) : Type 0 where
  again : (space : Space) (before after : List Named) (entry : Named) → names_in source space ≡ before ++ entry ∷ after → Contains (map (λ other. other.name) before) entry.name → fault ≡ wrong Twice entry.at → IsTwice source fault
