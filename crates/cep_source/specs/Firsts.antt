-- Names that come one after another: the first of each, and the places of first declarations.
use Rattle.std.specs.Prelude.{◌≡◌, ℕ, if◌then◌else◌, List, [], ◌∷◌, ◌++◌, Option, map, length, position}
use Rattle.std.specs.Str.{bytes_eq}
use Rattle.std.specs.List.{list_any}
use Rattle.cep_base.specs.FirstNames.{under_name}
use Rattle.cep_parse.specs.declared.raw.Span.{Span}
use Rattle.cep_refusal.specs.declared.fault.Fault.{Fault}
use Rattle.cep_refusal.specs.declared.reason.Reason.TheVariants.{Twice}
use Rattle.cep_refusal.specs.First.{first_in, wrong}
use Rattle.cep_source.specs.declared.table.Table.{Table}
use Rattle.cep_source.specs.Items.{Source, RuleItem}
use Rattle.cep_source.specs.Spaces.{Named, named, unlabelled_behind}

-- the place of the first of some names that is this one
abbrev pub place_among : List Named → List ℕ → Option ℕ
place_among names name = position (λ other. bytes_eq other.name name) names

-- the names that were declared before, and the faults of those that are declared again
abbrev pub again_among : List (List ℕ) → List Named → List Fault
again_among before [] = []
again_among before (named ∷ names) =
    (if list_any (λ name. bytes_eq name named.name) before then wrong Twice named.at ∷ [] else []) ++ again_among (before ++ named.name ∷ []) names

-- The items have these names: of each the place of the first declaration is known, and the first fault of one that is declared again.
pub record IsTable {T : Type 0} (names : List Named) (table : Table T) : Type 0 where
  pub count : length table.items.items ≡ length names
  pub places : (name : List ℕ) → under_name table.places name ≡ place_among names name
  pub twice : table.twice ≡ first_in (again_among [] names)

-- a text alone
abbrev pub text_alone : List ℕ → Source
text_alone text = record { text = text; file = [] }

-- The items have the names that the text says at these spans.
abbrev pub IsNamed : {T : Type 0} → List ℕ → (T → Span) → Table T → Type 0
IsNamed text span table = IsTable (map (λ item. named (text_alone text) (span item)) table.items.items) table

-- how many rules without a label there are after some
abbrev pub unlabelled_over : ℕ → List RuleItem → ℕ
unlabelled_over unlabelled [] = unlabelled
unlabelled_over unlabelled (rule ∷ rules) = unlabelled_over (unlabelled_behind unlabelled rule.raw.label) rules
