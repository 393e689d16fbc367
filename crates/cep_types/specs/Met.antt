-- The variables that were met so far, site by site: each once, with the type that is wanted where it occurs first.
use Rattle.std.specs.Prelude.{◌≡◌, ℕ, Bool, true, false, if◌then◌else◌, List, [], ◌∷◌, ◌++◌, Option, map, fold}
use Rattle.std.specs.Option.{option_map}
use Rattle.std.specs.Str.{bytes_eq}
use Rattle.std.specs.List.{list_any}
use Rattle.cep_parse.specs.declared.raw.Span.{Span}
use Rattle.cep_parse.specs.declared.raw.RawKind.{RawKind}
use Rattle.cep_parse.specs.declared.raw.RawKind.TheVariants as kind
use Rattle.cep_parse.specs.declared.raw.RawAtom.{RawAtom}
use Rattle.cep_source.specs.declared.space.Space.TheVariants as space
use Rattle.cep_source.specs.Items.{Source, said}
use Rattle.cep_types.specs.Sites.{Wanted, sites_of, wanted_from}
use Rattle.cep_types.specs.Heads.{Head, con, var}
use Rattle.cep_types.specs.Heads as heads
use Rattle.cep_source.specs.declared.variables.Variables.{Variables}
use Rattle.cep_source.specs.Variables.{blanks_after}
use Rattle.cep_base.specs.FirstNames.{under_name}

-- the name of a name's type
abbrev pub type_met : Source → List (List ℕ × Span) → List ℕ → Option (List ℕ)
type_met source firsts name = option_map (said source) (under_name firsts name)

-- the numbers of the types of all names
abbrev pub kinds_met : Source → List (List ℕ × Span) → List ℕ
kinds_met source firsts = map (λ entry. heads.number_of source space.Sorts (said source entry.1)) firsts

-- each name with the name of its type
abbrev pub wanted_in : Source → List (List ℕ × Span) → List Wanted
wanted_in source firsts = map (λ entry. record { name = entry.0; wants = said source entry.1 }) firsts

-- one more, if it is new
abbrev pub further : List Wanted → Wanted → List Wanted
further old next = if list_any (λ other. bytes_eq next.name other.name) old then old else old ++ next ∷ []

-- Where the old variables were met, the new ones are met after the terms of these atoms, each with the type that is wanted of it.
pub record AreMet (source : Source) (atoms : List RawAtom) (old new : Variables) : Type 0 where
  pub firsts : wanted_in source new.firsts ≡ fold further (wanted_in source old.firsts) (wanted_from source old.blanks (sites_of source atoms))
  pub blanks : new.blanks ≡ blanks_after old.blanks (map (λ site. site.node) (sites_of source atoms))

-- whether a node is a variable or a blank
abbrev pub is_variable_or_blank : RawKind → Bool
is_variable_or_blank kind.App = false
is_variable_or_blank kind.Var = true
is_variable_or_blank kind.Blank = true

-- the head of a node by its number
abbrev pub head_by : RawKind → ℕ → ℕ → Head
head_by kind.App number args = con number args
head_by kind.Var number args = var number
head_by kind.Blank number args = var number
