-- The variables of a rule or a clause, in order of first occurrence.
use Rattle.std.specs.Prelude.{ℕ, ◌+◌, if◌then◌else◌, List, [], ◌∷◌, ◌++◌, codes, decimal}
use Rattle.std.specs.Str.{bytes_eq}
use Rattle.std.specs.List.{list_any}
use Rattle.cep_parse.specs.declared.raw.Span.{Span}
use Rattle.cep_parse.specs.declared.raw.RawKind.{RawKind}
use Rattle.cep_parse.specs.declared.raw.RawKind.TheVariants as kind
use Rattle.cep_parse.specs.declared.raw.RawNode.{RawNode}
use Rattle.cep_parse.specs.declared.raw.RawAtom.{RawAtom}
use Rattle.cep_parse.specs.Raw.{raw_nodes}
use Rattle.cep_source.specs.Items.{Source, said}

-- An occurrence of a variable, or of a `_`, which is a variable of its own.
pub record Occurrence : Type 0 where
  pub name : List ℕ
  pub at : Span

-- the name of a node that is a variable: what is written, or for a blank `_` and its number among the blanks, from 1
abbrev pub occurrence_at : Source → ℕ → Span → RawKind → List Occurrence
occurrence_at source blanks span kind.Var = record { name = said source span; at = span } ∷ []
occurrence_at source blanks span kind.Blank = record { name = codes "_" ++ decimal (blanks + 1); at = span } ∷ []
occurrence_at source blanks span kind.App = []

-- how many blanks there are after a node, where there were so many before it
abbrev pub blanks_behind : ℕ → RawKind → ℕ
blanks_behind blanks kind.Blank = blanks + 1
blanks_behind blanks kind.Var = blanks
blanks_behind blanks kind.App = blanks

-- the occurrences among nodes in written order, where so many blanks stand before them
abbrev pub occurrences_from : Source → ℕ → List RawNode → List Occurrence
occurrences_from source blanks [] = []
occurrences_from source blanks (node ∷ nodes) =
    occurrence_at source blanks node.at node.kind ++ occurrences_from source (blanks_behind blanks node.kind) nodes

-- how many blanks there are after nodes
abbrev pub blanks_after : ℕ → List RawNode → ℕ
blanks_after blanks [] = blanks
blanks_after blanks (first ∷ nodes) = blanks_after (blanks_behind blanks first.kind) nodes

-- the occurrences of the variables of atoms in written order
abbrev pub occurrences_of : Source → List RawAtom → List Occurrence
occurrences_of source atoms = occurrences_from source 0 (raw_nodes atoms)

-- the first occurrence of each variable, but for those that were seen before
abbrev pub firsts_beside : List (List ℕ) → List Occurrence → List Occurrence
firsts_beside seen [] = []
firsts_beside seen (occurrence ∷ occurrences) =
    if list_any (λ name. bytes_eq name occurrence.name) seen then firsts_beside seen occurrences
    else occurrence ∷ firsts_beside (occurrence.name ∷ seen) occurrences

-- the first occurrence of each variable
abbrev pub firsts : List Occurrence → List Occurrence
firsts occurrences = firsts_beside [] occurrences

-- the variables of atoms, each at its first occurrence
abbrev pub variables_of : Source → List RawAtom → List Occurrence
variables_of source atoms = firsts (occurrences_of source atoms)
