-- The variables that were met so far, node by node: each once, with the span with which it was met first.
use Rattle.std.specs.Prelude.{◌≡◌, ◌+◌, List, [], ◌++◌, map, fold, codes, decimal}
use Rattle.cep_parse.specs.declared.raw.Span.{Span}
use Rattle.cep_parse.specs.declared.raw.RawKind.{RawKind}
use Rattle.cep_parse.specs.declared.raw.RawKind.TheVariants as kind
use Rattle.cep_parse.specs.declared.raw.RawNode.{RawNode}
use Rattle.cep_parse.specs.declared.raw.RawAtom.{RawAtom}
use Rattle.cep_parse.specs.Raw.{raw_nodes}
use Rattle.cep_source.specs.Items.{Source, said}
use Rattle.cep_source.specs.Variables.{variables_of, blanks_after}
use Rattle.cep_base.specs.FirstNames.{added}
use Rattle.cep_source.specs.declared.variables.Variables.{Variables}

-- nothing was met
abbrev pub none_met : Variables
none_met = record { firsts = []; blanks = 0 }

-- one node more, with this span
abbrev pub met_site : Source → Variables → RawKind → Span → Span → Variables
met_site source old kind.App at with_span = old
met_site source old kind.Var at with_span = record { firsts = added old.firsts (said source at, with_span); blanks = old.blanks }
met_site source old kind.Blank at with_span = record { firsts = added old.firsts (codes "_" ++ decimal (old.blanks + 1), with_span); blanks = old.blanks + 1 }

-- nodes more, each with its own place
abbrev pub met_nodes : Source → Variables → List RawNode → Variables
met_nodes source old nodes = fold (λ variables node. met_site source variables node.kind node.at node.at) old nodes

-- These are the variables of atoms, each with its first place, and so many of them are blanks.
pub record AreVariables (source : Source) (atoms : List RawAtom) (variables : Variables) : Type 0 where
  pub firsts : variables.firsts ≡ map (λ occurrence. (occurrence.name, occurrence.at)) (variables_of source atoms)
  pub blanks : variables.blanks ≡ blanks_after 0 (raw_nodes atoms)
