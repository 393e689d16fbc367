-- Atoms without variables.
use Rattle.std.specs.Prelude.{◌≡◌, List}
use Rattle.std.specs.List.{AllByRecursion}
use Rattle.cep_parse.specs.declared.raw.RawKind.TheVariants as kind
use Rattle.cep_parse.specs.declared.raw.RawNode.{RawNode}

-- Each node is a constructor.
abbrev pub AreClosed : List RawNode → Type 0
AreClosed nodes = AllByRecursion (λ node. node.kind ≡ kind.App) nodes
