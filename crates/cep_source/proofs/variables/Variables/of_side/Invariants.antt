use Rattle.std.proofs.Common.{◌≡◌, take}
use Rattle.cep_parse.specs.Raw.{raw_nodes, atoms_of}
use Rattle.cep_source.specs.Met.{none_met, met_nodes}
use Rattle.cep_source.proofs.variables.Variables.of_side.Given as goal

abbrev pub invariant-loop-elem : goal.invariant-loop-elem
invariant-loop-elem l = l.variables ≡ met_nodes l.source none_met (raw_nodes (atoms_of (take l.elem-index l.side)))
