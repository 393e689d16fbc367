use Rattle.std.proofs.Common.{take}
use Rattle.cep_parse.specs.Raw.{atoms_of}
use Rattle.cep_types.specs.Met.{AreMet}
use Rattle.cep_types.proofs.variables.meet_side.Given as goal

abbrev pub invariant-loop-elem : goal.invariant-loop-elem
invariant-loop-elem l = AreMet l.source (atoms_of (take l.elem-index l.side)) l.fn.variables l.variables
