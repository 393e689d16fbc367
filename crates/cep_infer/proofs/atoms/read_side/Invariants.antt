use Rattle.std.proofs.Common.{[], take}
use Rattle.cep_parse.specs.Raw.{atoms_of}
use Rattle.cep_infer.specs.Built.{AreBuilt}
use Rattle.cep_infer.proofs.atoms.read_side.Given as goal
use Rattle.cep_base.specs.FirstNames.{names_among}

abbrev pub invariant-loop-elem : goal.invariant-loop-elem
invariant-loop-elem l = AreBuilt l.source (names_among l.variables.firsts) (atoms_of (take l.elem-index l.side)) l.blanks l.behind [] l.atoms
