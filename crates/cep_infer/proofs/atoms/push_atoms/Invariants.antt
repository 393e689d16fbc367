use Rattle.std.proofs.Common.{take}
use Rattle.cep_infer.specs.Built.{AreBuilt}
use Rattle.cep_infer.proofs.atoms.push_atoms.Given as goal
use Rattle.cep_base.specs.FirstNames.{names_among}

abbrev pub invariant-loop-raw : goal.invariant-loop-raw
invariant-loop-raw l = AreBuilt l.source (names_among l.variables.firsts) (take l.raw-index l.raws) l.fn.blanks l.blanks l.fn.atoms l.atoms
