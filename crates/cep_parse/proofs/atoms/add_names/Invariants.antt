use Rattle.std.proofs.Common.{◌≡◌, take}
use Rattle.cep_parse.specs.Machine.{atom_of_names}
use Rattle.cep_parse.proofs.atoms.add_names.Given as goal

abbrev pub invariant-loop-name : goal.invariant-loop-name
invariant-loop-name l = l.atom ≡ atom_of_names l.fn.atom.name (take l.name-index l.names)
