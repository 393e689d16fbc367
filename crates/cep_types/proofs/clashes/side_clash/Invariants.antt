use Rattle.std.proofs.Common.{◌≡◌, take}
use Rattle.std.specs.List.{flat_map}
use Rattle.cep_refusal.specs.First.{first_in}
use Rattle.cep_parse.specs.Raw.{atoms_of}
use Rattle.cep_types.specs.Clashes.{atom_clashes}
use Rattle.cep_types.specs.Met.{type_met}
use Rattle.cep_types.proofs.clashes.side_clash.Given as goal

abbrev pub invariant-loop-elem : goal.invariant-loop-elem
invariant-loop-elem l = l.first ≡ first_in (flat_map (atom_clashes l.source (type_met l.source l.variables.firsts)) (atoms_of (take l.elem-index l.side)))
