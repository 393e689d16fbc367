use Rattle.std.proofs.Common.{◌≡◌, take}
use Rattle.std.specs.List.{flat_map}
use Rattle.cep_refusal.specs.First.{first_in}
use Rattle.cep_types.specs.Clashes.{atom_clashes}
use Rattle.cep_types.specs.Met.{type_met}
use Rattle.cep_types.proofs.clashes.clash_among.Given as goal

abbrev pub invariant-loop-atom : goal.invariant-loop-atom
invariant-loop-atom l = l.first ≡ first_in (flat_map (atom_clashes l.source (type_met l.source l.variables.firsts)) (take l.atom-index l.atoms))
