use Rattle.std.proofs.Common.{◌≡◌, take}
use Rattle.std.specs.List.{flat_map}
use Rattle.cep_refusal.specs.First.{first_in}
use Rattle.cep_faults.specs.Faults.{elem_faults}
use Rattle.cep_faults.proofs.atoms.side_fault.Given as goal

abbrev pub invariant-loop-elem : goal.invariant-loop-elem
invariant-loop-elem l = l.first ≡ first_in (flat_map (elem_faults l.source l.made) (take l.elem-index l.side))
