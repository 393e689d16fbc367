use Rattle.std.proofs.Common.{◌≡◌, take}
use Rattle.std.specs.List.{flat_map}
use Rattle.cep_refusal.specs.First.{first_in}
use Rattle.cep_faults.specs.Faults.{listed_faults}
use Rattle.cep_faults.proofs.atoms.listed_fault.Given as goal

abbrev pub invariant-loop-atom : goal.invariant-loop-atom
invariant-loop-atom l = l.first ≡ first_in (flat_map (listed_faults l.source l.in_braces) (take l.atom-index l.atoms))
