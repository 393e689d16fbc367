use Rattle.std.proofs.Common.{◌≡◌, ◌++◌, take}
use Rattle.std.specs.List.{flat_map}
use Rattle.cep_refusal.specs.First.{first_in}
use Rattle.cep_source.specs.Kept.{atom_at}
use Rattle.cep_faults.specs.Faults.{pred_faults, node_faults}
use Rattle.cep_faults.proofs.atoms.names_fault.Given as goal

abbrev pub invariant-loop-node : goal.invariant-loop-node
invariant-loop-node l = l.first ≡ first_in (pred_faults l.source (atom_at l.atom) ++ flat_map (node_faults l.source l.of_state) (take l.node-index l.node-items))
