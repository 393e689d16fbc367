use Rattle.std.proofs.Common.{◌≡◌, ◌++◌, take}
use Rattle.std.specs.List.{flat_map}
use Rattle.cep_refusal.specs.First.{first_in}
use Rattle.cep_source.specs.Kept.{clause_item}
use Rattle.cep_faults.specs.Faults.{clause_atom_faults}
use Rattle.cep_faults.proofs.rules.clause_fault.Given as goal

abbrev pub invariant-loop-goal : goal.invariant-loop-goal
invariant-loop-goal l = l.first ≡ first_in (clause_atom_faults l.source (clause_item l.clause).head ++ flat_map (clause_atom_faults l.source) (take l.goal-index l.goal-items))
