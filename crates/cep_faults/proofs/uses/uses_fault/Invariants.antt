use Rattle.std.proofs.Common.{◌≡◌, take}
use Rattle.std.specs.List.{flat_map}
use Rattle.cep_refusal.specs.First.{first_in}
use Rattle.cep_faults.specs.Faults.{use_faults}
use Rattle.cep_faults.proofs.uses.uses_fault.Given as goal

abbrev pub invariant-loop-name : goal.invariant-loop-name
invariant-loop-name l = l.first ≡ first_in (flat_map (use_faults l.source l.space) (take l.name-index l.names))
