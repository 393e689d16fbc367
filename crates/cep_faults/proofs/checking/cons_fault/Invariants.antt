use Rattle.std.proofs.Common.{◌≡◌, take}
use Rattle.std.specs.List.{flat_map}
use Rattle.cep_refusal.specs.First.{first_in}
use Rattle.cep_source.specs.Kept.{con_item}
use Rattle.cep_faults.specs.Faults.{con_faults}
use Rattle.cep_faults.proofs.checking.cons_fault.Given as goal

abbrev pub invariant-loop-con : goal.invariant-loop-con
invariant-loop-con l = l.first ≡ first_in (flat_map (λ con. con_faults l.source (con_item con)) (take l.con-index l.con-items))
