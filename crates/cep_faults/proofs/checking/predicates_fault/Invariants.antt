use Rattle.std.proofs.Common.{◌≡◌, take}
use Rattle.std.specs.List.{flat_map}
use Rattle.cep_refusal.specs.First.{first_in}
use Rattle.cep_source.specs.Kept.{pred_item}
use Rattle.cep_faults.specs.Faults.{predicate_faults}
use Rattle.cep_faults.proofs.checking.predicates_fault.Given as goal

abbrev pub invariant-loop-pred : goal.invariant-loop-pred
invariant-loop-pred l = l.first ≡ first_in (flat_map (λ pred. predicate_faults l.source (pred_item pred)) (take l.pred-index l.pred-items))
