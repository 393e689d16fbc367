use Rattle.std.proofs.Common.{◌≡◌, take}
use Rattle.std.specs.List.{flat_map}
use Rattle.cep_refusal.specs.First.{first_in}
use Rattle.cep_source.specs.Kept.{clause_item}
use Rattle.cep_faults.specs.Faults.{clause_faults}
use Rattle.cep_faults.proofs.rules.clauses_fault.Given as goal

abbrev pub invariant-loop-clause : goal.invariant-loop-clause
invariant-loop-clause l = l.first ≡ first_in (flat_map (λ clause. clause_faults l.source (clause_item clause)) (take l.clause-index l.clause-items))
