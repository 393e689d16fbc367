use Rattle.std.proofs.Common.{◌≡◌, take}
use Rattle.std.specs.List.{flat_map}
use Rattle.cep_refusal.specs.First.{first_in}
use Rattle.cep_source.specs.Kept.{trace_item}
use Rattle.cep_faults.specs.Faults.{trace_faults}
use Rattle.cep_faults.proofs.checking.traces_fault.Given as goal

abbrev pub invariant-loop-trace : goal.invariant-loop-trace
invariant-loop-trace l = l.first ≡ first_in (flat_map (λ trace. trace_faults l.source (trace_item trace)) (take l.trace-index l.trace-items))
