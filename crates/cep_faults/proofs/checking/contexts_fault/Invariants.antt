use Rattle.std.proofs.Common.{◌≡◌, take}
use Rattle.std.specs.List.{flat_map}
use Rattle.cep_refusal.specs.First.{first_in}
use Rattle.cep_source.specs.Kept.{context_item}
use Rattle.cep_faults.specs.Faults.{context_faults}
use Rattle.cep_faults.proofs.checking.contexts_fault.Given as goal

abbrev pub invariant-loop-context : goal.invariant-loop-context
invariant-loop-context l = l.first ≡ first_in (flat_map (λ context. context_faults l.source (context_item context)) (take l.context-index l.context-items))
