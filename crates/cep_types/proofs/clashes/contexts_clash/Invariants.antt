use Rattle.std.proofs.Common.{◌≡◌, map, take}
use Rattle.std.specs.List.{flat_map}
use Rattle.cep_refusal.specs.First.{first_in}
use Rattle.cep_source.specs.Kept.{context_item}
use Rattle.cep_types.specs.Clashes.{state_clashes}
use Rattle.cep_types.proofs.clashes.contexts_clash.Given as goal

abbrev pub invariant-loop-context : goal.invariant-loop-context
invariant-loop-context l = l.first ≡ first_in (flat_map (λ context. state_clashes l.source context.atoms) (map context_item (take l.context-index l.context-items)))
