use Rattle.std.proofs.Common.{◌≡◌, map, take}
use Rattle.std.specs.List.{flat_map}
use Rattle.cep_refusal.specs.First.{first_in}
use Rattle.cep_parse.specs.Raw.{start_listed}
use Rattle.cep_source.specs.Kept.{trace_item}
use Rattle.cep_types.specs.Clashes.{state_clashes}
use Rattle.cep_types.proofs.clashes.traces_clash.Given as goal

abbrev pub invariant-loop-trace : goal.invariant-loop-trace
invariant-loop-trace l = l.first ≡ first_in (flat_map (λ trace. state_clashes l.source (start_listed trace.start)) (map trace_item (take l.trace-index l.trace-items)))
