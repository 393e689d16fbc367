use Rattle.std.proofs.Common.{take, replicate}
use Rattle.std.specs.List.{flat_map}
use Rattle.cep_graph.specs.Traces.{AreOfStart}
use Rattle.std.specs.FinMap as finite
use Rattle.cep_graph.proofs.starting.start_tokens.Given as goal

abbrev pub invariant-loop-i : goal.invariant-loop-i
invariant-loop-i l = AreOfStart (flat_map (λ e. replicate e.1 e.0) (take l.i (finite.entries l.start))) l.tokens
