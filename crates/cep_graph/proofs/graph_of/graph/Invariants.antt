use Rattle.std.proofs.Common.{List}
use Rattle.cep_cause.specs.Touches.{Touch, AreTouchesOf}
use Rattle.cep_graph.proofs.OneGraph.{IsSoFar}
use Rattle.cep_graph.proofs.graph_of.graph.Given as goal

abbrev pub invariant-loop-i : goal.invariant-loop-i
invariant-loop-i l = (touches : List Touch) → AreTouchesOf l.program l.log touches → IsSoFar l.program l.log touches l.i l.tokens l.causes
