use Rattle.std.proofs.Common.{drop}
use Rattle.cep_graph.specs.Queues.{Queues}
use Rattle.cep_graph.specs.Traces.{MakesFor}
use Rattle.cep_graph.proofs.making.make.Given as goal

abbrev pub invariant-loop-i : goal.invariant-loop-i
invariant-loop-i l = (new : Queues) → MakesFor l.signature l.values (drop l.i l.right) l.number l.tokens new → MakesFor l.signature l.values l.right l.number l.fn.tokens new
