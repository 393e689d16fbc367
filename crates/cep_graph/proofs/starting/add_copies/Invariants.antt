use Rattle.std.proofs.Common.{◌≡◌, ◌++◌, List, replicate}
use Rattle.cep_term.specs.Tree.{AtomTree}
use Rattle.cep_graph.specs.Queues.{IsIdOf}
use Rattle.cep_graph.specs.Traces.{AreOfStart}
use Rattle.cep_graph.proofs.starting.add_copies.Given as goal

abbrev pub invariant-loop-copy : goal.invariant-loop-copy
invariant-loop-copy l =
    (l.tokens.atoms ≡ l.fn.tokens.atoms)
    × ((a : AtomTree) (atoms : List AtomTree) → IsIdOf l.fn.tokens l.id a → AreOfStart atoms l.fn.tokens → AreOfStart (atoms ++ replicate l._copy a) l.tokens)
