use Rattle.std.proofs.Common.{◌≡◌, ◌*◌, take}
use Rattle.std.specs.Prelude.{sum_by}
use Rattle.std.specs.FinMap as finite
use Rattle.cep_term.specs.Tree.{atom_nodes}
use Rattle.cep_step.proofs.counting.nodes_in_state.Given as goal

abbrev pub invariant-loop-i : goal.invariant-loop-i
invariant-loop-i l = l.sum ≡ sum_by (λ e. e.1 * atom_nodes e.0) (take l.i (finite.entries l.state))
