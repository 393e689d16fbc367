use Rattle.std.proofs.Common.{◌≡◌, ◌≤◌, ◌*◌, take}
use Rattle.std.specs.Prelude.{sum_by}
use Rattle.cep_base.specs.declared.limits.TheConstants.{MOST_NODES}
use Rattle.cep_term.specs.Tree.{atom_nodes}
use Rattle.cep_step.proofs.weighing.nodes_in.Given as goal

abbrev pub invariant-loop-i : goal.invariant-loop-i
invariant-loop-i l = record {
  so_far : l.sum ≡ sum_by atom_nodes (take l.i l.atoms);
  few : l.sum ≤ l.i * MOST_NODES;
}
