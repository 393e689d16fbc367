use Rattle.cep_source.specs.Kept.{atom_at}
use Rattle.cep_faults.specs.Faults.{pred_faults, node_faults}
use Rattle.cep_faults.proofs.Firsts.{noted_at}
use Rattle.cep_faults.proofs.atoms.names_fault.Goals as goal

pub loop-node-preserved : goal.loop-node-preserved
loop-node-preserved c =
    noted_at (node_faults c.args.source.now c.args.of_state) (pred_faults c.args.source.now (atom_at c.args.atom)) c.args.atom.nodes.now c.loop-node.node-index _ _ _ _ c.loop-node-test.true c.loop-node.invariant
    c.node_fault.ensures c.note-in-loop-node.ensures
