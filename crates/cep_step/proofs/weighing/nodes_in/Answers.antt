use Rattle.std.proofs.Common.{arith}
use Rattle.cep_base.proofs.Lists.{holds_at}
use Rattle.cep_term.specs.Tree.{IsFit}
use Rattle.cep_step.proofs.Ready.{nodes_next}
use Rattle.cep_step.proofs.weighing.nodes_in.Goals as goal

pub loop-i-preserved : goal.loop-i-preserved
loop-i-preserved c = grind (arith, nodes_next c.args.atoms.now _ _ _ _ c.loop-i.invariant.so_far c.get.ensures c.nodes-sum.ensures, holds_at IsFit c.args.atoms.now _ _ c.requires.fit c.get.ensures)
