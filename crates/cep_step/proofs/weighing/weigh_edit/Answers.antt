use Rattle.std.proofs.Common.{arith, rules}
use Rattle.cep_step.proofs.Ready.{edit_copies, edit_nodes}
use Rattle.cep_step.proofs.weighing.weigh_edit.Goals as goal

pub overflow_sub-copies : goal.overflow_sub-copies
overflow_sub-copies c = omega (arith, edit_copies c.bags_are_lawful.ensures _ _ _ c.requires.can)

pub overflow_sub-nodes : goal.overflow_sub-nodes
overflow_sub-nodes c = omega (arith, edit_nodes c.bags_are_lawful.ensures _ _ _ c.requires.can)

pub returns-then-nodes-gt-MOST_STATE_NODES : goal.returns-then-nodes-gt-MOST_STATE_NODES
returns-then-nodes-gt-MOST_STATE_NODES c = search rules
