use Rattle.std.proofs.Common.{◌≡◌, ◌<◌, length}
use Rattle.cep_order.specs.Counts.{IsNearly}
use Rattle.cep_order.proofs.ready.Ready.remove.Given as goal

abbrev pub invariant-loop-node : goal.invariant-loop-node
invariant-loop-node l = record {
  flags : l.self-inside.flags.items ≡ l.initial.self-inside.flags.items;
  nearly : IsNearly l.self-inside.flags.items l.self-inside.counts.items l.self-inside.height l.node 0 1;
  within : l.node < length l.self-inside.counts.items;
}

abbrev pub decreases-loop-node : goal.decreases-loop-node
decreases-loop-node l = l.node
