use Rattle.std.proofs.Common.{◌≡◌, ℕ, ◌<◌, ◌≤◌, length, get_or}
use Rattle.cep_order.specs.Counts.{IsNearly}
use Rattle.cep_order.proofs.ready.Ready.insert.Given as goal

abbrev pub invariant-loop-node : goal.invariant-loop-node
invariant-loop-node l = record {
  flags : l.self-inside.flags.items ≡ l.initial.self-inside.flags.items;
  nearly : IsNearly l.self-inside.flags.items l.self-inside.counts.items l.self-inside.height l.node 1 0;
  within : l.node < length l.self-inside.counts.items;
  few : (node : ℕ) → 0 < node → node ≤ l.node → get_or l.self-inside.counts.items node 0 ≤ 67108864;
}

abbrev pub decreases-loop-node : goal.decreases-loop-node
decreases-loop-node l = l.node
