use Rattle.std.proofs.Common.{◌≡◌, ◌-◌, ◌^◌, ◌<◌, ◌≤◌}
use Rattle.cep_order.proofs.ready.Ready.new.Given as goal

abbrev pub invariant-loop-leaves : goal.invariant-loop-leaves
invariant-loop-leaves l = record { power : l.leaves ≡ 2 ^ l.height; high : l.height < l.leaves; few : l.leaves ≤ 67108864 }

abbrev pub decreases-loop-leaves : goal.decreases-loop-leaves
decreases-loop-leaves l = l.steps - l.leaves
