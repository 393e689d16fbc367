use Rattle.std.proofs.Common.{◌+◌, ◌-◌, length}
use Rattle.cep_order.specs.Taking.{missing, IsSoFar}
use Rattle.cep_order.proofs.ordering.order_by.Given as goal

abbrev pub invariant-loop-ready : goal.invariant-loop-ready
invariant-loop-ready l = IsSoFar l.seed l.entries l.waits l.ready l.draw l.order l.end

abbrev pub decreases-loop-ready : goal.decreases-loop-ready
decreases-loop-ready l = (length l.entries - l.end) + missing (length l.entries) l.order
