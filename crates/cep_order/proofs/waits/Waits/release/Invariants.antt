use Rattle.cep_order.proofs.Releasing.{IsReleasing}
use Rattle.cep_order.proofs.waits.Waits.release.Given as goal

abbrev pub invariant-loop-from : goal.invariant-loop-from
invariant-loop-from l = IsReleasing l.initial.self l.self l.initial.ready l.ready l.place l.end l.from

abbrev pub decreases-loop-from : goal.decreases-loop-from
decreases-loop-from l = l.from
