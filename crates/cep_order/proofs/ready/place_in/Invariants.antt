use Rattle.std.proofs.Common.{◌≡◌, ◌+◌, ◌-◌, length}
use Rattle.cep_order.specs.Flags.{set_before}
use Rattle.cep_order.proofs.ready.place_in.Given as goal

abbrev pub invariant-loop-left : goal.invariant-loop-left
invariant-loop-left l = set_before l.flags l.place + l.left ≡ set_before l.flags l.from + l.k

abbrev pub decreases-loop-left : goal.decreases-loop-left
decreases-loop-left l = length l.flags - l.place
