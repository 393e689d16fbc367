use Rattle.std.proofs.Common.{arith, rules}
use Rattle.cep_check.proofs.Differences.{lacks_here, enough_all}
use Rattle.cep_check.proofs.counts.first_lack.Goals as goal

pub returns-then-have-need : goal.returns-then-have-need
returns-then-have-need c = lacks_here c.bags_are_lawful.ensures _ _ c.loop-place.place _ _ _ c.entry-need.ensures c.count-have.ensures c.if-have-need.true c.loop-place.invariant

pub returns : goal.returns
returns c = enough_all c.bags_are_lawful.ensures _ _ c.loop-place.place (omega arith) c.loop-place.invariant

pub loop-place-init : goal.loop-place-init
loop-place-init c = search rules
