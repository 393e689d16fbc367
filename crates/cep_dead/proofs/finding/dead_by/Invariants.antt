use Rattle.cep_dead.proofs.Whys.{AreDeadsBelow}
use Rattle.cep_dead.proofs.finding.dead_by.Given as goal

abbrev pub invariant-loop-i : goal.invariant-loop-i
invariant-loop-i l = AreDeadsBelow l.program l.i l.deads
