use Rattle.cep_check.proofs.Differences.{EnoughBelow}
use Rattle.cep_check.proofs.counts.first_lack.Given as goal

abbrev pub invariant-loop-place : goal.invariant-loop-place
invariant-loop-place l = EnoughBelow l.place l.needed l.state
