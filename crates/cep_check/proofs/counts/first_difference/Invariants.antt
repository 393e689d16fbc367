use Rattle.cep_check.specs.Places.{AgreeBelow}
use Rattle.cep_check.proofs.counts.first_difference.Given as goal

abbrev pub invariant-loop-place : goal.invariant-loop-place
invariant-loop-place l = AgreeBelow l.place l.listing l.state
