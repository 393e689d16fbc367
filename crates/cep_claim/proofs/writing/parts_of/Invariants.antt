use Rattle.std.proofs.Common.{length, map}
use Rattle.cep_claim.proofs.Parted.{PartsSoFar}
use Rattle.cep_claim.proofs.writing.parts_of.Given as goal

abbrev pub invariant-loop-rest : goal.invariant-loop-rest
invariant-loop-rest l = PartsSoFar (map (λ word. word.now) l.fn.words) l.parts (map (λ word. word.now) l.rest)

abbrev pub decreases-loop-rest : goal.decreases-loop-rest
decreases-loop-rest l = length l.rest
