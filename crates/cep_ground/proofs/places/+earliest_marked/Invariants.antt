use Rattle.std.proofs.Common.{length}
use Rattle.cep_ground.proofs.places.+earliest_marked.Given as goal

abbrev pub decreases-earliest_marked : goal.decreases-earliest_marked
decreases-earliest_marked l = length l.places.now
