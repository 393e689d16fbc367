use Rattle.std.proofs.Common.{◌-◌, length}
use Rattle.cep_graph.proofs.taking.Taking.+take.Given as goal

abbrev pub decreases-take : goal.decreases-take
decreases-take l = length l.premises.now - l.i
