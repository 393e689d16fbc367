use Rattle.std.proofs.Common.{rules}
use Rattle.cep_step.proofs.spot.Spot.go.Goals as goal

pub invariant_of-result : goal.invariant_of-result
invariant_of-result c = search rules
