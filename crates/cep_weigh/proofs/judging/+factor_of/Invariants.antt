use Rattle.std.proofs.Common.{length}
use Rattle.cep_weigh.proofs.judging.+factor_of.Given as goal

abbrev pub decreases-factor_of : goal.decreases-factor_of
decreases-factor_of l = length l.parts.now
