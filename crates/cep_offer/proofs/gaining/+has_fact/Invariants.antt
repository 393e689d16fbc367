use Rattle.std.proofs.Common.{length}
use Rattle.cep_offer.proofs.gaining.+has_fact.Given as goal

abbrev pub decreases-has_fact : goal.decreases-has_fact
decreases-has_fact l = length l.atoms.now
