use Rattle.std.proofs.Common.{length}
use Rattle.cep_offer.proofs.order.+order_terms.Given as goal

abbrev pub decreases-order_terms : goal.decreases-order_terms
decreases-order_terms l = length l.terms.now
