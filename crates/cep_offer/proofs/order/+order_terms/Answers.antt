use Rattle.std.proofs.Common.{rules}
use Rattle.cep_offer.proofs.order.+order_terms.Goals as goal

pub returns-in_default : goal.returns-in_default
returns-in_default t c = search rules
