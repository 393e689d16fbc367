use Rattle.cep_rule.proofs.Copies.{one_offers}
use Rattle.cep_rule.proofs.laws.one_list_of_offers.Goals as goal

pub returns : goal.returns
returns c = one_offers c.order_is_total.ensures.terms
