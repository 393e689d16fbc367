use Rattle.cep_rule.proofs.Copies.{offer_cmp_total, offer_cmp_ties}
use Rattle.cep_rule.proofs.laws.offers_have_one_order.Goals as goal

pub returns : goal.returns
returns c = record {
  total = offer_cmp_total c.order_is_total.ensures.terms;
  ties = offer_cmp_ties c.order_is_total.ensures.terms c.order_is_total.ensures.equal_terms;
}
