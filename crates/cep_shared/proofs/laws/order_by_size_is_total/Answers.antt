use Rattle.cep_shared.proofs.SizeOrder.{size_total, size_ties}
use Rattle.cep_shared.proofs.laws.order_by_size_is_total.Goals as goal

pub returns : goal.returns
returns c = record {
  lists = size_total c.order_is_total.ensures.atoms;
  equal_lists = size_ties c.order_is_total.ensures.equal_atoms;
}
