use Rattle.cep_order.proofs.OneOrder.{one_order}
use Rattle.cep_order.proofs.laws.one_order_for_a_seed.Goals as goal

pub returns : goal.returns
returns c = one_order
