use Rattle.cep_cause.proofs.Taken.{order_by_is_one, names_earlier}
use Rattle.cep_cause.proofs.laws.orders_by_seeds_are_orders.Goals as goal

pub returns-clause-earlier : goal.returns-clause-earlier
returns-clause-earlier c = names_earlier

pub returns-clause-order : goal.returns-clause-order
returns-clause-order c = order_by_is_one
