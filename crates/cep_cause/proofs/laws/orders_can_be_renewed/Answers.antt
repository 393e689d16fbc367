use Rattle.cep_cause.proofs.WrittenOrder.{legal_in_order, renewed_in_order, written_is_one, renewal_as_written}
use Rattle.cep_cause.proofs.laws.orders_can_be_renewed.Goals as goal

pub returns-clause-legal : goal.returns-clause-legal
returns-clause-legal c = legal_in_order

pub returns-clause-renewed : goal.returns-clause-renewed
returns-clause-renewed c = renewed_in_order

pub returns-clause-written : goal.returns-clause-written
returns-clause-written c = written_is_one

pub returns-clause-as_written : goal.returns-clause-as_written
returns-clause-as_written c = renewal_as_written
