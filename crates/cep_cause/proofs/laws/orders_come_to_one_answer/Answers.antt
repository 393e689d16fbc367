use Rattle.cep_cause.proofs.WrittenOrder.{one_answer}
use Rattle.cep_cause.proofs.laws.orders_come_to_one_answer.Goals as goal

pub returns : goal.returns
returns c = one_answer c.causes_are_lawful.ensures c.renewals_have_one_text.ensures
