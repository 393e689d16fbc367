use Rattle.cep_weigh.proofs.Lined.{one_list, one_first, not_both}
use Rattle.cep_weigh.proofs.laws.one_reading.Goals as goal

pub returns-clause-claims : goal.returns-clause-claims
returns-clause-claims c = λ program bytes one other kept. one_list program kept.named.preds.differ bytes one other

pub returns-clause-fault : goal.returns-clause-fault
returns-clause-fault c = λ program bytes one other kept. one_first program kept.named.preds.differ bytes one other

pub returns-clause-either : goal.returns-clause-either
returns-clause-either c = λ program bytes weights fault kept. not_both program kept.named.preds.differ bytes weights fault
