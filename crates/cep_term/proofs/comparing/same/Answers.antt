use Rattle.cep_term.proofs.OrderLaws.{same_by_cmp}
use Rattle.cep_term.proofs.comparing.same.Goals as goal

pub returns : goal.returns
returns c = same_by_cmp _ _ _ _ c.order.ensures c.is_eq.ensures
