use Rattle.cep_weigh.proofs.Factors.{left_factors, weighed_factors}
use Rattle.cep_weigh.proofs.laws.sums_add_factors.Goals as goal

pub returns-clause-left : goal.returns-clause-left
returns-clause-left c = λ parts rule. left_factors parts rule.premises

pub returns-clause-right : goal.returns-clause-right
returns-clause-right c = λ parts rule. weighed_factors (λ a. a.pred) parts rule.right
