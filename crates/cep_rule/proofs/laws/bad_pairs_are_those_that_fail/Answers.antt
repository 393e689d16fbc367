use Rattle.cep_rule.proofs.GroundLaws.{bad_fails, fails_bad}
use Rattle.cep_rule.proofs.laws.bad_pairs_are_those_that_fail.Goals as goal

pub returns : goal.returns
returns c = λ clauses pred positions. (bad_fails clauses pred positions, fails_bad clauses pred positions)
