use Rattle.cep_round.proofs.Admitted.{one_admitted, one_blocked}
use Rattle.cep_round.proofs.laws.flags_grow.Goals as goal

pub returns-clause-admitted : goal.returns-clause-admitted
returns-clause-admitted c = λ program state used offers flags offer. one_admitted program state offer used offers flags

pub returns-clause-blocked : goal.returns-clause-blocked
returns-clause-blocked c = λ program state used offers flags offer. one_blocked program state offer used offers flags
