use Rattle.cep_round.proofs.Rests.{one_flags, one_together, leaves_rest}
use Rattle.cep_round.proofs.laws.one_state_after_a_round.Goals as goal

pub returns-clause-flags : goal.returns-clause-flags
returns-clause-flags c = one_flags

pub returns-clause-state : goal.returns-clause-state
returns-clause-state c = one_together c.steps_are_lawful.ensures.bags

pub returns-clause-rest : goal.returns-clause-rest
returns-clause-rest c = λ program height offers old new kept. leaves_rest c.steps_are_lawful.ensures program kept height offers old new
