use Rattle.cep_cause.proofs.Central.{legal_or_unfit, one_unfit}
use Rattle.cep_cause.proofs.laws.steps_come_to_one_outcome.Goals as goal

pub returns-clause-not_both : goal.returns-clause-not_both
returns-clause-not_both c = λ program height old last steps number legal. λ is. legal_or_unfit c.causes_are_lawful.ensures program height old last steps number legal is

pub returns-clause-one : goal.returns-clause-one
returns-clause-one c = λ program height old steps number number' is is'. one_unfit c.causes_are_lawful.ensures program height old steps number number' is is'
