use Rattle.cep_cause.proofs.Renewed.{renewal_in_order}
use Rattle.cep_cause.proofs.laws.reorderings_can_be_told.Goals as goal

pub returns : goal.returns
returns c = renewal_in_order c.causes_are_lawful.ensures
