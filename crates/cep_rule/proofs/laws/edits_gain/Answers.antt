use Rattle.cep_rule.proofs.StepLaws.{edit_gains}
use Rattle.cep_rule.proofs.laws.edits_gain.Goals as goal

pub returns : goal.returns
returns c = edit_gains c.bags_are_lawful.ensures
