use Rattle.cep_round.proofs.Admitted.{facts_there, copies_there}
use Rattle.cep_round.proofs.laws.copies_block_and_facts_do_not.Goals as goal

pub returns-clause-facts : goal.returns-clause-facts
returns-clause-facts c = facts_there c.bags_are_lawful.ensures

pub returns-clause-copies : goal.returns-clause-copies
returns-clause-copies c = copies_there c.bags_are_lawful.ensures
