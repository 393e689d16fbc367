use Rattle.std.proofs.Common.{arith}
use Rattle.std.proofs.lemmas.Grind.{common_steps}
use Rattle.cep_fakes.proofs.Holdings.{holdings}
use Rattle.cep_fakes.proofs.memory_shelf.MemShelfShelf.load.Goals as goal

pub returns-in_ok-push-in-Some-clause-whole : goal.returns-in_ok-push-in-Some-clause-whole
returns-in_ok-push-in-Some-clause-whole c = grind (arith, holdings)

pub returns-in_ok-push-in-Some-clause-longer : goal.returns-in_ok-push-in-Some-clause-longer
returns-in_ok-push-in-Some-clause-longer c = grind (arith, holdings)

pub returns-in_ok-push-in-Some-clause-asked : goal.returns-in_ok-push-in-Some-clause-asked
returns-in_ok-push-in-Some-clause-asked c = grind (arith, common_steps)

pub returns-in_ok-push-in_default-clause-asked : goal.returns-in_ok-push-in_default-clause-asked
returns-in_ok-push-in_default-clause-asked c = grind (arith, common_steps)

pub returns-in_ok-push-in_default-clause-calls : goal.returns-in_ok-push-in_default-clause-calls
returns-in_ok-push-in_default-clause-calls c = grind (arith, holdings)
