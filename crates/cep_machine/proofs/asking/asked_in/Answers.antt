use Rattle.std.proofs.Common.{rules, arith}
use Rattle.std.proofs.lemmas.Grind.{common_steps}
use Rattle.cep_machine.proofs.asking.asked_in.Goals as goal

pub returns-else-count-gt0-2-clause-listed : goal.returns-else-count-gt0-2-clause-listed
returns-else-count-gt0-2-clause-listed g c = grind (arith, common_steps)

pub returns-then-count-gt0-clause-listed : goal.returns-then-count-gt0-clause-listed
returns-then-count-gt0-clause-listed g c = search rules

pub returns-then-count-gt0-clause-offers : goal.returns-then-count-gt0-clause-offers
returns-then-count-gt0-clause-offers g c = search rules
