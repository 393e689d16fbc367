use Rattle.std.proofs.Common.{arith}
use Rattle.std.proofs.lemmas.Grind.{common_steps}
use Rattle.cep_term.proofs.binding.+under.Goals as goal

pub term_under-returns-in-Some-Some : goal.term_under-returns-in-Some-Some
term_under-returns-in-Some-Some t c = grind (arith, common_steps)

pub term_under-returns-in_default : goal.term_under-returns-in_default
term_under-returns-in_default t c = grind (arith, common_steps)
