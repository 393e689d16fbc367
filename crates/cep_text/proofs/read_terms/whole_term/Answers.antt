use Rattle.cep_text.specs.Reading.{term_read}
use Rattle.std.proofs.Common.{arith}
use Rattle.std.proofs.lemmas.Grind.{common_steps}
use Rattle.cep_text.proofs.read_terms.whole_term.Goals as goal

pub returns : goal.returns
unfolding term_read
returns c = grind (arith, common_steps)

pub returns-in_err-t : goal.returns-in_err-t
unfolding term_read
returns-in_err-t c = grind (arith, common_steps)

pub returns-then-not-is_empty : goal.returns-then-not-is_empty
unfolding term_read
returns-then-not-is_empty c = grind (arith, common_steps)
