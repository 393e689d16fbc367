use Rattle.std.proofs.Common.{arith}
use Rattle.std.proofs.lemmas.Grind.{common_steps}
use Rattle.cep_text.specs.Reading.{proof_read}
use Rattle.cep_text.proofs.read_proofs.whole_proof.Goals as goal

pub returns-clause-read : goal.returns-clause-read
unfolding proof_read
returns-clause-read c = grind (arith, common_steps)

pub returns-in_err-d-clause-read : goal.returns-in_err-d-clause-read
unfolding proof_read
returns-in_err-d-clause-read c = grind (arith, common_steps)
