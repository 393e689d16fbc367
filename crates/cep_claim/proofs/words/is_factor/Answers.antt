use Rattle.std.proofs.Common.{rules}
use Rattle.cep_claim.proofs.words.is_factor.Goals as goal

pub returns-then-number : goal.returns-then-number
returns-then-number c = search rules
