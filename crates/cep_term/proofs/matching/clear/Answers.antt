use Rattle.std.proofs.Common.{rules}
use Rattle.cep_term.proofs.matching.clear.Goals as goal

pub returns : goal.returns
returns c = search rules
