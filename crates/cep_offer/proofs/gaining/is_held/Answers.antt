use Rattle.std.proofs.Common.{rules}
use Rattle.cep_offer.proofs.gaining.is_held.Goals as goal

pub returns-else-count-gt0 : goal.returns-else-count-gt0
returns-else-count-gt0 c = search rules
