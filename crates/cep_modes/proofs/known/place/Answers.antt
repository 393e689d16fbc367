use Rattle.std.proofs.Common.{rules}
use Rattle.cep_modes.proofs.known.place.Goals as goal

pub returns : goal.returns
returns c = search rules
