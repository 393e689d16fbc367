use Rattle.cep_modes.proofs.Numbering.{none_known}
use Rattle.cep_modes.proofs.known.unknown.Goals as goal

pub returns : goal.returns
returns c = search none_known
