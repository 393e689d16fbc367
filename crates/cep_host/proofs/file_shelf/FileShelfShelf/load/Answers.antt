use Rattle.std.proofs.Common.{rules}
use Rattle.cep_host.proofs.file_shelf.FileShelfShelf.load.Goals as goal

pub returns-in-Ok-clause-within : goal.returns-in-Ok-clause-within
returns-in-Ok-clause-within g c = search rules

pub returns-in-Err-2-clause-cause : goal.returns-in-Err-2-clause-cause
returns-in-Err-2-clause-cause g c = search rules
