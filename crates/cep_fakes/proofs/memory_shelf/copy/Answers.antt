use Rattle.std.proofs.Common.{rules}
use Rattle.cep_fakes.proofs.memory_shelf.copy.Goals as goal

pub returns-then-file-most-clause-within : goal.returns-then-file-most-clause-within
returns-then-file-most-clause-within c = search rules
