use Rattle.std.proofs.Common.{rules}
use Rattle.cep_reader.proofs.growing.with_own.Goals as goal

pub returns : goal.returns
returns c = search rules
