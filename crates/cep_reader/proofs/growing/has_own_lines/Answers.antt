use Rattle.std.proofs.Common.{rules}
use Rattle.cep_reader.proofs.growing.has_own_lines.Goals as goal

pub returns-else-is_none : goal.returns-else-is_none
returns-else-is_none c = search rules
