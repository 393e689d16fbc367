use Rattle.std.proofs.Common.{rules}
use Rattle.cep_lines.proofs.version.Version.lists.Goals as goal

pub returns-in-Two : goal.returns-in-Two
returns-in-Two c = search rules
