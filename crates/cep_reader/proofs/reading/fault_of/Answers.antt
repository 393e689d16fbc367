use Rattle.std.proofs.Common.{rules}
use Rattle.cep_reader.proofs.reading.fault_of.Goals as goal

pub returns-then-names_no_rule : goal.returns-then-names_no_rule
returns-then-names_no_rule c = search rules
