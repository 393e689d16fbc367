use Rattle.std.proofs.Common.{rules}
use Rattle.cep_choice.proofs.typed.number.Goals as goal

pub returns-in-Ok-clause-large : goal.returns-in-Ok-clause-large
returns-in-Ok-clause-large c = search rules
