use Rattle.std.proofs.Common.{rules}
use Rattle.cep_choice.proofs.draw.place_by.Goals as goal

pub returns-clause-place : goal.returns-clause-place
returns-clause-place c = search rules
