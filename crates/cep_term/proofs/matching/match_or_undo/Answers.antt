use Rattle.std.proofs.Common.{rules}
use Rattle.cep_term.proofs.matching.match_or_undo.Goals as goal

pub returns-in-Ok-true-clause-met : goal.returns-in-Ok-true-clause-met
returns-in-Ok-true-clause-met c = search rules
