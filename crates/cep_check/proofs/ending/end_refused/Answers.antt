use Rattle.std.proofs.Common.{rules}
use Rattle.cep_check.proofs.ending.end_refused.Goals as goal

pub returns-in-Some-clause-cause : goal.returns-in-Some-clause-cause
returns-in-Some-clause-cause g c = search rules

pub returns-in-None-clause-cause : goal.returns-in-None-clause-cause
returns-in-None-clause-cause g c = search rules

pub returns-in_ok-copy-in-Some-first_difference-clause-cause :
    goal.returns-in_ok-copy-in-Some-first_difference-clause-cause
returns-in_ok-copy-in-Some-first_difference-clause-cause g c = search rules
