use Rattle.std.proofs.Common.{rules}
use Rattle.cep_base.proofs.first_names.FirstNames.add.Goals as goal

pub returns-then-has_name-clause-new : goal.returns-then-has_name-clause-new
returns-then-has_name-clause-new g c = search rules

pub returns-then-has_name-clause-entries : goal.returns-then-has_name-clause-entries
returns-then-has_name-clause-entries g c = search rules

pub returns-in_err-push-clause-err : goal.returns-in_err-push-clause-err
returns-in_err-push-clause-err g c = search rules

pub returns-clause-new : goal.returns-clause-new
returns-clause-new g c = search rules

pub returns-clause-entries : goal.returns-clause-entries
returns-clause-entries g c = search rules
