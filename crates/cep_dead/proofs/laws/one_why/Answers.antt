use Rattle.std.proofs.Common.{◌≡◌, true}
use Rattle.cep_dead.proofs.Whys.{does_not_pass, same_why}
use Rattle.cep_dead.proofs.laws.one_why.Goals as goal

pub returns-clause-shut : goal.returns-clause-shut
returns-clause-shut c = λ program has rule why is passes. does_not_pass (λ item. has item ≡ true) program rule why is passes

pub returns-clause-one : goal.returns-clause-one
returns-clause-one c = λ program has rule why other is is'. same_why (λ item. has item ≡ true) program rule why other is is'
