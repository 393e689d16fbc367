use Rattle.std.proofs.Common.{refl}
use Rattle.cep_store.specs.Keys.{terms_by}
use Rattle.cep_store.proofs.Storing.{keys_none}
use Rattle.cep_store.proofs.store.Store.new.Goals as goal

pub invariant_of-result : goal.invariant_of-result
invariant_of-result c = rw (c.new.ensures, c.new-2.ensures) keys_none

pub returns-clause-terms : goal.returns-clause-terms
unfolding terms_by
returns-clause-terms c = rw c.new.ensures refl
