use Rattle.std.proofs.Common.{subst}
use Rattle.cep_store.specs.Held.{AreIds}
use Rattle.cep_store.proofs.Readers.{are_ids}
use Rattle.cep_store.proofs.store.Store.terms.Goals as goal

pub returns-clause-ids : goal.returns-clause-ids
returns-clause-ids c = subst AreIds c.self.view_is (are_ids c.self.inside.terms c.self.inside.atoms c.self.invariant)
