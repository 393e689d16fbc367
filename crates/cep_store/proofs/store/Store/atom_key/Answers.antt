use Rattle.std.proofs.Common.{subst}
use Rattle.cep_store.specs.Keys.{IsAtomKey}
use Rattle.cep_store.proofs.Readers.{atom_key_is}
use Rattle.cep_store.proofs.store.Store.atom_key.Goals as goal

pub returns : goal.returns
returns c = subst (λ held. IsAtomKey held c.args.atom c.get.result.now) c.self.view_is (atom_key_is c.self.inside.terms c.self.inside.atoms c.self.invariant c.args.atom c.get.result.now c.get.ensures)
