use Rattle.std.proofs.Common.{subst}
use Rattle.cep_store.specs.Keys.{IsTermKey}
use Rattle.cep_store.proofs.Readers.{term_key_is}
use Rattle.cep_store.proofs.store.Store.term_key.Goals as goal

pub returns : goal.returns
returns c = subst (λ held. IsTermKey held c.args.term c.get.result.now) c.self.view_is (term_key_is c.self.inside.terms c.self.inside.atoms c.self.invariant c.args.term c.get.result.now c.get.ensures)
