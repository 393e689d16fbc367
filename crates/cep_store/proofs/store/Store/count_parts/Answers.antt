use Rattle.cep_store.proofs.Readers.{parts_counted}
use Rattle.cep_store.proofs.store.Store.count_parts.Goals as goal

pub returns : goal.returns
returns c = parts_counted c.args.self.now c.args.term c.term_key.result.now c.term_key.ensures c.ids_in.result.now c.ids_in.ensures
