use Rattle.cep_store.proofs.Readers.{head_read}
use Rattle.cep_store.proofs.store.Store.head_of.Goals as goal

pub returns : goal.returns
returns c = head_read c.args.self.now c.args.term c.term_key-key.result.now c.term_key-key.ensures c.head_in.result c.head_in.ensures
