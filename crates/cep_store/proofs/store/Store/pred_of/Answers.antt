use Rattle.cep_store.proofs.Readers.{pred_read}
use Rattle.cep_store.proofs.store.Store.pred_of.Goals as goal

pub returns : goal.returns
returns c = pred_read c.args.self.now c.args.atom c.atom_key.result.now c.atom_key.ensures c.head_in.result c.head_in.ensures
