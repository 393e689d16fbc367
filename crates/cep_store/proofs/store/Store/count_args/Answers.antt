use Rattle.cep_store.proofs.Readers.{args_counted}
use Rattle.cep_store.proofs.store.Store.count_args.Goals as goal

pub returns : goal.returns
returns c = args_counted c.args.self.now c.args.atom c.atom_key.result.now c.atom_key.ensures c.ids_in.result.now c.ids_in.ensures
