use Rattle.cep_store.proofs.store.Store.args.Goals as goal

pub returns-clause-ids : goal.returns-clause-ids
returns-clause-ids c = c.atom_key-atom_key.ensures.ids
