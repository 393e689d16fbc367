use Rattle.std.proofs.Common.{arith}
use Rattle.cep_store.proofs.Readers.{atom_there, args_counted, arg_read}
use Rattle.cep_store.proofs.store.Store.arg_of.Goals as goal

pub atom_key-requires : goal.atom_key-requires
atom_key-requires c = atom_there c.args.self.now c.args.atom c.args.i c.requires

pub bounds-args-i : goal.bounds-args-i
bounds-args-i c = omega (arith, c.requires, args_counted c.args.self.now c.args.atom c.atom_key.result.now c.atom_key.ensures c.ids_in-args.result.now c.ids_in-args.ensures)

pub returns : goal.returns
returns c = arg_read c.args.self.now c.args.atom c.atom_key.result.now c.atom_key.ensures c.ids_in-args.result.now c.ids_in-args.ensures c.args.i c.requires
