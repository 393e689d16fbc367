use Rattle.std.proofs.Common.{arith}
use Rattle.cep_store.proofs.Readers.{term_there, parts_counted, part_read}
use Rattle.cep_store.proofs.store.Store.part_of.Goals as goal

pub term_key-requires : goal.term_key-requires
term_key-requires c = term_there c.args.self.now c.args.term c.args.i c.requires

pub bounds-parts-i : goal.bounds-parts-i
bounds-parts-i c = omega (arith, c.requires, parts_counted c.args.self.now c.args.term c.term_key.result.now c.term_key.ensures c.ids_in-parts.result.now c.ids_in-parts.ensures)

pub returns : goal.returns
returns c = part_read c.args.self.now c.args.term c.term_key.result.now c.term_key.ensures c.ids_in-parts.result.now c.ids_in-parts.ensures c.args.i c.requires
