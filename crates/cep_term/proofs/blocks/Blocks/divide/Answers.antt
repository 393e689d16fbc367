use Rattle.std.proofs.Common.{◌++◌, ap, add-one}
use Rattle.cep_term.specs.Entries.{entries_of}
use Rattle.cep_term.proofs.BlockEdits.{entries_divided}
use Rattle.cep_term.proofs.blocks.Blocks.divide.Goals as goal

pub returns-clause-same : goal.returns-clause-same
returns-clause-same c =
    let blocks = c.args.self.now in
    let is = rw c.in_ok-reserve.ensures.items at c.index_mut.ensures.value in
    let items = rw (c.in_ok-reserve.ensures.items, add-one c.args.at) at c.in_ok-insert.ensures.items in
    rw items (ap (λ es. entries_of blocks.first.items ++ es) (entries_divided blocks.later.items c.args.at c.index_mut.result.now c.split.new.block c.in_ok-rest.rest c.requires.there is c.in_ok-rest.ensures.parts))
