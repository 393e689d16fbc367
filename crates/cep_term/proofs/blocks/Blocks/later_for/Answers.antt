use Rattle.std.proofs.Common.{rules}
use Rattle.std.proofs.lemmas.Fn.{always_returns_same}
use Rattle.cep_term.specs.Tree.{atom_of}
use Rattle.cep_term.specs.Entries.{entries_of, later_entries, begins_by}
use Rattle.cep_term.proofs.BlockEdits.{rising_both, partitioned, chosen}
use Rattle.cep_term.proofs.blocks.Blocks.later_for.Goals as goal

-- the closure asks of a block how it begins, and changes nothing
pub returns : goal.returns
returns c =
    let blocks = c.args.self.now in
    let later = blocks.later.items in
    let atom = atom_of c.args.a.now in
    let ends = partitioned later atom c.requires.filled (rising_both (entries_of blocks.first.items) (later_entries later) c.requires.rising).1 in
    let facts = rw c.deref.ensures.value at c.partition_point.ensures in
    let begun = facts.partitioned (λ block. begins_by (entries_of block.items) atom) (always_returns_same _ _ _ (λ a r f called. search rules)) ends in
    chosen blocks atom c.partition_point.result c.checked_sub.result c.requires.filled c.requires.rising facts.bound begun c.checked_sub.ensures
