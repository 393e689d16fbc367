use Rattle.std.proofs.Common.{◌≡◌, take}
use Rattle.cep_term.specs.Entries.{later_entries, HaveEntries}
use Rattle.cep_term.proofs.blocks.Blocks.copy.Given as goal

abbrev pub invariant-loop-block : goal.invariant-loop-block
invariant-loop-block l = record {
  same : later_entries l.later.items ≡ later_entries (take l.block-index l.self.later.items);
  filled : HaveEntries l.later.items;
}
