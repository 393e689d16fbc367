use Rattle.std.proofs.Common.{◌≡◌, ◌+◌, length, take}
use Rattle.cep_term.specs.Entries.{later_entries}
use Rattle.cep_term.proofs.blocks.Blocks.entry.Given as goal

abbrev pub invariant-loop-block : goal.invariant-loop-block
invariant-loop-block l = l.i ≡ length l.self.first.items + (length (later_entries (take l.block-index l.self.later.items)) + l.left)
