use Rattle.std.proofs.Common.{◌≡◌, ◌+◌, length, drop}
use Rattle.cep_term.specs.Entries.{entries_in, later_entries}
use Rattle.cep_term.proofs.blocks.Blocks.len.Given as goal

abbrev pub invariant-loop-block : goal.invariant-loop-block
invariant-loop-block l = l.len + length (later_entries (drop l.block-index l.self.later.items)) ≡ length (entries_in l.self)
