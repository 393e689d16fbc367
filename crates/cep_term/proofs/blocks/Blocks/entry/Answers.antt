use Rattle.std.proofs.lemmas.Grind.{common_steps}
use Rattle.std.proofs.Common.{arith}
use Rattle.std.proofs.lemmas.List.{length-map}
use Rattle.cep_term.specs.Entries.{entry_of, entries_of}
use Rattle.cep_term.proofs.BlockEdits.{entry_here}
use Rattle.cep_term.proofs.blocks.Blocks.entry.Goals as goal

pub returns-then-left-len : goal.returns-then-left-len
returns-then-left-len c =
    let block = c.block-item in
    let blocks = c.args.self.now in
    let items = c.deref-block-items.ensures.value in
    entry_here (entries_of blocks.first.items) blocks.later.items c.loop-block.block-index c.loop-block.left c.args.i block.result c.index-then-left-len.result.now c.requires
    (omega (arith, c.loop-block.invariant, length-map blocks.first.items entry_of)) (rw items at c.loop-block-test.true) (rw items at block.is) (omega (arith, c.if-left-len.true, c.len-in-loop-block.ensures, block.result.ok.0)) c.index-then-left-len.ensures

pub loop-block-preserved : goal.loop-block-preserved
loop-block-preserved c = grind (arith, common_steps)

pub unreachable-requires : goal.unreachable-requires
unreachable-requires c = grind (arith, common_steps)
