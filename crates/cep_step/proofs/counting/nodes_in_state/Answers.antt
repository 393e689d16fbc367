use Rattle.std.proofs.Common.{◌+◌, arith}
use Rattle.std.specs.FinMap.{len-entries}
use Rattle.std.specs.FinMap as finite
use Rattle.std.proofs.lemmas.List.{take_all}
use Rattle.std.proofs.lemmas.List.Sums.{sum_by-take-le}
use Rattle.cep_step.proofs.Entries.{entry_nodes, next_entry, atom_within}
use Rattle.cep_step.proofs.counting.nodes_in_state.Goals as goal

pub nodes-requires : goal.nodes-requires
nodes-requires c = grind (arith, c.requires.nodes, atom_within)

pub overflow_mul-sum : goal.overflow_mul-sum
overflow_mul-sum c = grind (arith, c.requires.nodes, next_entry _ _ _ _ c.entry-copies.ensures, sum_by-take-le entry_nodes (finite.entries c.args.state.now) (c.loop-i.i + 1))

pub overflow_add-sum : goal.overflow_add-sum
overflow_add-sum c = grind (arith, c.requires.nodes, next_entry _ _ _ _ c.entry-copies.ensures, sum_by-take-le entry_nodes (finite.entries c.args.state.now) (c.loop-i.i + 1))

pub loop-i-preserved : goal.loop-i-preserved
loop-i-preserved c = grind (arith, next_entry _ _ _ _ c.entry-copies.ensures)

pub returns : goal.returns
returns c = grind (arith, take_all, len-entries)
