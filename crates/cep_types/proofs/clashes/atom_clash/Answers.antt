use Rattle.std.proofs.Common.{[], ◌∙◌, ◌+◌, map, drop}
use Rattle.cep_source.specs.Items.{said}
use Rattle.cep_types.specs.Clashes.{clash_of}
use Rattle.cep_types.specs.Met.{type_met}
use Rattle.cep_types.proofs.Meeting.{clash_more, clash_over}
use Rattle.cep_types.proofs.clashes.atom_clash.Goals as goal

pub loop-node-preserved : goal.loop-node-preserved
loop-node-preserved c =
    let source = c.args.source.now in
    let f = clash_of source (type_met source c.args.variables.now.firsts) in
    let nodes = c.args.atom.nodes.now in
    clash_more source f _ nodes c.loop-node.node-index _ (map (said source) c.loop-node.pending) (map (said source) c.site.new.pending) (said source c.in-Some.site.wants) c.loop-node.first c.clash.result c.note.new.self c.loop-node-test.true
    (rw c.in-Some.is at (c.in_ok-site.ensures.wants (drop (c.loop-node.node-index + 1) nodes))) c.loop-node.invariant c.clash.ensures c.note.ensures

pub loop-node-preserved-in_default : goal.loop-node-preserved-in_default
loop-node-preserved-in_default c = let none = rw c.in_default.is at (c.in_ok-site.ensures.wants []) in rw none.1 (rw none.0 at c.loop-node.invariant)

pub returns : goal.returns
returns c =
    let source = c.args.source.now in
    let f = clash_of source (type_met source c.args.variables.now.firsts) in
    rw (← c.in_ok-pending.ensures) (c.found.ensures ∙ clash_over source f _ c.args.atom.nodes.now c.loop-node.node-index (map (said source) c.loop-node.pending) c.loop-node.first c.loop-node-test.false c.loop-node.invariant)
