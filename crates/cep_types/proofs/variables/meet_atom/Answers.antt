use Rattle.std.proofs.Common.{List, [], ℕ, ◌+◌, ◌∙◌, map, drop, sym, ap}
use Rattle.cep_source.specs.Items.{said}
use Rattle.cep_source.specs.Kept.{atom_at}
use Rattle.cep_types.specs.Sites.{sites_from}
use Rattle.cep_types.proofs.Meeting.{closed_met, meeting_more, meeting_over}
use Rattle.cep_types.proofs.variables.meet_atom.Goals as goal

pub returns-then-not-has_variable : goal.returns-then-not-has_variable
returns-then-not-has_variable c = closed_met c.args.source.now (atom_at c.args.atom) c.args.variables.now (sym c.has_variable.ensures ∙ c.if-not-has_variable.true)

pub loop-node-preserved : goal.loop-node-preserved
loop-node-preserved c =
    let source = c.args.source.now in
    let nodes = c.args.atom.nodes.now in
    meeting_more source (sites_from source (map (said source) c.in_ok-pending.pending) nodes) c.args.variables.now c.loop-node.variables c.meet.new.self
    (map (said source) c.loop-node.pending) (map (said source) c.site.new.pending) nodes c.loop-node.node-index _ c.in-Some.site.wants c.loop-node-test.true
    (rw c.in-Some.is at (c.in_ok-site.ensures.wants (drop (c.loop-node.node-index + 1) nodes))) c.in_ok-meet.ensures c.loop-node.invariant

pub loop-node-preserved-in_default : goal.loop-node-preserved-in_default
loop-node-preserved-in_default c = let none = rw c.in_default.is at (c.in_ok-site.ensures.wants []) in rw none.1 (rw none.0 at c.loop-node.invariant)

pub returns : goal.returns
returns c =
    let source = c.args.source.now in
    meeting_over source (atom_at c.args.atom) (map (said source) c.in_ok-pending.pending) c.args.variables.now c.loop-node.variables (map (said source) c.loop-node.pending) c.loop-node.node-index
    (ap (λ (types : List (List ℕ)). sites_from source types c.args.atom.nodes.now) c.in_ok-pending.ensures) c.loop-node-test.false c.loop-node.invariant
