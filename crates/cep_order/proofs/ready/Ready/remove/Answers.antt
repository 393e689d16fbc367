use Rattle.std.proofs.Common.{◌≡◌, ◌+◌, ◌-◌, ◌/◌, Bool, List, true, false, get_or, ap, ◌∙◌, arith, refl, length-set}
use Rattle.std.proofs.lemmas.List.{get_or_read}
use Rattle.cep_order.proofs.Trees.{unset_counts, on_within, some_too_many, off_at_leaf, off_above, none_off}
use Rattle.cep_order.proofs.ready.Ready.remove.Goals as goal

pub loop-node-init : goal.loop-node-init
loop-node-init c =
    let fields = c.self.inside in
    let flags = fields.flags.items in
    let tree = c.self.invariant in
    let size = fields.counts.ok.0 in
    let on : get_or flags c.args.place false ≡ true = ap (λ (fs : List Bool). get_or fs c.args.place false) c.self.view_is ∙ c.requires in
    let here = on_within flags c.args.place on in
    record {
      flags = refl;
      nearly = off_at_leaf flags fields.counts.items fields.height c.args.place 0 1 false tree (λ x later. omega (arith, unset_counts flags c.args.place x here later on)) (c.len.result / 2 + c.args.place / 64) (omega (arith, tree.size, size, c.len.ensures));
      within = omega (arith, tree.size, tree.room, size, c.len.ensures);
    }

pub overflow_sub-index_mut : goal.overflow_sub-index_mut
overflow_sub-index_mut c =
    let at = c.loop-node in
    let counts = at.self-inside.counts.items in
    let read = get_or_read counts at.node _ at.invariant.within c.index_mut-in-loop-node.ensures.value 0 in
    omega (arith, read, some_too_many at.self-inside.flags.items counts at.self-inside.height at.node c.loop-node-test.true at.invariant.within at.invariant.nearly)

pub loop-node-preserved : goal.loop-node-preserved
loop-node-preserved c =
    let at = c.loop-node in
    let counts = at.self-inside.counts.items in
    let flags = at.self-inside.flags.items in
    let count = c.index_mut-in-loop-node.result.now - 1 in
    let some = c.loop-node-test.true in
    let read = get_or_read counts at.node _ at.invariant.within c.index_mut-in-loop-node.ensures.value 0 in
    let mends : count + 1 ≡ get_or counts at.node 0 + 0 = omega (arith, read, some_too_many flags counts at.self-inside.height at.node some at.invariant.within at.invariant.nearly) in
    record {
      flags = at.invariant.flags;
      nearly = off_above flags counts at.self-inside.height at.node 0 1 count some at.invariant.within at.invariant.nearly mends;
      within = omega (arith, at.invariant.within, length-set counts at.node count);
    }

pub invariant_of-self : goal.invariant_of-self
invariant_of-self c =
    let at = c.loop-node in
    none_off at.self-inside.flags.items at.self-inside.counts.items at.self-inside.height at.node 0 1 (omega arith) at.invariant.nearly
