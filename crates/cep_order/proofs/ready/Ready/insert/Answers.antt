use Rattle.std.proofs.Common.{◌≡◌, ◌+◌, ◌/◌, ◌<◌, Bool, List, true, false, length, get_or, ap, ◌∙◌, arith, refl, length-set}
use Rattle.std.proofs.lemmas.List.{get_or_read, get_or_default}
use Rattle.cep_order.proofs.Trees.{set_counts, counts_few, off_at_leaf, off_above, fewer, none_off}
use Rattle.cep_order.proofs.ready.Ready.insert.Goals as goal

pub loop-node-init : goal.loop-node-init
loop-node-init c =
    let fields = c.self.inside in
    let flags = fields.flags.items in
    let tree = c.self.invariant in
    let size = fields.counts.ok.0 in
    let here : c.args.place < length flags = omega (arith, ap (λ (fs : List Bool). length fs) c.self.view_is, c.requires.within) in
    let off : get_or flags c.args.place false ≡ false = get_or_default flags c.args.place false true here ∙ ap (λ (fs : List Bool). get_or fs c.args.place true) c.self.view_is ∙ c.requires.other in
    record {
      flags = refl;
      nearly = off_at_leaf flags fields.counts.items fields.height c.args.place 1 0 true tree (λ x later. omega (arith, set_counts flags c.args.place x here later off)) (c.len.result / 2 + c.args.place / 64) (omega (arith, tree.size, size, c.len.ensures));
      within = omega (arith, tree.size, tree.room, size, c.len.ensures);
      few = λ node some low. counts_few flags fields.counts.items fields.height tree node some (omega (arith, tree.size, tree.room, size, c.len.ensures));
    }

pub loop-node-preserved : goal.loop-node-preserved
loop-node-preserved c =
    let at = c.loop-node in
    let counts = at.self-inside.counts.items in
    let flags = at.self-inside.flags.items in
    let count = c.index_mut-in-loop-node.result.now + 1 in
    let some = c.loop-node-test.true in
    let read = get_or_read counts at.node _ at.invariant.within c.index_mut-in-loop-node.ensures.value 0 in
    let mends : count + 0 ≡ get_or counts at.node 0 + 1 = omega (arith, read) in
    record {
      flags = at.invariant.flags;
      nearly = off_above flags counts at.self-inside.height at.node 1 0 count some at.invariant.within at.invariant.nearly mends;
      within = omega (arith, at.invariant.within, length-set counts at.node count);
      few = fewer flags counts at.self-inside.height at.node 1 0 count some at.invariant.within at.invariant.nearly mends at.invariant.few;
    }

pub invariant_of-self : goal.invariant_of-self
invariant_of-self c =
    let at = c.loop-node in
    none_off at.self-inside.flags.items at.self-inside.counts.items at.self-inside.height at.node 1 0 (omega arith) at.invariant.nearly

pub overflow_add-index_mut : goal.overflow_add-index_mut
overflow_add-index_mut c =
    let at = c.loop-node in
    let counts = at.self-inside.counts.items in
    let read = get_or_read counts at.node _ at.invariant.within c.index_mut-in-loop-node.ensures.value 0 in
    omega (arith, read, at.invariant.few at.node c.loop-node-test.true (omega arith))
