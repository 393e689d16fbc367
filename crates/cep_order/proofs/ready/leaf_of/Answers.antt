use Rattle.std.proofs.Common.{◌+◌, ◌-◌, arith}
use Rattle.std.proofs.lemmas.Nat.{pow_pos}
use Rattle.std.proofs.Math.Nat.{le-mul_of_pos_right}
use Rattle.cep_order.proofs.Trees.{down_first, down_left, down_right, half, halves}
use Rattle.cep_order.proofs.ready.leaf_of.Goals as goal

pub loop-levels-init : goal.loop-levels-init
loop-levels-init c = record {
  some = omega arith;
  low = omega arith;
  high = omega arith;
  down = λ flags tree few. down_first flags c.args.counts.now c.args.height c.args.k tree few;
}

pub bounds-counts-node : goal.bounds-counts-node
bounds-counts-node c =
    let at = c.loop-levels in
    let below = at.levels - 1 in
    omega (arith, c.requires, at.invariant.high, half at.levels below at.node (omega arith), halves at.levels below at.node (omega arith), le-mul_of_pos_right (at.node + 1) (pow_pos below))

pub loop-levels-preserved-then-left-count : goal.loop-levels-preserved-then-left-count
loop-levels-preserved-then-left-count c =
    let at = c.loop-levels in
    let below = at.levels - 1 in
    let twice = half at.levels below at.node (omega arith) in
    let here = halves at.levels below at.node (omega arith) in
    record {
      some = omega arith;
      low = omega (arith, at.invariant.low, here);
      high = omega (arith, at.invariant.high, here, twice);
      down = λ flags tree few.
          down_right flags c.args.counts.now c.args.height c.args.k tree at.levels below at.node at.left (omega arith) at.invariant.some at.invariant.low at.invariant.high (at.invariant.down flags tree few) c.if-left-count.true;
    }

pub loop-levels-preserved : goal.loop-levels-preserved
loop-levels-preserved c =
    let at = c.loop-levels in
    let below = at.levels - 1 in
    let twice = half at.levels below at.node (omega arith) in
    let here = halves at.levels below at.node (omega arith) in
    record {
      some = omega (arith, at.invariant.some);
      low = omega (arith, at.invariant.low, here);
      high = omega (arith, at.invariant.high, here, twice, pow_pos below);
      down = λ flags tree few.
          down_left flags c.args.counts.now c.args.height c.args.k tree at.levels below at.node at.left (omega arith) at.invariant.some at.invariant.low at.invariant.high (at.invariant.down flags tree few) c.if-left-count.false;
    }
