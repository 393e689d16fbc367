use Rattle.std.proofs.Common.{take, length, arith}
use Rattle.cep_ground.specs.Earliest.{marked_among, all_marked}
use Rattle.cep_ground.proofs.OneAnswer.{marked_next, marked_whole, lesser_within}
use Rattle.cep_ground.proofs.places.earliest_of_marked.Goals as goal

pub loop-i-preserved : goal.loop-i-preserved
loop-i-preserved c =
    rw (marked_next c.args.lists.now c.args.marks.now c.loop-i.i c.get.result.now c.get-in-loop-i.result.now c.get.ensures c.get-in-loop-i.ensures)
    (c.earlier-first.ensures (all_marked (take c.loop-i.i c.args.lists.now) (take c.loop-i.i c.args.marks.now)) (marked_among c.get.result.now c.get-in-loop-i.result.now) c.loop-i.invariant
    (rw c.as_slice-in-loop-i.ensures at (rw c.as_slice.ensures at c.earliest_marked-here.ensures)))

pub returns : goal.returns
returns c =
    rw (marked_whole c.loop-i.i c.args.lists.now c.args.marks.now (lesser_within (length c.args.lists.now) (length c.args.marks.now) c.loop-i.i (omega (arith, c.min-i-end.ensures, c.len.ensures, c.len-2.ensures, c.loop-i-test.false))))
    at c.loop-i.invariant
