use Rattle.std.proofs.Common.{◌+◌, ◌≡◌, length, arith}
use Rattle.std.proofs.lemmas.List.FromFn.{map-range_with_len_more}
use Rattle.cep_cause.proofs.WrittenOrder.{counts_steps}
use Rattle.cep_cause.proofs.renewing.written_order.Goals as goal

pub loop-i-preserved : goal.loop-i-preserved
loop-i-preserved c = grind (arith, map-range_with_len_more (λ i. i + 1) 0 c.loop-i.i c.loop-i.i)

pub returns : goal.returns
returns c =
    let all : c.loop-i.i ≡ length c.args.log.now.steps = grind arith in
    counts_steps c.args.log.now.steps c.loop-i.order (rw all at c.loop-i.invariant)
