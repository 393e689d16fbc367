use Rattle.std.proofs.Common.{ap, ◌∙◌, Some}
use Rattle.cep_players.proofs.BlockedLines.{holds_at, IsOfferOf, step_blocked, step_admitted, end_blocked}
use Rattle.cep_players.proofs.blocked.put_blocked.Goals.{then-not-get+in_ok-put_blocked_line, else-not-get}
use Rattle.cep_players.proofs.blocked.put_blocked.Goals as goal

pub put_blocked_line-requires : goal.put_blocked_line-requires
put_blocked_line-requires c = holds_at (IsOfferOf c.args.program.now) c.args.chosen.now c.loop-i.i c.get-then-not-get.result.now c.requires.offers c.get-then-not-get.ensures

pub loop-i-preserved : goal.loop-i-preserved
loop-i-preserved c = elim c.if-not-get.branch [
  | then-not-get+in_ok-put_blocked_line w ↦ step_blocked c.args.program.now c.args.chosen.now c.args.flags.now c.loop-i.i c.loop-i.out c.loop-i.invariant w.get-then-not-get.result.now w.get-then-not-get.ensures (c.get.ensures ∙ ap Some w.if-not-get.true) w.in_ok-put_blocked_line.ensures w.out-is
  | else-not-get w ↦ step_admitted c.args.program.now c.args.chosen.now c.args.flags.now c.loop-i.i c.loop-i.out c.loop-i.invariant (rw c.len-i-end.ensures at c.loop-i-test.true) (c.get.ensures ∙ ap Some w.if-not-get.false) w.out-is
]

pub returns : goal.returns
returns c = end_blocked c.args.program.now c.args.chosen.now c.args.flags.now c.loop-i.i c.loop-i.out c.loop-i.invariant (rw c.len-i-end.ensures at c.loop-i-test.false)
