use Rattle.cep_modes.specs.Leading.{here}
use Rattle.cep_modes.proofs.Deciding.{led_by_led}
use Rattle.cep_modes.proofs.marks.spread.Goals as goal

pub loop-init : goal.loop-init
loop-init c = record { kept = λ n h. h; led = λ n h. here n h }

pub loop-preserved : goal.loop-preserved
loop-preserved c = record {
  kept = λ n h. c.pass.ensures.kept n (c.loop.invariant.kept n h);
  led = λ n h. led_by_led c.args.calls.now c.args.marked.now c.loop.marked c.loop.invariant.led n (c.pass.ensures.led n h);
}

pub returns-clause-led : goal.returns-clause-led
returns-clause-led c n h = led_by_led c.args.calls.now c.args.marked.now c.loop.marked c.loop.invariant.led n (c.pass.ensures.led n h)
