use Rattle.cep_check.proofs.Verdicts.{mid_cause}
use Rattle.cep_check.proofs.step.change.Goals as goal

pub mid_cause-requires : goal.mid_cause-requires
mid_cause-requires c = (c.args.program.now.signature, c.requires.ready.listing)

pub returns-in-Some : goal.returns-in-Some
returns-in-Some c =
    let done = rw c.in-Ok.is at c.in_ok-new.ensures in
    mid_cause c.args.program.now c.args.height c.args.spot c.in-Ok.new c.args.rule.now c.args.step.now c.in-Some.cause done.0 (rw c.state.ensures.state at (rw c.in-Some.is at c.in_ok-mid_cause.ensures))
