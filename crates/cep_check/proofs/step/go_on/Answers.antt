use Rattle.cep_check.proofs.Verdicts.{stage_cause}
use Rattle.cep_check.proofs.step.go_on.Goals as goal

pub returns-in-Some : goal.returns-in-Some
returns-in-Some c =
    stage_cause c.args.program.now c.args.height c.args.spot c.args.rule.now c.args.step.now c.requires.ready c.requires.in_turn c.in-Within.change (rw c.in-Within.is at c.in_ok-limit.ensures) c.in-Some.cause c.in-Some.ensures
