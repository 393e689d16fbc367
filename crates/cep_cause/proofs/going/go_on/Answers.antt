use Rattle.cep_cause.proofs.Walked.{goes_out}
use Rattle.cep_cause.proofs.going.go_on.Goals as goal

pub returns-in-Passes : goal.returns-in-Passes
returns-in-Passes c =
    let weighed = rw c.in-Passes.is at c.in_ok-weigh.ensures in
    goes_out c.args.program.now c.args.step.now c.get-rule.result.now c.args.spot.state c.in-Passes.field-0 (rw c.requires.rule at (rw c.parts.ensures.parts at c.get-rule.ensures)) c.requires.can weighed.0
