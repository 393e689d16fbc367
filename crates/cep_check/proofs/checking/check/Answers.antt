use Rattle.std.proofs.Common.{◌↔◌}
use Rattle.std.proofs.lemmas.Result.{IfOk-weaker}
use Rattle.std.specs.Prelude.{ℕ}
use Rattle.cep_rule.specs.declared.parts.Parts.{Parts}
use Rattle.cep_log.specs.declared.log.Log.{Log}
use Rattle.cep_log.specs.Legal.{IsLegal}
use Rattle.cep_check.specs.Causes.{AcceptsLog, IsLogRefused, IsVerdict}
use Rattle.cep_check.specs.declared.cause.Cause.{Cause}
use Rattle.cep_check.specs.declared.cause.Verdict.{Verdict}
use Rattle.cep_check.specs.declared.cause.Verdict.TheVariants.{Accepted, Refused}
use Rattle.cep_check.proofs.checking.check.Goals as goal

by_law : (program : Parts) (log : Log) → ((line : ℕ) (cause : Cause) → IsLogRefused program log line cause → IsLegal program log → ⊥) → (verdict : Verdict) → IsVerdict program log verdict → AcceptsLog verdict ↔ IsLegal program log
by_law program log clash (Accepted steps) is = ((λ accepted. is.0), (λ legal. tt))
by_law program log clash (Refused line cause) is = ((λ accepted. absurd accepted), (λ legal. clash line cause is legal))

pub returns-clause-accepted : goal.returns-clause-accepted
returns-clause-accepted g c = IfOk-weaker c.judge.result _ _
    (λ verdict is. by_law c.args.program.now c.args.log.now (c.refused_logs_are_not_legal.ensures c.args.program.now c.args.log.now) verdict is)
    c.judge.ensures.verdict

pub returns-clause-tellable : goal.returns-clause-tellable
returns-clause-tellable g c = IfOk-weaker c.judge.result _ _
    (λ verdict is. c.verdicts_can_be_told.ensures c.args.log.now verdict c.requires is)
    c.judge.ensures.verdict
