use Rattle.cep_cause.proofs.NextRules.{AreRulesTo}
use Rattle.cep_cause.proofs.ahead.rules_at.Given as goal

abbrev pub invariant-loop-i : goal.invariant-loop-i
invariant-loop-i l = AreRulesTo l.log.steps l.order l.place l.i l.rules
