use Rattle.std.proofs.Common.{rules}
use Rattle.std.proofs.lemmas.Result.{IfOk-weaker}
use Rattle.cep_check.proofs.Options.{of_either}
use Rattle.cep_check.proofs.Verdicts.{ready}
use Rattle.cep_check.proofs.step.advance.Goals as goal

pub cause_before-requires-clause-ready : goal.cause_before-requires-clause-ready
cause_before-requires-clause-ready g c = ready _ _ _ c.parts.ensures.kept c.requires.of_program (search rules)

pub change-requires-clause-in_turn : goal.change-requires-clause-in_turn
change-requires-clause-in_turn g c = rw c.in-None.is at c.in_ok-cause.ensures.cause

pub change-requires-clause-ready : goal.change-requires-clause-ready
change-requires-clause-ready g c = ready _ _ _ c.parts.ensures.kept c.requires.of_program (search rules)

pub returns-in-Some-clause-done : goal.returns-in-Some-clause-done
returns-in-Some-clause-done g c = (c.get-rule.result.now, search rules, rw c.in-Some.is at c.in_ok-cause.ensures.cause)

pub returns-in-None-clause-done : goal.returns-in-None-clause-done
returns-in-None-clause-done g c = IfOk-weaker c.change.result _ _
    (λ done is. of_either (λ new legal. legal) (λ cause comes. (c.get-rule.result.now, search rules, comes)) done is)
    c.change.ensures
