use Rattle.std.proofs.Common.{◌≤◌, IsSomeAnd, arith}
use Rattle.std.proofs.lemmas.Grind.{common_steps}
use Rattle.cep_rule.proofs.HeadSets.{first_like}
use Rattle.cep_rule.proofs.clause.Clauses.next_like.Goals as goal

pub returns-in_err-head-clause-skips : goal.returns-in_err-head-clause-skips
returns-in_err-head-clause-skips c = λ n after. rw (← c.self.view_is)
    (first_like _ _ c.range.result _ _ c.args.from n (IsSomeAnd c.from_residual.result (λ next. next ≤ n)) c.self.invariant (c.range.ensures.in_range tt) after (λ is. absurd (rw c.in_err-head.ensures.steps.0 at is)))

pub returns-then-eq-clause-skips : goal.returns-then-eq-clause-skips
returns-then-eq-clause-skips c = λ n after. rw (← c.self.view_is)
    (first_like _ _ c.range.result _ _ c.args.from n (c.in_ok-head.head.now.2 ≤ n) c.self.invariant (c.range.ensures.in_range tt) after (λ is. (rw c.in_ok-head.ensures.steps at is).1.1))

pub returns-else-head-pred-clause-skips : goal.returns-else-head-pred-clause-skips
returns-else-head-pred-clause-skips c = λ n after. rw (← c.self.view_is)
    (first_like _ _ c.range.result _ _ c.args.from n ⊥ c.self.invariant (c.range.ensures.in_range tt) after (λ is. let like = rw c.in_ok-head.ensures.steps at is in grind (arith, common_steps)))
