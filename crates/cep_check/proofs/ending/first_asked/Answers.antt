use Rattle.std.proofs.Common.{inl, inr}
use Rattle.std.proofs.lemmas.Result.{IfOk-weaker}
use Rattle.cep_check.proofs.Options.{in_either}
use Rattle.cep_check.proofs.ending.first_asked.Goals as goal

pub returns-in-Some-clause-first : goal.returns-in-Some-clause-first
returns-in-Some-clause-first g c =
    inl (rw (c.state.ensures.state, c.stage-own.ensures.stage) at (rw c.in-Some.is at c.in_ok-first.ensures.first))

pub returns-in-None-clause-first : goal.returns-in-None-clause-first
returns-in-None-clause-first g c =
    let none = rw (c.state.ensures.state, c.stage-own.ensures.stage) at (rw c.in-None.is at c.in_ok-first.ensures.first) in
    IfOk-weaker c.applies_any-in-None.result _ _
    (λ first is. in_either (λ quiet. (none, quiet)) (λ offer leaving. inr (none, leaving)) first is)
    (rw (c.state-in-None.ensures.state, c.stage-own.ensures.stage) at c.applies_any-in-None.ensures.first)
