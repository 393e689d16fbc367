use Rattle.std.proofs.Common.{⊎_elim, inl, inr, arith}
use Rattle.cep_order.proofs.ordering.make_ready.Goals as goal

pub returns-clause-ready : goal.returns-clause-ready
returns-clause-ready c step =
    let at = c.loop-step in
    let is = at.invariant.ready step in (
      λ set. ⊎_elim (λ before. inl before) (λ new. inr (new.0, omega (arith, new.1, at.auto.step-end, c.requires.range), new.2)) (is.0 set),
      λ either. is.1 (⊎_elim (λ before. inl before) (λ new. inr (new.0, omega (arith, new.1, c.loop-step-test.false), new.2)) either),
    )
