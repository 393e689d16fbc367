use Rattle.std.proofs.Common.{inl, inr, ⊎_elim, refl, arith}
use Rattle.std.proofs.lemmas.Bool.{cases_eq}
use Rattle.cep_order.proofs.SoFar.{barrier_there, no_barrier}
use Rattle.cep_order.proofs.ordering.part_end.Goals as goal

pub loop-end-preserved : goal.loop-end-preserved
loop-end-preserved c =
    let at = c.loop-end in
    record {
      some = omega (arith, at.invariant.some);
      within = omega (arith, c.loop-end-test.true);
      none = λ place low high barrier.
          ⊎_elim
          (λ last. no_barrier c.args.causes.now at.end place c.index-causes-end.result c.loop-end-test.true c.if-not-causes-end.true last barrier)
          (λ other. at.invariant.none place low (omega arith) barrier)
          (cases_eq place at.end);
    }

pub returns-else-not-causes-end : goal.returns-else-not-causes-end
returns-else-not-causes-end c =
    let at = c.loop-end in
    record {
      some = at.invariant.some;
      within = at.invariant.within;
      by_itself = λ place low high barrier. absurd (at.invariant.none place low high barrier);
      stops = λ less. inr (barrier_there c.args.causes.now at.end c.index-causes-end.result less c.if-not-causes-end.false);
    }

pub returns-after-loop-end : goal.returns-after-loop-end
returns-after-loop-end c =
    let at = c.loop-end in
    record {
      some = at.invariant.some;
      within = at.invariant.within;
      by_itself = λ place low high barrier. absurd (at.invariant.none place low high barrier);
      stops = λ less. absurd (omega (arith, c.loop-end-test.false));
    }

pub returns-then-causes-from : goal.returns-then-causes-from
returns-then-causes-from c = record {
  some = omega (arith);
  within = omega (arith, c.requires);
  by_itself = λ place low high barrier. (omega (arith, low, high), refl);
  stops = λ less. inl (barrier_there c.args.causes.now c.args.from c.index-causes-from.result c.requires c.if-causes-from.true);
}
