use Rattle.std.proofs.Common.{◌≡◌, ℕ, ◌<◌, Bool, List, length, sym, ap, subst, arith}
use Rattle.cep_order.specs.declared.step_cause.StepCause.{StepCause}
use Rattle.cep_order.specs.Flags.{set_places}
use Rattle.cep_order.specs.Orders.{NamesEarlier, IsOrderBy, IsEachOnce}
use Rattle.cep_order.specs.Waits.{CanRelease, IsReleased}
use Rattle.cep_order.specs.Taking.{missing, IsSoFar}
use Rattle.cep_order.proofs.SoFar.{on, is_step, can_release, fewer_missing, taken_next, one_more, none_flagged, next_part, ordered, each_once, none_taken}
use Rattle.cep_order.proofs.ordering.order_by.Goals as goal

pub loop-ready-init : goal.loop-ready-init
loop-ready-init c = none_taken c.args.seed c.as_slice-entries.result.now c.in_ok-waits.waits c.in_ok-ready.ready c.new-draw.result c.new-order.result c.in_ok-waits.ensures c.in_ok-ready.ensures c.new-draw.ensures c.new-order.ensures

pub remove-requires : goal.remove-requires
remove-requires c =
    let at = c.loop-ready in
    let entries = c.as_slice-entries.result.now in
    let earlier = subst (λ (cs : List StepCause). NamesEarlier cs) (sym c.as_slice-entries.ensures) c.requires.earlier in
    on c.args.seed entries earlier at.waits at.ready at.draw at.order at.end at.invariant c.nth-place.result _ c.nth-place.ensures

pub overflow_cast-place : goal.overflow_cast-place
overflow_cast-place c =
    let at = c.loop-ready in
    let entries = c.as_slice-entries.result.now in
    let earlier = subst (λ (cs : List StepCause). NamesEarlier cs) (sym c.as_slice-entries.ensures) c.requires.earlier in
    omega (arith, is_step c.args.seed entries earlier at.waits at.ready at.draw at.order at.end at.invariant c.nth-place.result _ c.nth-place.ensures, c.requires.few, ap (λ (cs : List StepCause). length cs) c.as_slice-entries.ensures)

pub overflow_add-place : goal.overflow_add-place
overflow_add-place c =
    let at = c.loop-ready in
    let entries = c.as_slice-entries.result.now in
    let earlier = subst (λ (cs : List StepCause). NamesEarlier cs) (sym c.as_slice-entries.ensures) c.requires.earlier in
    omega (arith, is_step c.args.seed entries earlier at.waits at.ready at.draw at.order at.end at.invariant c.nth-place.result _ c.nth-place.ensures, c.requires.few, ap (λ (cs : List StepCause). length cs) c.as_slice-entries.ensures)

pub release-requires : goal.release-requires
release-requires c =
    let at = c.loop-ready in
    let entries = c.as_slice-entries.result.now in
    let earlier = subst (λ (cs : List StepCause). NamesEarlier cs) (sym c.as_slice-entries.ensures) c.requires.earlier in
    subst (λ (flags : List Bool). CanRelease at.waits flags c.nth-place.result) (sym c.remove.ensures) (can_release c.args.seed entries earlier at.waits at.ready at.draw at.order at.end at.invariant c.nth-place.result _ c.nth-place.ensures)

pub loop-ready-smaller-then-count-gt0 : goal.loop-ready-smaller-then-count-gt0
loop-ready-smaller-then-count-gt0 c =
    let at = c.loop-ready in
    let entries = c.as_slice-entries.result.now in
    let earlier = subst (λ (cs : List StepCause). NamesEarlier cs) (sym c.as_slice-entries.ensures) c.requires.earlier in
    let less : missing (length entries) c.push.new.self < missing (length entries) at.order = subst (λ (order : List ℕ). missing (length entries) order < missing (length entries) at.order) (sym c.in_ok-push.ensures.ok) (fewer_missing c.args.seed entries earlier at.waits at.ready at.draw at.order at.end at.invariant c.nth-place.result _ c.nth-place.ensures) in
    omega (arith, less)

pub loop-ready-preserved-then-count-gt0 : goal.loop-ready-preserved-then-count-gt0
loop-ready-preserved-then-count-gt0 c =
    let at = c.loop-ready in
    let entries = c.as_slice-entries.result.now in
    let earlier = subst (λ (cs : List StepCause). NamesEarlier cs) (sym c.as_slice-entries.ensures) c.requires.earlier in
    let released = subst (λ (flags : List Bool). IsReleased at.waits c.release.new.self flags c.release.new.ready c.nth-place.result at.end) c.remove.ensures c.release.ensures in
    let next = taken_next c.args.seed entries earlier at.waits at.ready at.draw at.order at.end at.invariant c.nth-place.result _ c.nth-place.ensures c.len-count.result c.place.result c.place.new.self c.len-count.ensures c.if-count-gt0.true (omega (arith, c.place.ensures.within)) c.place.ensures.lone c.place.ensures.drawn in
    subst (λ (order : List ℕ). IsSoFar c.args.seed entries c.release.new.self c.release.new.ready c.place.new.self order at.end) (sym c.in_ok-push.ensures.ok)
    (one_more c.args.seed entries earlier at.waits at.ready at.draw at.order at.end at.invariant c.nth-place.result _ c.nth-place.ensures c.release.new.self c.release.new.ready c.place.new.self released next)

pub make_ready-requires-clause-apart : goal.make_ready-requires-clause-apart
make_ready-requires-clause-apart c step late =
    let at = c.loop-ready in
    let entries = c.as_slice-entries.result.now in
    let earlier = subst (λ (cs : List StepCause). NamesEarlier cs) (sym c.as_slice-entries.ensures) c.requires.earlier in
    let empty : length (set_places at.ready) ≡ 0 = omega (arith, c.len-count.ensures, c.if-count-gt0.false) in
    none_flagged c.args.seed entries earlier at.waits at.ready at.draw at.order at.end at.invariant empty step

pub loop-ready-smaller : goal.loop-ready-smaller
loop-ready-smaller c =
    let at = c.loop-ready in
    let entries = c.as_slice-entries.result.now in
    let earlier = subst (λ (cs : List StepCause). NamesEarlier cs) (sym c.as_slice-entries.ensures) c.requires.earlier in
    omega (arith, c.part_end-end.ensures.some, c.part_end-end.ensures.within)

pub loop-ready-preserved : goal.loop-ready-preserved
loop-ready-preserved c =
    let at = c.loop-ready in
    let entries = c.as_slice-entries.result.now in
    let earlier = subst (λ (cs : List StepCause). NamesEarlier cs) (sym c.as_slice-entries.ensures) c.requires.earlier in
    let empty : length (set_places at.ready) ≡ 0 = omega (arith, c.len-count.ensures, c.if-count-gt0.false) in
    next_part c.args.seed entries earlier at.waits at.ready at.draw at.order at.end at.invariant empty c.make_ready.new.ready c.part_end-end.result c.part_end-end.ensures c.make_ready.ensures.room c.make_ready.ensures.ready

pub returns-else-end-entries-clause-order : goal.returns-else-end-entries-clause-order
returns-else-end-entries-clause-order c =
    let at = c.loop-ready in
    let entries = c.as_slice-entries.result.now in
    let earlier = subst (λ (cs : List StepCause). NamesEarlier cs) (sym c.as_slice-entries.ensures) c.requires.earlier in
    let empty : length (set_places at.ready) ≡ 0 = omega (arith, c.len-count.ensures, c.if-count-gt0.false) in
    subst (λ (cs : List StepCause). IsOrderBy c.args.seed cs at.order) c.as_slice-entries.ensures (ordered c.args.seed entries earlier at.waits at.ready at.draw at.order at.end at.invariant empty c.if-end-entries.false)

pub returns-else-end-entries-clause-once : goal.returns-else-end-entries-clause-once
returns-else-end-entries-clause-once c =
    let at = c.loop-ready in
    let entries = c.as_slice-entries.result.now in
    let earlier = subst (λ (cs : List StepCause). NamesEarlier cs) (sym c.as_slice-entries.ensures) c.requires.earlier in
    let empty : length (set_places at.ready) ≡ 0 = omega (arith, c.len-count.ensures, c.if-count-gt0.false) in
    subst (λ (cs : List StepCause). IsEachOnce (length cs) at.order) c.as_slice-entries.ensures (each_once c.args.seed entries earlier at.waits at.ready at.draw at.order at.end at.invariant empty c.if-end-entries.false)
