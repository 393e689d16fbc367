use Rattle.std.proofs.Common.{◌≡◌, ◌+◌, ◌*◌, ◌<◌, ◌∙◌, ℕ, length, refl, ap, Some, slice_get, arith, length-append}
use Rattle.std.proofs.lemmas.Option.{slice_get_read}
use Rattle.cep_modes.specs.Places.{holds, callees}
use Rattle.cep_modes.proofs.Deciding.{sees, start, step, closed}
use Rattle.cep_modes.proofs.reach.reached.Goals as goal

pub loop-done-init : goal.loop-done-init
loop-done-init c =
    let size : ℕ = length c.args.table.now.items * 256 + 1 in
    let many : c.len.result ≡ length c.args.table.now.items = omega (arith, c.len.ensures) in
    let long : length c.as_mut_slice-seen.result.now ≡ size = ap length c.as_mut_slice-seen.ensures.value ∙ c.in_ok-flags.ensures.long ∙ ap (λ n. n * 256 + 1) many in
    let saw_them = sees size c.args.first.now c.as_mut_slice-seen.result.now c.see.new.seen c.new-queue.result.items c.see.new.queue.items long c.requires.first c.in_ok-see.ensures.seen c.in_ok-see.ensures.queue in
    record {
      reached =
          start c.args.clauses.now size c.as_mut_slice-seen.result.now c.see.new.seen c.args.first.now c.new-queue.result.items c.see.new.queue.items c.new-calls.result.items c.new-queue.ensures.items c.new-calls.ensures.items long
          (λ n. ap (λ flags. holds flags n) c.as_mut_slice-seen.ensures.value ∙ c.in_ok-flags.ensures.none n) saw_them;
      first = saw_them.each;
      low = omega arith;
    }

pub follow-requires-clause-callees : goal.follow-requires-clause-callees
follow-requires-clause-callees c = rw c.loop-done.invariant.reached.as_many (c.requires.callees c.index-n.result.now)

pub loop-done-smaller : goal.loop-done-smaller
loop-done-smaller c =
    let saw_them = sees _ (callees c.args.clauses.now c.index-n.result.now) c.loop-done.seen c.follow.new.seen c.loop-done.queue.items c.follow.new.queue.items c.loop-done.invariant.reached.as_many (c.requires.callees c.index-n.result.now) c.in_ok-follow.ensures.seen c.in_ok-follow.ensures.queue in
    let total = saw_them.total in
    let low : c.loop-done.done < length c.loop-done.queue.items = omega arith in
    omega arith

pub loop-done-preserved : goal.loop-done-preserved
loop-done-preserved c =
    let old = c.loop-done.invariant in
    let saw_them = sees _ (callees c.args.clauses.now c.index-n.result.now) c.loop-done.seen c.follow.new.seen c.loop-done.queue.items c.follow.new.queue.items c.loop-done.invariant.reached.as_many (c.requires.callees c.index-n.result.now) c.in_ok-follow.ensures.seen c.in_ok-follow.ensures.queue in
    let at : slice_get c.loop-done.queue.items c.loop-done.done ≡ Some c.index-n.result.now =
    slice_get_read c.loop-done.queue.items (length c.loop-done.queue.items) c.loop-done.done c.index-n.result.now refl (omega arith) c.index-n.ensures
    in
    record {
      reached =
          step c.args.clauses.now _ c.loop-done.seen c.follow.new.seen c.loop-done.queue.items c.follow.new.queue.items c.loop-done.calls.items c.follow.new.calls.items c.loop-done.done c.index-n.result.now
          old.reached at (c.requires.callees c.index-n.result.now) c.in_ok-follow.ensures.calls saw_them;
      first = λ n h. saw_them.kept n (old.first n h);
      low = omega (arith, ap length saw_them.extends ∙ length-append c.loop-done.queue.items saw_them.more);
    }

pub returns : goal.returns
returns c = closed c.args.clauses.now (length c.args.table.now.items * 256 + 1) c.loop-done.seen c.args.first.now c.loop-done.queue.items c.loop-done.calls.items c.loop-done.done (omega arith) c.loop-done.invariant.first c.loop-done.invariant.reached
