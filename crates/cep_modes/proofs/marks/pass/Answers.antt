use Rattle.std.proofs.Common.{◌<◌, ◌-◌, length, slice_index_or, refl, arith}
use Rattle.std.specs.List.{Contains}
use Rattle.std.proofs.lemmas.List.Elements.{Contains-get_or}
use Rattle.cep_base.proofs.Elements.{all_at}
use Rattle.cep_modes.specs.declared.reach.Call.{Call}
use Rattle.cep_modes.specs.Leading.{IsCallWithin, here}
use Rattle.cep_modes.proofs.Deciding.{nothing_left, more_kept, more_led, more_fewer}
use Rattle.cep_modes.proofs.marks.pass.Goals as goal

pub loop-left-init : goal.loop-left-init
loop-left-init c = record {
  low = omega arith;
  kept = λ n h. h;
  led = λ n h. here n h;
  fewer = λ e. absurd (cc);
  same = λ e. refl;
  followed = λ e. nothing_left c.args.marked.now c.args.calls.now;
}

pub loop-left-preserved-then-follow : goal.loop-left-preserved-then-follow
loop-left-preserved-then-follow c =
    let call : Call = slice_index_or c.args.calls.now (c.loop-left.left - 1) (record { caller = 0; callee = 0 }) in
    let old = c.loop-left.invariant in
    let within : c.loop-left.left - 1 < length c.args.calls.now = omega arith in
    let among : Contains c.args.calls.now call = Contains-get_or c.args.calls.now (c.loop-left.left - 1) (record { caller = 0; callee = 0 }) within in
    let bound : IsCallWithin (length c.args.marked.now) call = all_at (IsCallWithin (length c.args.marked.now)) c.args.calls.now call c.requires among in
    let low : call.caller < length c.loop-left.marked = omega (arith, bound.caller, c.loop-left.auto.marked) in
    record {
      low = omega arith;
      kept = more_kept c.args.marked.now c.loop-left.marked c.follow.new.marked call.caller c.if-follow.ensures.2 old.kept;
      led = more_led c.args.calls.now c.args.marked.now c.loop-left.marked c.follow.new.marked call among c.if-follow.ensures.0 c.if-follow.ensures.2 old.led;
      fewer = λ e. more_fewer c.args.marked.now c.loop-left.marked c.follow.new.marked c.loop-left.found call.caller low c.if-follow.ensures.1 c.if-follow.ensures.2 old.fewer old.same;
      same = λ e. absurd (cc);
      followed = λ e. absurd (cc);
    }
