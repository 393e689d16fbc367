use Rattle.std.proofs.Common.{inl, inr, refl, arith}
use Rattle.std.proofs.lemmas.List.{drop_all}
use Rattle.cep_base.proofs.Drops.{drop_at}
use Rattle.cep_base.proofs.Lists.{holds_at}
use Rattle.cep_log.specs.Legal.{IsStepOf}
use Rattle.cep_check.proofs.checking.last_spot.Goals as goal

pub loop-i-init : goal.loop-i-init
loop-i-init g c = record { here = c.requires.spot; legal = λ last all. all; refused = λ line cause comes. comes; risen = omega arith }

pub advance-requires-clause-height : goal.advance-requires-clause-height
advance-requires-clause-height g c = c.requires.of_program.height

pub advance-requires-clause-of_program : goal.advance-requires-clause-of_program
advance-requires-clause-of_program g c = holds_at (IsStepOf c.args.program.now) c.args.log.now.steps _ _ c.requires.of_program.steps c.get-step.ensures

pub loop-i-preserved : goal.loop-i-preserved
loop-i-preserved g c =
    let done = rw c.in-Ok.is at c.in_ok-next.ensures.done in
    let left = drop_at c.args.log.now.steps c.loop-i.i _ c.get-step.ensures in
    record {
      here = done.1;
      legal = λ last all. c.loop-i.invariant.legal last (rw left (c.in-Ok.next, done.0, all));
      refused = λ line cause comes. c.loop-i.invariant.refused line cause (rw left (inr (c.in-Ok.next, done.0, comes)));
      risen = omega arith;
    }

pub returns-in-Err-clause-done : goal.returns-in-Err-clause-done
returns-in-Err-clause-done g c =
    let left = drop_at c.args.log.now.steps c.loop-i.i _ c.get-step.ensures in
    c.loop-i.invariant.refused _ _ (rw left (inl (c.cause_line.ensures, rw c.in-Err.is at c.in_ok-next.ensures.done)))

pub returns-clause-done : goal.returns-clause-done
returns-clause-done g c = (c.loop-i.invariant.legal _ (rw (drop_all c.loop-i.i c.args.log.now.steps (omega (arith, c.len-i-end.ensures))) refl), c.loop-i.invariant.here)
