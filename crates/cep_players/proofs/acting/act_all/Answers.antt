use Rattle.std.proofs.Common.{◌≡◌, ◌+◌, ◌<◌, ◌∙◌, true, refl, ap, arith, Some}
use Rattle.cep_players.proofs.BlockedLines.{slice_get, drop, take, on_err, admitted}
use Rattle.cep_players.proofs.RoundsThere.{next_offer}
use Rattle.cep_players.proofs.Going.{as_many_flags, split_admitted, next_left, gone_nowhere, gone_all, gone_past, gone_on, gone_out, gone_short}
use Rattle.cep_players.proofs.acting.act_all.Goals.{then-get+in_ok-next+in-Done, else-get}
use Rattle.cep_players.proofs.acting.act_all.Goals as goal

pub get-requires : goal.get-requires
get-requires g c = omega (arith, as_many_flags c.args.program.now c.args.start.state _ c.args.chosen.now c.args.flags.now c.requires.flagged)

pub loop-i-init : goal.loop-i-init
loop-i-init g c = record { played = c.requires.played; gone = gone_nowhere g.C.Console.talk g.C.Console.left c.args.program.now c.args.settings c.args.chosen.now c.args.flags.now c.args.start c.args.console.now c.requires.turns; risen = omega arith; calm = refl }

pub act_offer-requires-clause-offer : goal.act_offer-requires-clause-offer
act_offer-requires-clause-offer g c =
    let chosen = c.args.chosen.now in
    let flags = c.args.flags.now in
    let i = c.loop-i.i in
    let offer = c.get-then-get.result.now in
    next_offer c.players_are_lawful.ensures.rounds c.args.program.now c.args.settings.height c.parts.ensures.kept c.args.start.state c.args.group chosen flags c.requires.offers c.requires.flagged
    (admitted (take i chosen) (take i flags)) (admitted (drop (i + 1) chosen) (drop (i + 1) flags)) offer c.loop-i.config.state
    (rw (split_admitted chosen flags i, next_left chosen flags i offer c.get-then-get.ensures (c.get.ensures ∙ ap Some c.if-get.true)) refl) c.loop-i.invariant.gone.moved

pub loop-i-preserved : goal.loop-i-preserved
loop-i-preserved g c =
    let before = c.loop-i.invariant in
    elim c.if-get.branch [
      | then-get+in_ok-next+in-Done w ↦ (
          let flagged : slice_get c.args.flags.now c.loop-i.i ≡ Some true = c.get.ensures ∙ ap Some w.if-get.true in
          let past = w.in_ok-next.ensures in
          record {
            played = rw w.config-is (rw w.in-Done.is at past.played);
            gone = rw (w.config-is, w.console-is) (gone_on _ _ _ _ _ _ _ _ _ _ _ before.gone w.act_offer.new.console w.get-then-get.result.now w.get-then-get.ensures flagged w.in-Done.next (rw w.in-Done.is at past.moved) (rw w.in-Done.is at past.acted));
            risen = omega (arith, w.steps-is, w.act_offer.ensures.counted, before.risen);
            calm = ap g.C.Console.faults w.console-is ∙ past.cause ∙ before.calm;
          }
          )
      | else-get w ↦ (
          let within : c.loop-i.i < _ = rw c.len-i-end.ensures at c.loop-i-test.true in
          record {
            played = rw w.config-is before.played;
            gone = rw (w.config-is, w.console-is) (gone_past _ _ _ _ _ _ _ _ _ _ _ before.gone within (c.get.ensures ∙ ap Some w.if-get.false));
            risen = omega (arith, w.steps-is, before.risen);
            calm = ap g.C.Console.faults w.console-is ∙ before.calm;
          }
          )
    ]

pub returns-in_err-next-clause-begun : goal.returns-in_err-next-clause-begun
returns-in_err-next-clause-begun g c =
    on_err c.from_residual.result _ (gone_short _ _ _ _ _ _ _ _ _ _ _ c.loop-i.invariant.gone c.act_offer.new.console c.get-then-get.result.now c.get-then-get.ensures (c.get.ensures ∙ ap Some c.if-get.true) c.in_err-next.ensures.begun)

pub returns-in-Over-clause-acted : goal.returns-in-Over-clause-acted
returns-in-Over-clause-acted g c =
    gone_out _ _ _ _ _ _ _ _ _ _ _ c.loop-i.invariant.gone c.act_offer.new.console c.get-then-get.result.now c.get-then-get.ensures (c.get.ensures ∙ ap Some c.if-get.true) c.in-Over.ended (rw c.in-Over.is at c.in_ok-next.ensures.moved) (rw c.in-Over.is at c.in_ok-next.ensures.acted)

pub returns-clause-counted : goal.returns-clause-counted
returns-clause-counted g c = ((gone_all _ _ _ _ _ _ _ _ _ _ _ c.loop-i.invariant.gone (rw c.len-i-end.ensures at c.loop-i-test.false)).0, c.loop-i.invariant.gone.few)

pub returns-clause-acted : goal.returns-clause-acted
returns-clause-acted g c = (gone_all _ _ _ _ _ _ _ _ _ _ _ c.loop-i.invariant.gone (rw c.len-i-end.ensures at c.loop-i-test.false)).1
