use Rattle.std.proofs.Common.{Bool, ap, sym, subst, ◌∙◌, take, ◌++◌, ◌∷◌, [], arith}
use Rattle.std.proofs.lemmas.Grind.{common_steps}
use Rattle.std.specs.FinMap as finite
use Rattle.cep_term.specs.Multiset.{Multiset, IsOnce, IsContained}
use Rattle.cep_rule.specs.Typing.{is_fact}
use Rattle.cep_base.specs.declared.limits.TheConstants.{MOST_HEIGHT}
use Rattle.cep_base.proofs.Lists.{take_next, holds_at}
use Rattle.cep_rule.specs.Offers.{Applies}
use Rattle.cep_round.proofs.Orders.{of_applies}
use Rattle.cep_round.specs.Rounds.{used_with, used_after}
use Rattle.cep_round.proofs.Admitted.{moved_on, true_not_false, used_once, used_within, empty_once, empty_within, few_copies}
use Rattle.cep_round.proofs.round.admit.Goals as goal
use Rattle.cep_round.proofs.round.admit.Goals.{then-admitted, else-admitted}

pub used_with-requires-clause-offer : goal.used_with-requires-clause-offer
used_with-requires-clause-offer c =
    of_applies c.args.program.now MOST_HEIGHT c.args.state.now c.get.result.now
    (holds_at (Applies c.args.program.now MOST_HEIGHT c.args.state.now) c.args.chosen.now c.loop-i.i c.get.result.now c.requires.apply c.get.ensures)

pub used_with-requires-clause-once : goal.used_with-requires-clause-once
used_with-requires-clause-once c =
    let laws = c.steps_are_lawful.ensures.bags in
    let program = c.args.program.now in
    subst (λ (bag : Multiset). IsOnce (is_fact program.signature) bag) (sym c.loop-i.invariant.1) (used_once laws program finite.empty (take c.loop-i.i c.args.chosen.now) c.loop-i.flags (empty_once laws program))

pub used_with-requires-clause-few : goal.used_with-requires-clause-few
used_with-requires-clause-few c =
    let laws = c.steps_are_lawful.ensures.bags in
    let program = c.args.program.now in
    let state = c.args.state.now in
    few_copies laws c.loop-i.used state c.copies.ensures.kept c.requires.is_state.bag
    (subst (λ (bag : Multiset). IsContained bag state) (sym c.loop-i.invariant.1) (used_within laws program state finite.empty (take c.loop-i.i c.args.chosen.now) c.loop-i.flags c.loop-i.invariant.0 (empty_within laws program state)))
    c.requires.fits

pub loop-i-preserved : goal.loop-i-preserved
loop-i-preserved c =
    let program = c.args.program.now in
    let state = c.args.state.now in
    let flags = c.loop-i.flags in
    let offer = c.get.result.now in
    let before = take c.loop-i.i c.args.chosen.now in
    let next = take_next c.args.chosen.now c.loop-i.i offer c.get.ensures in
    let with_is = c.in_ok-with.ensures ∙ ap (λ (used : Multiset). used_with program used offer) c.loop-i.invariant.1 in
    elim c.if-admitted.branch [
      | then-admitted w ↦ (
          let within = subst (λ (bag : Multiset). IsContained bag state) with_is (c.contains-admitted.ensures.0 w.if-admitted.true) in
          moved_on program state _ _ c.push.new.self _ c.if-admitted.used _ next (c.in_ok-push.ensures.ok ∙ ap (λ (flag : Bool). flags ++ flag ∷ []) w.if-admitted.true) (w.used-is ∙ with_is)
          (c.flags_grow.ensures.admitted program state finite.empty before flags offer c.loop-i.invariant.0 within)
          )
      | else-admitted w ↦ (
          let outside = λ (within : IsContained (used_with program (used_after program finite.empty before flags) offer) state). true_not_false (sym (c.contains-admitted.ensures.1 (subst (λ (bag : Multiset). IsContained bag state) (sym with_is) within)) ∙ w.if-admitted.false) in
          moved_on program state _ _ c.push.new.self _ c.if-admitted.used _ next (c.in_ok-push.ensures.ok ∙ ap (λ (flag : Bool). flags ++ flag ∷ []) w.if-admitted.false) (w.used-is ∙ c.loop-i.invariant.1)
          (c.flags_grow.ensures.blocked program state finite.empty before flags offer c.loop-i.invariant.0 outside)
          )
    ]

pub returns : goal.returns
returns c = grind (arith, common_steps)
