use Rattle.std.proofs.Common.{◌≡◌, ℕ, true, false, List, ap, subst, ◌∙◌, Some, arith, IsPermutation}
use Rattle.std.specs.Prelude.{slice_get}
use Rattle.std.proofs.lemmas.Result.{IfOk-weaker}
use Rattle.std.proofs.lemmas.List.Sorted.{IsPermutation-sym}
use Rattle.std.specs.FinMap as finite
use Rattle.cep_base.specs.declared.limits.TheConstants.{MOST_HEIGHT}
use Rattle.cep_base.proofs.Lists.{holds_at}
use Rattle.cep_term.specs.Multiset.{Multiset}
use Rattle.cep_rule.specs.declared.offer.Offer.{Offer}
use Rattle.cep_rule.specs.Offers.{Applies}
use Rattle.cep_round.specs.Rounds.{admitted, Together}
use Rattle.cep_round.specs.Sides.{needed_by, given_by}
use Rattle.cep_round.specs.Orders.{AreOffersDone, MakesFitAtoms, LeadInOrder}
use Rattle.cep_round.proofs.Admitted.{each_admitted, as_many_flags, next_admitted, next_blocked, gathered_more, gathered_same}
use Rattle.cep_round.proofs.Orders.{all_in_order, of_applies, needed_are_ground, given_are_ground, few_needed, few_given, new_bag, leads_together}
use Rattle.cep_round.proofs.round.together.Goals as goal
use Rattle.cep_round.proofs.round.together.Goals.{then-get+in_ok-push_needed+in_ok-push_given, else-get}

pub get-requires : goal.get-requires
get-requires c = let same = as_many_flags c.args.program.now c.args.state.now finite.empty c.args.chosen.now c.args.flags.now c.requires.flags in omega arith

pub push_needed-requires : goal.push_needed-requires
push_needed-requires c =
    of_applies c.args.program.now MOST_HEIGHT c.args.state.now c.get-then-get.result.now
    (holds_at (Applies c.args.program.now MOST_HEIGHT c.args.state.now) c.args.chosen.now c.loop-i.i c.get-then-get.result.now c.requires.chosen.apply c.get-then-get.ensures)

pub push_given-requires : goal.push_given-requires
push_given-requires c =
    of_applies c.args.program.now MOST_HEIGHT c.args.state.now c.get-then-get-2.result.now
    (holds_at (Applies c.args.program.now MOST_HEIGHT c.args.state.now) c.args.chosen.now c.loop-i.i c.get-then-get-2.result.now c.requires.chosen.apply c.get-then-get-2.ensures)

pub loop-i-preserved : goal.loop-i-preserved
loop-i-preserved c =
    let program = c.args.program.now in
    let chosen = c.args.chosen.now in
    let flags = c.args.flags.now in
    let i = c.loop-i.i in
    elim c.if-get.branch [
      | then-get+in_ok-push_needed+in_ok-push_given w ↦ (
          let flagged : slice_get flags i ≡ Some true = c.get.ensures ∙ ap Some w.if-get.true in (
            gathered_more (needed_by program) _ _ w.get-then-get.result.now c.loop-i.needed c.if-get.needed (next_admitted chosen flags i w.get-then-get.result.now w.get-then-get.ensures flagged) c.loop-i.invariant.0 (w.needed-is ∙ w.in_ok-push_needed.ensures),
            gathered_more (given_by program) _ _ w.get-then-get-2.result.now c.loop-i.given c.if-get.given (next_admitted chosen flags i w.get-then-get-2.result.now w.get-then-get-2.ensures flagged) c.loop-i.invariant.1 (w.given-is ∙ w.in_ok-push_given.ensures),
          )
          )
      | else-get w ↦ (
          let flagged : slice_get flags i ≡ Some false = c.get.ensures ∙ ap Some w.if-get.false in
          let same = next_blocked chosen flags i flagged in (
            gathered_same (needed_by program) _ _ c.loop-i.needed c.if-get.needed same c.loop-i.invariant.0 w.needed-is,
            gathered_same (given_by program) _ _ c.loop-i.given c.if-get.given same c.loop-i.invariant.1 w.given-is,
          )
          )
    ]

pub exchange-requires-clause-needed : goal.exchange-requires-clause-needed
exchange-requires-clause-needed c =
    needed_are_ground c.steps_are_lawful.ensures c.args.program.now c.parts.ensures.kept c.args.state.now c.args.chosen.now c.args.flags.now c.requires.chosen c.requires.flags
    c.loop-i.i (omega arith) c.loop-i.needed c.loop-i.given c.loop-i.invariant

pub exchange-requires-clause-given : goal.exchange-requires-clause-given
exchange-requires-clause-given c =
    given_are_ground c.steps_are_lawful.ensures c.args.program.now c.parts.ensures.kept c.args.state.now c.args.chosen.now c.args.flags.now c.requires.chosen c.requires.flags
    c.loop-i.i (omega arith) c.loop-i.needed c.loop-i.given c.loop-i.invariant

pub exchange-requires-clause-few_needed : goal.exchange-requires-clause-few_needed
exchange-requires-clause-few_needed c =
    few_needed c.steps_are_lawful.ensures c.args.program.now c.parts.ensures.kept c.args.state.now c.args.chosen.now c.args.flags.now c.requires.chosen c.requires.flags
    c.loop-i.i (omega arith) c.loop-i.needed c.loop-i.given c.loop-i.invariant

pub exchange-requires-clause-few : goal.exchange-requires-clause-few
exchange-requires-clause-few c =
    few_given c.steps_are_lawful.ensures c.args.program.now c.parts.ensures.kept c.args.state.now c.args.chosen.now c.args.flags.now c.requires.chosen c.requires.flags
    c.loop-i.i (omega arith) c.loop-i.needed c.loop-i.given c.loop-i.invariant

pub returns-clause-together : goal.returns-clause-together
returns-clause-together c =
    let program = c.args.program.now in
    let chosen = c.args.chosen.now in
    IfOk-weaker c.exchange.result _ (Together program (admitted chosen c.args.flags.now) c.args.state.now)
    (λ new is. leads_together c.steps_are_lawful.ensures program c.parts.ensures.kept c.args.state.now chosen c.args.flags.now c.requires.chosen c.requires.flags
    c.loop-i.i (omega arith) c.loop-i.needed c.loop-i.given c.loop-i.invariant
    c.parts.result.now new c.parts.ensures.parts is (c.what_is_admitted_is_there.ensures program c.args.state.now chosen c.args.flags.now c.requires.flags))
    c.exchange.ensures

pub returns-clause-in_every_order : goal.returns-clause-in_every_order
returns-clause-in_every_order c =
    let laws = c.steps_are_lawful.ensures in
    let program = c.args.program.now in
    let state = c.args.state.now in
    let chosen = c.args.chosen.now in
    let flags = c.args.flags.now in
    let done = admitted chosen flags in
    let is_state = c.requires.chosen.is_state in
    let kept = c.parts.ensures.kept in
    let every = c.rounds_can_be_done_in_every_order.ensures in
    let contained = c.what_is_admitted_is_there.ensures program state chosen flags c.requires.flags in
    let apply = each_admitted (Applies program MOST_HEIGHT state) chosen flags c.requires.chosen.apply in
    IfOk-weaker c.exchange.result _ (λ last. (order : List Offer) → IsPermutation done order → LeadInOrder program order state last)
    (λ new is order same.
    let bag = new_bag laws program kept state chosen flags c.requires.chosen c.requires.flags c.loop-i.i (omega arith) c.loop-i.needed c.loop-i.given c.loop-i.invariant c.parts.result.now new c.parts.ensures.parts is in
    let together = leads_together laws program kept state chosen flags c.requires.chosen c.requires.flags c.loop-i.i (omega arith) c.loop-i.needed c.loop-i.given c.loop-i.invariant c.parts.result.now new c.parts.ensures.parts is contained in
    let no_other : (height : ℕ) (other : Multiset) → AreOffersDone program height state order other → other ≡ new =
    λ height other run. let led = every.together program height state other done order kept is_state contained same run in
    c.one_state_after_a_round.ensures.state program done state other new led.0 bag led.1 together in
    record {
      done = λ fit.
          let run = every.done program MOST_HEIGHT state done order kept is_state apply (all_in_order laws program (MakesFitAtoms program) order done (IsPermutation-sym done order same) fit) contained same in
          subst (λ (last : Multiset). AreOffersDone program MOST_HEIGHT state order last) (no_other MOST_HEIGHT run.0 run.1) run.1;
      heights = every.heights program state done order kept contained same;
      no_other = no_other;
    })
    c.exchange.ensures
