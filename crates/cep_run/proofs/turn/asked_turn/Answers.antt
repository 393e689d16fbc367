use Rattle.std.proofs.Common.{◌≡◌, ℕ, ◌+◌, ◌-◌, refl, ap, ◌∙◌, subst, arith}
use Rattle.std.proofs.lemmas.Result.{on_err_weaker}
use Rattle.cep_base.proofs.Did.{did_map, did_then}
use Rattle.cep_base.proofs.Outcomes.{on_err}
use Rattle.cep_lines.specs.declared.end_word.EndWord.TheVariants.{Input, Typed}
use Rattle.cep_run.specs.declared.choice.Choice.{Choice}
use Rattle.cep_run.specs.declared.choice.Choice.TheVariants.{Place, NoMore, NoRoom}
use Rattle.cep_run.specs.Choice.{IsChoiceWithin}
use Rattle.cep_run.specs.Run.{input_end, typed_end}
use Rattle.cep_run.proofs.Counting.{both_ok}
use Rattle.cep_run.proofs.Turns.{offers_have_texts, some_offers, unmade_turn, turn_acted, decision_refused, act_refused}
use Rattle.cep_run.proofs.turn.asked_turn.Goals as goal

-- a place that is chosen comes after one, counted from 0
next_place : (place : ℕ) (choice : Choice) → choice ≡ Place place → (n : ℕ) → IsChoiceWithin n choice → choice ≡ Place (place - 1 + 1)
next_place place choice is n within = let first = (subst (IsChoiceWithin n) is within).0 in is ∙ ap Place (omega (arith, first))

pub decide-requires-clause-offers : goal.decide-requires-clause-offers
decide-requires-clause-offers g c = offers_have_texts _ _ _ _ _ c.requires.here.offered

pub decide-requires-clause-some : goal.decide-requires-clause-some
decide-requires-clause-some g c = some_offers c.requires.here

pub returns-in-Place-clause-turned : goal.returns-in-Place-clause-turned
returns-in-Place-clause-turned g c =
    let settled = rw (next_place c.in-Place.place _ c.in-Place.is _ c.in_ok-place.ensures.place) at c.in_ok-place.ensures.settled in
    both_ok c.act.result _ _ _ (turn_acted g.C.Console.talk g.C.Console.left _ _ _ c.args.asking.now c.args.config c.requires.here c.args.spent.now c.decide.new.spent (c.in-Place.place - 1) settled g.M.Matcher.may_edit c.args.steps.now c.act.new.steps) c.act.ensures.acted c.act.ensures.ticked

pub returns-in-NoMore-clause-turned : goal.returns-in-NoMore-clause-turned
returns-in-NoMore-clause-turned g c =
    let ends = unmade_turn c.args.asking.now c.requires.here c.args.spent.now NoMore Input c.decide.new.spent (λ from question to asks none. input_end asks none) in
    rw c.over.ensures (did_map g.C.Console.talk g.C.Console.left _ _ _ _ ends (rw c.in-NoMore.is at c.in_ok-place.ensures.settled), refl, refl)

pub returns-in-NoRoom-clause-turned : goal.returns-in-NoRoom-clause-turned
returns-in-NoRoom-clause-turned g c =
    let ends = unmade_turn c.args.asking.now c.requires.here c.args.spent.now NoRoom Typed c.decide.new.spent (λ from question to asks full. typed_end asks full) in
    rw c.over-in-NoRoom.ensures (did_map g.C.Console.talk g.C.Console.left _ _ _ _ ends (rw c.in-NoRoom.is at c.in_ok-place.ensures.settled), refl, refl)

pub returns-in_err-place-clause-begun : goal.returns-in_err-place-clause-begun
returns-in_err-place-clause-begun g c = on_err c.from_residual.result _ (did_map g.C.Console.talk g.C.Console.left _ _ _ _ (decision_refused c.args.asking.now c.requires.here c.args.spent.now) c.in_err-place.ensures.begun)

pub returns-in-Place-clause-begun : goal.returns-in-Place-clause-begun
returns-in-Place-clause-begun g c =
    let settled = rw (next_place c.in-Place.place _ c.in-Place.is _ c.in_ok-place.ensures.place) at c.in_ok-place.ensures.settled in
    on_err_weaker c.act.result (did_then g.C.Console.talk g.C.Console.left _ _ _ _ _ _ (act_refused c.args.asking.now c.requires.here c.args.spent.now c.decide.new.spent (c.in-Place.place - 1)) settled) c.act.ensures.begun
