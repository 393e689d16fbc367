use Rattle.std.proofs.Common.{◌≡◌, List, refl, sym, subst, ◌∙◌, arith}
use Rattle.cep_rule.specs.Matching.{offers_of, RoseBy}
use Rattle.cep_step.specs.Deeds.{Deed}
use Rattle.cep_run.specs.Costs.{IsDeedCost, AreDeedCosts}
use Rattle.cep_run.specs.Turn.{position_of}
use Rattle.cep_run.proofs.Counting.{counted_nothing, counted_behind}
use Rattle.cep_base.proofs.Did.{did_same, did_map, did_then}
use Rattle.cep_base.proofs.Outcomes.{on_err}
use Rattle.cep_run.specs.Run.{quiet_end, turns_end}
use Rattle.cep_run.proofs.Framed.{nothing_spent}
use Rattle.cep_run.proofs.Runs.{run_begins, run_goes_on, turn_stops, run_over, turns_begin}
use Rattle.cep_run.proofs.dialogue.all_turns.Goals as goal

pub loop-group-init : goal.loop-group-init
loop-group-init g c =
    let nothing = c.nothing-spent.ensures in
    record {
      played = c.requires.played;
      turns = omega (arith, c.requires.begins);
      spent = nothing_spent c.args.settings.seed c.args.start.turns c.nothing-spent.result nothing.taken nothing.drawn nothing.draw;
      counted = omega arith;
      cause = refl;
      few = omega arith;
      so_far = did_map g.C.Console.talk g.C.Console.left _ _ _ _ (run_begins c.args.program.now c.args.settings (position_of c.args.start) (λ deeds. RoseBy (AreDeedCosts g.M.Matcher.may_edit c.args.program.now c.args.settings.height deeds) c.args.steps.now c.args.steps.now)
          (counted_nothing g.M.Matcher.may_edit c.args.program.now c.args.settings.height c.args.steps.now) c.nothing-spent.result nothing.taken nothing.drawn) (did_same g.C.Console.talk g.C.Console.left c.args.console.now c.args.console.now refl refl);
    }

pub loop-group-preserved : goal.loop-group-preserved
loop-group-preserved g c =
    let program = c.args.program.now in
    let settings = c.args.settings in
    let before = c.loop-group.invariant in
    let listing = offers_of (g.M.Matcher.offers_held c.loop-group.config.matcher) c.in-Some.group in
    let so = λ (deeds : List Deed). RoseBy (AreDeedCosts g.M.Matcher.may_edit program settings.height deeds) c.args.steps.now c.loop-group.steps in
    let one = λ (deed : Deed). RoseBy (IsDeedCost g.M.Matcher.may_edit program settings.height deed) c.loop-group.steps c.turn.new.steps in
    let all = λ (deeds : List Deed). RoseBy (AreDeedCosts g.M.Matcher.may_edit program settings.height deeds) c.args.steps.now c.turn.new.steps in
    let (does, more, most) = rw c.in-Done.is at c.in_ok-next.ensures.turned in
    let many = rw c.matcher.ensures.matcher at c.count-listed.ensures in
    record {
      played = rw c.in-Done.is at c.in_ok-next.ensures.played;
      turns = omega (arith, more, c.turns.ensures, c.if-turns-settings.false);
      spent = rw more c.in_ok-next.ensures.spent;
      counted = omega (arith, before.counted, c.turn.ensures.counted);
      cause = c.in_ok-next.ensures.cause ∙ before.cause;
      few = omega (arith, many, most, more, before.few);
      so_far = rw many (did_then g.C.Console.talk g.C.Console.left _ _ _ _ _ _ (run_goes_on program settings (position_of c.args.start) (position_of c.loop-group.config) c.loop-group.spent c.loop-group.offers so one all
          (λ turns turn. counted_behind g.M.Matcher.may_edit program settings.height turns turn c.args.steps.now c.loop-group.steps c.turn.new.steps) (position_of c.in-Done.next) c.turn.new.spent listing) before.so_far does);
    }

pub returns-in-Over-clause-said : goal.returns-in-Over-clause-said
returns-in-Over-clause-said g c =
    turn_stops g.C.Console.talk g.C.Console.left c.args.console.now c.loop-group.console c.turn.new.console c.args.program.now c.args.settings (position_of c.args.start) c.loop-group.config c.loop-group.spent c.turn.new.spent c.loop-group.offers
    _ (λ deeds. RoseBy (AreDeedCosts g.M.Matcher.may_edit c.args.program.now c.args.settings.height deeds) c.args.steps.now c.loop-group.steps) (λ deeds. RoseBy (AreDeedCosts g.M.Matcher.may_edit c.args.program.now c.args.settings.height deeds) c.args.steps.now c.turn.new.steps) _ _ (λ still deeds so. subst (λ n. RoseBy (AreDeedCosts g.M.Matcher.may_edit c.args.program.now c.args.settings.height deeds) c.args.steps.now n) (sym still) so)
    _ c.in-Over.end c.in-Over.is c.in_ok-next.ensures.turned c.loop-group.invariant.so_far

pub returns-then-turns-settings-clause-said : goal.returns-then-turns-settings-clause-said
returns-then-turns-settings-clause-said g c =
    let before = c.loop-group.invariant in
    let asked = rw before.played.height at (c.in-Some.ensures.asked c.args.program.now before.played.of_program) in
    let full : c.loop-group.config.turns ≡ c.args.settings.limit = omega (arith, c.turns.ensures, c.if-turns-settings.true, before.turns) in
    did_map g.C.Console.talk g.C.Console.left _ _ _ _ (run_over c.args.program.now c.args.settings (position_of c.args.start) (position_of c.loop-group.config) c.loop-group.spent c.loop-group.offers _ _ (λ from. turns_end asked full refl)) before.so_far

pub returns-clause-said : goal.returns-clause-said
returns-clause-said g c =
    let before = c.loop-group.invariant in
    let quiet = rw before.played.height at ((c.in_default.ensures.quiet c.args.program.now before.played.of_program).0 refl) in
    did_map g.C.Console.talk g.C.Console.left _ _ _ _ (run_over c.args.program.now c.args.settings (position_of c.args.start) (position_of c.loop-group.config) c.loop-group.spent c.loop-group.offers _ _ (λ from. quiet_end quiet refl)) before.so_far

pub returns-in_err-next-clause-begun : goal.returns-in_err-next-clause-begun
returns-in_err-next-clause-begun g c =
    on_err c.from_residual.result _ (did_then g.C.Console.talk g.C.Console.left _ _ _ _ _ _ (turns_begin c.args.program.now c.args.settings _ (position_of c.args.start) (position_of c.loop-group.config) c.loop-group.spent c.loop-group.offers) c.loop-group.invariant.so_far c.in_err-next.ensures.begun)
