-- A walk over the steps of a legal log in an order.
use Rattle.std.proofs.Common.{◌≡◌, ◌⊎◌, inl, inr, ⊎_elim, ℕ, ◌+◌, ◌<◌, ◌≤◌, List, [], ◌∷◌, ◌++◌, map, append_assoc, append-nil, refl, sym, ap, ◌∙◌, subst, arith, zero, suc, ◌-◌, length, take, drop, Some, Contains}
use Rattle.cep_term.specs.Multiset.{Multiset}
use Rattle.std.proofs.lemmas.Grind.{common_steps}
use Rattle.std.proofs.lemmas.List.{map-append}
use Rattle.std.specs.Prelude.{slice_get, unwrap_or}
use Rattle.cep_rule.specs.declared.parts.Parts.{Parts}
use Rattle.cep_rule.specs.declared.rule.Rule.{Rule}
use Rattle.cep_rule.specs.State.{Fits}
use Rattle.cep_rule.specs.Steps.{Spot, start_spot, MakesFit}
use Rattle.cep_rule.specs.Program.{IsProgram}
use Rattle.cep_rule.specs.Step.{Step}
use Rattle.cep_log.specs.declared.log.Log.{Log}
use Rattle.cep_log.specs.declared.log.LogStep.{LogStep}
use Rattle.cep_log.specs.Legal.{IsLegalStep, AreLegalSteps, IsLegal, IsStepOf}
use Rattle.cep_cause.specs.CauseLaws.{CauseLaws}
use Rattle.cep_cause.specs.Touches.{Touch, AreTouchesOf}
use Rattle.cep_cause.specs.Reorderings.{IsReordering, IsOrder, step_places}
use Rattle.cep_cause.specs.Renewing.{CanBePut}
use Rattle.cep_cause.specs.Reordered.{StandAt, unlisted, IsUnfitAt, IsUnfitIn, AreLegalIn}
use Rattle.cep_cause.specs.StepwiseLaws.{StepwiseLaws}
use Rattle.cep_cause.proofs.Ordered.{is_next}
use Rattle.cep_cause.proofs.Central.{IsReached, reached_none, IsTurn, reached_more, all_reached, as_written, rule_of, leads_to, step_there, legal_there, contained, one_spot, at_within, stand, stand_long, not_longer}
use Rattle.cep_cause.proofs.StatesAfter.{LegalRun, as_long}
use Rattle.cep_cause.proofs.WrittenOrder.{length_map, stand_both, whole}
use Rattle.cep_cause.specs.Walking.{CanGo, GoesTo, GoesOut}
use Rattle.cep_base.proofs.Lists.{none_some, some_same, holds_at, take_next, get_mapped}
use Rattle.cep_base.proofs.Elements.{contains_right, contains_behind}
use Rattle.cep_step.specs.declared.limit.Limit.{Limit}
use Rattle.cep_step.specs.declared.limit.Limit.TheVariants.{Atom, State}
use Rattle.cep_step.specs.Passing.{Passes}
use Rattle.cep_step.specs.Spots.{IsSpotOf}

-- A legal log in another order: its steps are legal to the same last spot, or one of them is the first that leads to a state that does not fit.

at_most : (a b : ℕ) → (a ≤ b) ⊎ (b < a)
at_most a b = grind arith

fits_or_not : (state : Multiset) → Fits state ⊎ (Fits state → ⊥)
fits_or_not state = grind (arith, at_most)

-- a first step more
unfit_more : (program : Parts) (height : ℕ) (old new : Spot) (step : LogStep) (steps : List LogStep) (number : ℕ) → IsLegalStep program height old new step → IsUnfitAt program height new steps number → IsUnfitAt program height old (step ∷ steps) (number + 1)
unfit_more program height old new step steps number legal is = record {
  before = step ∷ is.before;
  step = is.step;
  after = is.after;
  parts = ap (λ rest. step ∷ rest) is.parts;
  counted = let count = is.counted in omega arith;
  here = is.here;
  legal = (new, legal, is.legal);
  rule = is.rule;
  numbered = is.numbered;
  new = is.new;
  leads = is.leads;
  unfit = is.unfit;
}

-- the run of a legal log
abbrev pub run_of : (laws : CauseLaws) (program : Parts) (is : IsProgram program) (log : Log) (legal : IsLegal program log) (touches : List Touch) → AreTouchesOf program log touches → LegalRun
run_of laws program is log legal touches are = record { laws = laws; program = program; is = is; height = log.height; steps = log.steps; touches = touches; are = are; last = legal.last; legal = legal.steps }

module _ (run : LegalRun) (order : List ℕ) (reorders : IsReordering run.touches order) where
  from : (done rest : List ℕ) (left : List LogStep) (here : Spot) → order ≡ done ++ rest → StandAt run.steps rest left → IsReached run done here
      → AreLegalSteps run.program run.height (map unlisted left) here run.last ⊎ ((number : ℕ) × IsUnfitAt run.program run.height here (map unlisted left) number)
  from done [] [] here parts stand reached =
      inl (all_reached run order here reorders.steps (subst (λ (places : List ℕ). IsReached run places here) (sym (parts ∙ append-nil done)) reached))
  from done (place ∷ rest) (step ∷ left) here parts stand reached =
      let next = is_next run.touches order done rest place reorders parts in
      let turn : IsTurn run = record { done = done; place = place; next = next; step = step; at = stand.0; here = here; reached = reached } in
      let new = leads_to run turn in
      ⊎_elim
      (λ fits.
      let goes : IsLegalStep run.program run.height here new (unlisted step) = legal_there run turn (unlisted step) (record { offer = refl; proofs = refl; stage = refl }) tt fits in
      ⊎_elim
      (λ rest. inl (new, goes, rest))
      (λ unfit. inr (unfit.0 + 1, unfit_more run.program run.height here new (unlisted step) (map unlisted left) unfit.0 goes unfit.1))
      (from (done ++ (place ∷ [])) rest left new (parts ∙ sym (append_assoc done (place ∷ []) rest)) stand.1 (reached_more run turn)))
      (λ unfit. inr (
        1,
        record {
          before = [];
          step = unlisted step;
          after = map unlisted left;
          parts = refl;
          counted = omega arith;
          here = here;
          legal = refl;
          rule = rule_of run turn;
          numbered = (as_written run turn).legal.machine.numbered;
          new = new.state;
          leads = step_there run turn;
          unfit = unfit;
        },
      ))
      (fits_or_not new.state)
  from done rest left here parts stand reached = absurd stand

  pub legal_in_order : (ordered : List LogStep) → StandAt run.steps order ordered → AreLegalSteps run.program run.height (map unlisted ordered) (start_spot run.program) run.last ⊎ ((number : ℕ) × IsUnfitAt run.program run.height (start_spot run.program) (map unlisted ordered) number)
  legal_in_order ordered stand = from [] order ordered (start_spot run.program) refl stand (reached_none run)

-- A step that passes a limit leads to a state that does not fit, if what it makes is fit.
pub goes_out : (program : Parts) (step : LogStep) (rule : Rule) (state : Multiset) (limit : Limit) → slice_get program.rules step.offer.rule ≡ Some rule → CanGo program step state
    → Passes program.signature rule step.offer.values state limit → GoesOut program step state
goes_out program step rule state Atom numbered can passes = absurd (passes (subst (λ (rule : Rule). MakesFit rule step.offer.values) (some_same can.rule rule (sym can.numbered ∙ numbered)) can.fit))
goes_out program step rule state State numbered can passes = record { rule = rule; numbered = numbered; new = passes.1.0; leads = passes.1.1; unfit = passes.1.2 }

cut_at : (places : List ℕ) (i place : ℕ) → slice_get places i ≡ Some place → places ≡ take i places ++ (place ∷ drop (suc i) places)
cut_at [] i place at = none_some place at
cut_at (first ∷ places) zero place at = ap (λ n. n ∷ places) (some_same first place at)
cut_at (first ∷ places) (suc i) place at = ap (λ rest. first ∷ rest) (cut_at places i place at)

prefix_long : (places : List ℕ) (i : ℕ) → i < length places → length (take i places) ≡ i
prefix_long places i less = grind (arith, common_steps)

-- one legal step more
legal_more : (program : Parts) (height : ℕ) (steps : List LogStep) (step : LogStep) (old here new : Spot) → AreLegalSteps program height steps old here → IsLegalStep program height here new step → AreLegalSteps program height (steps ++ (step ∷ [])) old new
legal_more program height [] step old here new legal is = (new, subst (λ (spot : Spot). IsLegalStep program height spot new step) legal is, refl)
legal_more program height (first ∷ steps) step old here new legal is = (legal.0, legal.1, legal_more program height steps step legal.0 here new legal.2 is)

-- What is given where a log is done in an order.
pub record IsGiven (program : Parts) (log : Log) (order : List ℕ) : Type 0 where
  pub laws : CauseLaws
  pub is : IsProgram program
  pub legal : IsLegal program log
  pub touches : List Touch
  pub are : AreTouchesOf program log touches
  pub orders : IsOrder touches order

pub given_by : (program : Parts) (log : Log) (order : List ℕ) → CauseLaws → IsProgram program → IsLegal program log → (touches : List Touch) × AreTouchesOf program log touches × IsOrder touches order → IsGiven program log order
given_by program log order laws is legal ordered = record { laws = laws; is = is; legal = legal; touches = ordered.0; are = ordered.1; orders = ordered.2 }

module _ (program : Parts) (log : Log) (order : List ℕ) (given : IsGiven program log order) where
  abbrev run : LegalRun
  run = run_of given.laws program given.is log given.legal given.touches given.are

  abbrev places : List ℕ
  places = step_places order

  -- A walk over so many steps of the order: they are legal one after another, and lead here.
  pub record IsWalkingAt (i : ℕ) (here : Spot) : Type 0 where
    pub prefix : List LogStep
    pub stood : StandAt log.steps (take i places) prefix
    pub so_far : AreLegalSteps program log.height (map unlisted prefix) (start_spot program) here
    pub reached : IsReached run (take i places) here
    pub of_program : IsSpotOf program here

  pub walk_begins : (spot : Spot) → IsSpotOf program spot → spot ≡ start_spot program → IsWalkingAt 0 spot
  walk_begins spot of_program starts =
      subst (λ (spot : Spot). IsWalkingAt 0 spot) (sym starts)
      (record { prefix = []; stood = tt; so_far = refl; reached = reached_none run; of_program = subst (IsSpotOf program) starts of_program })

  -- There are no more numbers than a u32 holds.
  pub few_steps : length order ≤ 67108864
  few_steps =
      let few = not_longer given.touches places given.orders.reorders in
      let long = as_long run in
      let lines = given.legal.of_program.few in
      let most = given.legal.of_program.lines in
      let same = length_map (λ (number : ℕ). number - 1) order in
      omega arith

  module _ (i number : ℕ) (at : slice_get order i ≡ Some number) (step : LogStep) (at_step : slice_get log.steps (number - 1) ≡ Some step) (here : Spot) (walking : IsWalkingAt i here) where
    at_place : slice_get places i ≡ Some (number - 1)
    at_place = get_mapped (λ (number : ℕ). number - 1) order i number at

    abbrev turn : IsTurn run
    turn = record {
      done = take i places;
      place = number - 1;
      next = is_next given.touches places (take i places) (drop (suc i) places) (number - 1) given.orders.reorders (cut_at places i (number - 1) at_place);
      step = step;
      at = at_step;
      here = here;
      reached = walking.reached;
    }

    -- The step can be done.
    pub can_go : CanGo program step here.state
    can_go = record {
      rule = rule_of run turn;
      numbered = (as_written run turn).legal.machine.numbered;
      fit = (as_written run turn).legal.machine.steps.fit;
      can = record {
        number = step.offer.rule;
        numbered = (as_written run turn).legal.machine.numbered;
        are = (as_written run turn).legal.machine.values;
        contained = contained run turn;
      };
    }

    -- Its lines can be written.
    pub can_put : StepwiseLaws → CanBePut program step
    can_put stepwise =
        let written = as_written run turn in
        stepwise.put program log.height written.old written.new step given.is (holds_at (IsStepOf program) log.steps (number - 1) step given.legal.of_program.steps at_step) written.legal

    -- It leads where it leads in the law.
    same_way : (new : Spot) → GoesTo program step here new → leads_to run turn ≡ new
    same_way new goes =
        let same : goes.rule ≡ rule_of run turn = some_same goes.rule (rule_of run turn) (sym goes.numbered ∙ (as_written run turn).legal.machine.numbered) in
        one_spot (leads_to run turn) new
        (sym (goes.steps.stage ∙ ap (λ (rule : Rule). unwrap_or rule.next here.stage) same))
        (given.laws.one_state program.signature (rule_of run turn) step.offer.values here.state (leads_to run turn).state new.state (step_there run turn)
        (subst (λ (rule : Rule). Step program.signature rule step.offer.values here.state new.state) same goes.steps.step))

    -- One step more.
    pub walk_goes_on : (new : Spot) → GoesTo program step here new → IsWalkingAt (i + 1) new
    walk_goes_on new goes =
        let more = take_next places i (number - 1) at_place in
        let same = same_way new goes in
        let fits : Fits (leads_to run turn).state = subst (λ (spot : Spot). Fits spot.state) (sym same) goes.steps.fits in
        let legal : IsLegalStep program log.height here (leads_to run turn) (unlisted step) = legal_there run turn (unlisted step) (record { offer = refl; proofs = refl; stage = refl }) tt fits in
        record {
          prefix = walking.prefix ++ (step ∷ []);
          stood = subst (λ (places : List ℕ). StandAt log.steps places (walking.prefix ++ (step ∷ []))) (sym more) (stand_both log.steps (take i places) ((number - 1) ∷ []) walking.prefix (step ∷ []) walking.stood (at_step, tt));
          so_far = subst (λ (steps : List LogStep). AreLegalSteps program log.height steps (start_spot program) new) (sym (map-append unlisted walking.prefix (step ∷ [])))
              (legal_more program log.height (map unlisted walking.prefix) (unlisted step) (start_spot program) here new walking.so_far (subst (λ (spot : Spot). IsLegalStep program log.height here spot (unlisted step)) same legal));
          reached = subst (λ (places : List ℕ). IsReached run places new) (sym more) (subst (λ (spot : Spot). IsReached run (take i places ++ ((number - 1) ∷ [])) spot) same (reached_more run turn));
          of_program = goes.of_program;
        }

    -- The step is the first that leads to a state that does not fit.
    pub walk_stops : GoesOut program step here.state → IsUnfitIn program log places (i + 1)
    walk_stops goes =
        let later = drop (suc i) places in
        let cut = cut_at places i (number - 1) at_place in
        let within = at_within order i number at in
        let same = length_map (λ (number : ℕ). number - 1) order in
        let rest = stand log.steps later (λ other there.
        let less = (given.orders.reorders.steps other).0 (subst (λ (places : List ℕ). Contains places other) (sym cut) (contains_right (take i places) ((number - 1) ∷ later) other (contains_behind (number - 1) later other there))) in
        let long = as_long run in omega arith) in
        let listed = walking.prefix ++ (step ∷ rest.0) in
        record {
          steps = map unlisted listed;
          are = record {
            listed = listed;
            stand = subst (λ (places : List ℕ). StandAt log.steps places listed) (sym cut) (stand_both log.steps (take i places) ((number - 1) ∷ later) walking.prefix (step ∷ rest.0) walking.stood (at_step, rest.1));
            unlist = refl;
          };
          unfit = record {
            before = map unlisted walking.prefix;
            step = unlisted step;
            after = map unlisted rest.0;
            parts = map-append unlisted walking.prefix (step ∷ rest.0);
            counted = let a = length_map unlisted walking.prefix in let b = stand_long log.steps (take i places) walking.prefix walking.stood in let d = prefix_long places i (omega arith) in omega arith;
            here = here;
            legal = walking.so_far;
            rule = goes.rule;
            numbered = goes.numbered;
            new = goes.new;
            leads = goes.leads;
            unfit = goes.unfit;
          };
        }

  -- All steps are done.
  pub walk_ends : (i : ℕ) (here : Spot) → length order ≤ i → IsWalkingAt i here → AreLegalIn program log places
  walk_ends i here all walking =
      let same = length_map (λ (number : ℕ). number - 1) order in
      let done = whole places i (omega arith) in
      record {
        steps = map unlisted walking.prefix;
        last = given.legal.last;
        are = record { listed = walking.prefix; stand = subst (λ (places : List ℕ). StandAt log.steps places walking.prefix) done walking.stood; unlist = refl };
        legal = subst (λ (spot : Spot). AreLegalSteps program log.height (map unlisted walking.prefix) (start_spot program) spot)
            (sym (all_reached run places here given.orders.reorders.steps (subst (λ (places : List ℕ). IsReached run places here) done walking.reached))) walking.so_far;
        ending = given.legal.ending;
      }
