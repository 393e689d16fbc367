-- In a reordering of a legal log each step is legal where it comes, and the outcome is one.
use Rattle.std.proofs.Common.{◌≡◌, ◌⊎◌, inl, inr, ⊎_elim, ℕ, zero, suc, ◌+◌, ◌<◌, Bool, true, false, List, [], ◌∷◌, ◌++◌, length, Option, Some, None, refl, sym, ap, ◌∙◌, subst, arith, Contains, ◌≤◌}
use Rattle.std.proofs.lemmas.Bool.{false≢true}
use Rattle.std.specs.Prelude.{slice_get, unwrap_or, is_some, IfSome, ◌↔◌}
use Rattle.cep_base.proofs.Lists.{some_same, holds_at}
use Rattle.cep_term.specs.Multiset.{Multiset, gathered, IsContained}
use Rattle.cep_base.proofs.Elements.{contains_none, contains_first, contains_cases, contains_left, contains_right, contains_either, contains_behind, contains_same, all_at}
use Rattle.cep_rule.specs.declared.rule.Rule.{Rule}
use Rattle.cep_rule.specs.declared.offer.Offer.{Offer}
use Rattle.cep_rule.specs.Derivations.{ProofTree}
use Rattle.cep_rule.specs.Instances.{full_instances, left_of, used_by}
use Rattle.cep_rule.specs.Matching.{state_after}
use Rattle.cep_rule.specs.Stages.{own_group, leaving_group, HasOffer}
use Rattle.cep_rule.specs.State.{Fits}
use Rattle.cep_rule.specs.Step.{Step}
use Rattle.cep_rule.specs.declared.parts.Parts.{Parts}
use Rattle.cep_rule.specs.Steps.{Spot, IsMachineStep, start_spot, stage_after}
use Rattle.cep_cause.specs.Reorderings.{Precedes, Respects, IsReordering}
use Rattle.cep_log.specs.declared.log.LogStep.{LogStep}
use Rattle.cep_log.specs.Legal.{IsLegalStep, AreLegalSteps}
use Rattle.cep_log.specs.Written.{DoTheSame}
use Rattle.cep_cause.specs.Tokens.{start_tokens}
use Rattle.cep_cause.specs.Touches.{Touch}
use Rattle.cep_cause.specs.CauseLaws.{CauseLaws}
use Rattle.cep_cause.proofs.Distinct.{Differ, differ_both, weighs_less}
use Rattle.cep_cause.proofs.Ordered.{three, IsNext, AreSpent, none_spent, spent_more}
use Rattle.cep_cause.specs.Reordered.{IsUnfitAt, StandAt}
use Rattle.cep_cause.proofs.StatesAfter.{IsStateAfter, state_at_start, state_more, one_state_after, stage_by, stage_stays, stage_more, first_stage, LegalRun, passed, as_long, takes, adds, IsFamiliar, familiar, IsOldStep, old_step, old_end, few_needed}
use Rattle.std.specs.List.{AllByRecursion, sum_by}
use Rattle.std.proofs.lemmas.List.Sums.{sum_by-cons}
use Rattle.std.specs.FinMap as finite
pub use Rattle.cep_base.proofs.Options.{item_at as got, within_got as at_within}

-- The central law: in a reordering of a legal log each step that comes is legal where it comes, if the state that it leads to fits, and the last spot is the old one.

pub one_spot : (one other : Spot) → one.stage ≡ other.stage → one.state ≡ other.state → one ≡ other
one_spot one other stage state = ap (λ n. record { stage = n; state = one.state }) stage ∙ ap (λ (s : Multiset). record { stage = other.stage; state = s }) state

module _ (run : LegalRun) where
  old_at : (place : ℕ) (step : LogStep) → slice_get run.steps place ≡ Some step → IsOldStep run place step
  old_at place step at = old_step run place step at

  known_at : (place : ℕ) (step : LogStep) (rule : Rule) → slice_get run.steps place ≡ Some step → slice_get run.program.rules step.offer.rule ≡ Some rule → IsFamiliar run place step rule
  known_at place step rule at numbered = familiar run place step rule at numbered

  -- A barrier stands at the place.
  pub record IsBarrier (place : ℕ) : Type 0 where
    pub touch : Touch
    pub at : slice_get run.touches place ≡ Some touch
    pub is_one : touch.barrier ≡ true

  -- a step that is none names no stage
  no_stage : (place : ℕ) (step : LogStep) → slice_get run.steps place ≡ Some step → (IsBarrier place → ⊥) → step.stage ≡ None
  no_stage place step at none =
      let old = old_at place step at in
      let rule = old.legal.rule in
      let known = known_at place step rule at old.legal.machine.numbered in
      old.legal.stage ∙ by rule.next (λ some. none (record { touch = known.touch; at = known.at; is_one = known.barrier ∙ some }))
    where
      by : (o : Option ℕ) → (is_some o ≡ true → ⊥) → o ≡ None
      by None none = refl
      by (Some n) none = absurd (none refl)

  -- Of the barriers those before the place are done.
  abbrev pub BarriersBelow : List ℕ → ℕ → Type 0
  BarriersBelow done place = (other : ℕ) → IsBarrier other → (Contains done other ↔ (other < place))

  -- The steps that are done in another order lead to a spot: its state is that after them, its stage the one that was before each place before which the same barriers stand.
  pub record IsReached (done : List ℕ) (here : Spot) : Type 0 where
    pub state_is : IsStateAfter run.laws run.program.signature run.program.start (takes run) (adds run) done here.state
    pub spent : AreSpent run.touches (start_tokens run.program.start) done
    pub differ : Differ done
    pub stage : (place : ℕ) → BarriersBelow done place → here.stage ≡ stage_by run.steps run.program.start_stage place

  -- At first the start is reached.
  pub reached_none : IsReached [] (start_spot run.program)
  reached_none = record {
    state_is = state_at_start run.laws run.program.signature run.program.start (takes run) (adds run) run.is.start;
    spent = none_spent run.touches (start_tokens run.program.start);
    differ = tt;
    stage = λ place barriers.
        sym (first_stage run.steps run.program.start_stage)
        ∙ stage_stays run.steps run.program.start_stage 0 place (omega arith) (λ other step few less at. no_stage other step at (λ barrier. contains_none other ((barriers other barrier).1 less)));
  }

  -- A step's turn in another order, after those that are done and lead here.
  pub record IsTurn : Type 0 where
    pub done : List ℕ
    pub place : ℕ
    pub next : IsNext run.touches done place
    pub step : LogStep
    pub at : slice_get run.steps place ≡ Some step
    pub here : Spot
    pub reached : IsReached done here

  module _ (turn : IsTurn) where
    pub as_written : IsOldStep run turn.place turn.step
    as_written = old_at turn.place turn.step turn.at

    abbrev pub rule_of : Rule
    rule_of = as_written.legal.rule

    pub known_of : IsFamiliar run turn.place turn.step rule_of
    known_of = known_at turn.place turn.step rule_of turn.at as_written.legal.machine.numbered

    -- The left side of the step is there.
    pub contained : IsContained (left_of run.program.signature rule_of turn.step.offer.values) turn.here.state
    contained a = grind (arith, few_needed, known_of, turn.done, turn.place, turn.next, turn.step, turn.reached.spent, turn.here.state, turn.reached.state_is)

    -- The barriers before it are done, and no other.
    barriers : BarriersBelow turn.done turn.place
    barriers other barrier = (
      λ there.
          ⊎_elim
          (λ less. less)
          (λ rest. absurd (⊎_elim
          (λ same. turn.next.new (subst (λ n. Contains turn.done n) same there))
          (λ more. turn.next.after other there (record { is_earlier = more; earlier = known_of.touch; at_earlier = known_of.at; later = barrier.touch; at_later = barrier.at; why = inr (inr barrier.is_one) }))
          rest))
          (three other turn.place),
      λ less. turn.next.before other (record { is_earlier = less; earlier = barrier.touch; at_earlier = barrier.at; later = known_of.touch; at_later = known_of.at; why = inr (inl barrier.is_one) }),
    )

    stage_here : turn.here.stage ≡ stage_by run.steps run.program.start_stage turn.place
    stage_here = turn.reached.stage turn.place barriers

    same_stage : turn.here.stage ≡ as_written.old.stage
    same_stage = stage_here ∙ sym as_written.prefix.stage

    -- A barrier stands where it stood: the same is done, so the state is the same.
    all_before : known_of.touch.barrier ≡ true → (other : ℕ) → (Contains turn.done other ↔ (other < turn.place))
    all_before barrier other = (
      λ there.
          ⊎_elim
          (λ less. less)
          (λ rest. absurd (⊎_elim
          (λ same. turn.next.new (subst (λ n. Contains turn.done n) same there))
          (λ more.
          let later = got run.touches other (turn.next.within other there) in
          turn.next.after other there (record { is_earlier = more; earlier = known_of.touch; at_earlier = known_of.at; later = later.0; at_later = later.1; why = inr (inl barrier) }))
          rest))
          (three other turn.place),
      λ less.
          let within = at_within run.steps turn.place turn.step turn.at in
          let earlier = got run.touches other (let long = as_long run in omega arith) in
          turn.next.before other (record { is_earlier = less; earlier = earlier.0; at_earlier = earlier.1; later = known_of.touch; at_later = known_of.at; why = inr (inr barrier) }),
    )

    same_state : known_of.touch.barrier ≡ true → turn.here.state ≡ as_written.old.state
    same_state barrier =
        one_state_after run.laws run.program.signature run.program.start (takes run) (adds run) turn.done as_written.prefix.done turn.here.state as_written.old.state turn.reached.state_is as_written.prefix.state_is turn.reached.differ as_written.prefix.differ
        (λ other there. (as_written.prefix.are other).1 ((all_before barrier other).0 there))
        (λ other there. (all_before barrier other).1 ((as_written.prefix.are other).0 there))

    -- It is the step's turn.
    in_turn : (rule_of.group ≡ own_group turn.here.stage) ⊎ ((rule_of.group ≡ leaving_group turn.here.stage) × ¬ HasOffer run.program run.height turn.here.state (own_group turn.here.stage))
    in_turn = grind (arith, same_stage, same_state, run.program, run.height, turn.here.stage)

    -- where it leads
    abbrev pub leads_to : Spot
    leads_to = record {
      stage = unwrap_or rule_of.next turn.here.stage;
      state = state_after run.program.signature turn.here.state (gathered (used_by run.program.signature rule_of turn.step.offer.values)) (full_instances turn.step.offer.values rule_of.right);
    }

    pub step_there : Step run.program.signature rule_of turn.step.offer.values turn.here.state leads_to.state
    step_there = run.laws.lean run.program.signature rule_of turn.step.offer.values turn.here.state known_of.typed as_written.legal.machine.values turn.reached.state_is.is_state contained

    -- The step is legal where it comes, if the state that it leads to fits; and so is any step that step_there the same, with a listing of that state or none.
    pub legal_there : (step' : LogStep) → DoTheSame turn.step step' → IfSome step'.mid (λ mid. mid.state ≡ finite.entries leads_to.state) → Fits leads_to.state → IsLegalStep run.program run.height turn.here leads_to step'
    legal_there step' same mid fits =
        let machine : IsMachineStep run.program run.height turn.here leads_to turn.step.offer rule_of turn.step.proofs = record {
          numbered = as_written.legal.machine.numbered;
          values = as_written.legal.machine.values;
          in_turn = in_turn;
          proved = as_written.legal.machine.proved;
          steps = record { fit = as_written.legal.machine.steps.fit; step = step_there; fits = fits; stage = refl };
        } in
        record {
          rule = rule_of;
          machine = subst (λ (offer : Offer). IsMachineStep run.program run.height turn.here leads_to offer rule_of step'.proofs) same.offer (subst (λ (proofs : List ProofTree). IsMachineStep run.program run.height turn.here leads_to turn.step.offer rule_of proofs) same.proofs machine);
          stage = sym same.stage ∙ as_written.legal.stage;
          mid = mid;
        }

    there_stage : leads_to.stage ≡ stage_by run.steps run.program.start_stage (turn.place + 1)
    there_stage = grind (arith, stage_here, stage_more, turn.here.stage, turn.step.stage, run.steps, run.program.start_stage, turn.place, turn.step, turn.at)

    stage_later : (p : ℕ) → (t : Bool) → is_some rule_of.next ≡ t → BarriersBelow (turn.done ++ (turn.place ∷ [])) p → leads_to.stage ≡ stage_by run.steps run.program.start_stage p
    stage_later p true is below' =
        let here_is : IsBarrier turn.place = record { touch = known_of.touch; at = known_of.at; is_one = known_of.barrier ∙ is } in
        let less = (below' turn.place here_is).0 (contains_right turn.done (turn.place ∷ []) turn.place (contains_first turn.place [])) in
        there_stage
        ∙ stage_stays run.steps run.program.start_stage (turn.place + 1) p (omega arith)
        (λ other step' few less' at'. no_stage other step' at' (λ barrier.
        ⊎_elim
        (λ before. let few' = (barriers other barrier).0 before in omega arith)
        (λ last. ⊎_elim (λ same. omega arith) (λ none. contains_none other none) (contains_cases turn.place [] other last))
        (contains_either turn.done (turn.place ∷ []) other ((below' other barrier).1 less'))))
    stage_later p false is below' =
        next_none rule_of.next is ∙ turn.reached.stage p (λ other barrier. (
          λ there. (below' other barrier).0 (contains_left turn.done (turn.place ∷ []) other there),
          λ less.
              ⊎_elim
              (λ before. before)
              (λ last. absurd (⊎_elim (λ same. no_barrier other same barrier) (λ none. contains_none other none) (contains_cases turn.place [] other last)))
              (contains_either turn.done (turn.place ∷ []) other ((below' other barrier).1 less)),
        ))
      where
        next_none : (o : Option ℕ) → is_some o ≡ false → unwrap_or o turn.here.stage ≡ turn.here.stage
        next_none None is = refl
        next_none (Some n) is = absurd (false≢true (sym is))

        no_barrier : (other : ℕ) → turn.place ≡ other → IsBarrier other → ⊥
        no_barrier other same barrier =
            let touch : known_of.touch ≡ barrier.touch = some_same known_of.touch barrier.touch (sym known_of.at ∙ ap (λ n. slice_get run.touches n) same ∙ barrier.at) in
            false≢true (sym is ∙ sym known_of.barrier ∙ ap (λ (t : Touch). t.barrier) touch ∙ barrier.is_one)

    -- One step more is done.
    pub reached_more : IsReached (turn.done ++ (turn.place ∷ [])) leads_to
    reached_more = record {
      state_is =
          state_more run.laws run.program.signature run.program.start (takes run) (adds run) rule_of turn.step.offer.values turn.done turn.place turn.here.state leads_to.state
          known_of.typed as_written.legal.machine.values known_of.take known_of.add turn.reached.state_is
          (run.laws.lead run.program.signature rule_of turn.step.offer.values turn.here.state leads_to.state known_of.typed known_of.divided as_written.legal.machine.values turn.reached.state_is.is_state as_written.legal.machine.steps.fit step_there) step_there;
      spent = spent_more run.touches (start_tokens run.program.start) (passed run) turn.done turn.place turn.next known_of.touch known_of.at turn.reached.spent;
      differ = differ_both turn.done (turn.place ∷ []) turn.reached.differ ((λ none. contains_none turn.place none), tt) (λ other there last. ⊎_elim (λ same. turn.next.new (subst (λ n. Contains turn.done n) (sym same) there)) (λ none. contains_none other none) (contains_cases turn.place [] other last));
      stage = λ p below'. stage_later p (is_some rule_of.next) refl below';
    }

  -- After all steps stands the old run.last spot.
  pub all_reached : (order : List ℕ) (here : Spot) → ((place : ℕ) → (Contains order place ↔ (place < length run.touches))) → IsReached order here → run.last ≡ here
  all_reached order here all reached =
      let end = old_end run in
      sym (one_spot here run.last
      (reached.stage (length run.steps) (λ other barrier. ((λ there. let less = (all other).0 there in let long = as_long run in omega arith), (λ less. (all other).1 (let long = as_long run in omega arith)))) ∙ sym end.stage)
      (one_state_after run.laws run.program.signature run.program.start (takes run) (adds run) order end.done here.state run.last.state reached.state_is end.state_is reached.differ end.differ
      (λ other there. (end.are other).1 (let less = (all other).0 there in let long = as_long run in omega arith))
      (λ other there. (all other).1 (let less = (end.are other).0 there in let long = as_long run in omega arith))))

-- Steps come to one outcome; and the written order is one of the orders.

module _ (laws : CauseLaws) (program : Parts) (height : ℕ) where
  -- A step leads to one state.
  one_way : (old : Spot) (step : LogStep) (rule rule' : Rule) (new new' : Multiset) → slice_get program.rules step.offer.rule ≡ Some rule → slice_get program.rules step.offer.rule ≡ Some rule'
      → Step program.signature rule step.offer.values old.state new → Step program.signature rule' step.offer.values old.state new' → new ≡ new'
  one_way old step rule rule' new new' at at' does does' =
      laws.one_state program.signature rule step.offer.values old.state new new' does
      (subst (λ (rule : Rule). Step program.signature rule step.offer.values old.state new') (some_same rule' rule (sym at' ∙ at)) does')

  one_next : (old new new' : Spot) (step : LogStep) → IsLegalStep program height old new step → IsLegalStep program height old new' step → new ≡ new'
  one_next old new new' step is is' =
      one_spot new new'
      (is.machine.steps.stage ∙ ap (λ (rule : Rule). stage_after rule old.stage) (some_same is.rule is'.rule (sym is.machine.numbered ∙ is'.machine.numbered)) ∙ sym is'.machine.steps.stage)
      (one_way old step is.rule is'.rule new.state new'.state is.machine.numbered is'.machine.numbered is.machine.steps.step is'.machine.steps.step)

  -- a step that is legal does not lead to a state that does not fit
  goes : (old new : Spot) (first step : LogStep) (rule : Rule) (other : Multiset) → first ≡ step → IsLegalStep program height old new first → slice_get program.rules step.offer.rule ≡ Some rule
      → Step program.signature rule step.offer.values old.state other → (Fits other → ⊥) → ⊥
  goes old new first step rule other same is at does unfit =
      let is' : IsLegalStep program height old new step = subst (λ (s : LogStep). IsLegalStep program height old new s) same is in
      unfit (subst Fits (one_way old step is'.rule rule new.state other is'.machine.numbered at is'.machine.steps.step does) is'.machine.steps.fits)

  -- Steps that are all legal lead to no state that does not fit.
  not_both : (prefix suffix steps : List LogStep) (step : LogStep) (old here last : Spot) (rule : Rule) (new : Multiset) → steps ≡ prefix ++ (step ∷ suffix) → AreLegalSteps program height steps old last → AreLegalSteps program height prefix old here
      → slice_get program.rules step.offer.rule ≡ Some rule → Step program.signature rule step.offer.values here.state new → (Fits new → ⊥) → ⊥
  not_both [] suffix (first ∷ steps) step old here last rule new parts all legal at does unfit =
      let same : first ≡ step = cc in
      goes old all.0 first step rule new same all.1 at (subst (λ (spot : Spot). Step program.signature rule step.offer.values spot.state new) legal does) unfit
  not_both (one ∷ prefix) suffix (first ∷ steps) step old here last rule new parts all legal at does unfit =
      let same : first ≡ one = cc in
      let rest : steps ≡ prefix ++ (step ∷ suffix) = cc in
      let next = one_next old legal.0 all.0 one legal.1 (subst (λ (s : LogStep). IsLegalStep program height old all.0 s) same all.1) in
      not_both prefix suffix steps step all.0 here last rule new rest all.2 (subst (λ (spot : Spot). AreLegalSteps program height prefix spot here) next legal.2) at does unfit
  not_both prefix suffix steps step old here last rule new parts all legal at does unfit = absurd cc

  pub legal_or_unfit : (old last : Spot) (steps : List LogStep) (number : ℕ) → AreLegalSteps program height steps old last → IsUnfitAt program height old steps number → ⊥
  legal_or_unfit old last steps number legal is = not_both is.before is.after steps is.step old is.here last is.rule is.new is.parts legal is.legal is.numbered is.leads is.unfit

  -- One is the first that does.
  as_far : (prefix suffix prefix' suffix' : List LogStep) (step step' : LogStep) (old here here' : Spot) (rule rule' : Rule) (new new' : Multiset) → prefix ++ (step ∷ suffix) ≡ prefix' ++ (step' ∷ suffix')
      → AreLegalSteps program height prefix old here → AreLegalSteps program height prefix' old here'
      → slice_get program.rules step.offer.rule ≡ Some rule → slice_get program.rules step'.offer.rule ≡ Some rule'
      → Step program.signature rule step.offer.values here.state new → Step program.signature rule' step'.offer.values here'.state new'
      → (Fits new → ⊥) → (Fits new' → ⊥) → length prefix ≡ length prefix'
  as_far [] suffix [] suffix' step step' old here here' rule rule' new new' parts legal legal' at at' does does' unfit unfit' = refl
  as_far [] suffix (one ∷ prefix') suffix' step step' old here here' rule rule' new new' parts legal legal' at at' does does' unfit unfit' =
      let same : one ≡ step = cc in
      absurd (goes old legal'.0 one step rule new same legal'.1 at (subst (λ (spot : Spot). Step program.signature rule step.offer.values spot.state new) legal does) unfit)
  as_far (one ∷ prefix) suffix [] suffix' step step' old here here' rule rule' new new' parts legal legal' at at' does does' unfit unfit' =
      let same : one ≡ step' = cc in
      absurd (goes old legal.0 one step' rule' new' same legal.1 at' (subst (λ (spot : Spot). Step program.signature rule' step'.offer.values spot.state new') legal' does') unfit')
  as_far (one ∷ prefix) suffix (other ∷ prefix') suffix' step step' old here here' rule rule' new new' parts legal legal' at at' does does' unfit unfit' =
      let same : other ≡ one = cc in
      let rest : prefix ++ (step ∷ suffix) ≡ prefix' ++ (step' ∷ suffix') = cc in
      let next = one_next old legal'.0 legal.0 one (subst (λ (s : LogStep). IsLegalStep program height old legal'.0 s) same legal'.1) legal.1 in
      ap suc (as_far prefix suffix prefix' suffix' step step' legal.0 here here' rule rule' new new' rest legal.2 (subst (λ (spot : Spot). AreLegalSteps program height prefix' spot here') next legal'.2) at at' does does' unfit unfit')

  pub one_unfit : (old : Spot) (steps : List LogStep) (number number' : ℕ) → IsUnfitAt program height old steps number → IsUnfitAt program height old steps number' → number ≡ number'
  one_unfit old steps number number' is is' =
      let same = as_far is.before is.after is'.before is'.after is.step is'.step old is.here is'.here is.rule is'.rule is.new is'.new (sym is.parts ∙ is'.parts) is.legal is'.legal is.numbered is'.numbered is.leads is'.leads is.unfit is'.unfit in
      let counted = is.counted in
      let counted' = is'.counted in
      omega arith

-- A legal log in another order, told in version 2.

downto : ℕ → List ℕ
downto zero = []
downto (suc n) = n ∷ downto n

downto_has : (n place : ℕ) → place < n → Contains (downto n) place
unfolding downto
downto_has zero place less = absurd (omega arith)
downto_has (suc n) place less =
    ⊎_elim
    (λ below. contains_behind n (downto n) place (downto_has n place below))
    (λ rest. ⊎_elim (λ same. contains_same n (downto n) place (sym same)) (λ more. absurd (omega arith)) rest)
    (three place n)

ones : {X : Type 0} (xs : List X) → sum_by (λ (x : X). 1) xs ≡ length xs
ones [] = refl
ones {X} (x ∷ xs) = let first = sum_by-cons (λ (x : X). 1) x xs in let rest = ones xs in omega arith

downto_long : (n : ℕ) → length (downto n) ≡ n
unfolding downto
downto_long zero = refl
downto_long (suc n) = ap suc (downto_long n)

respects_differ : (touches : List Touch) (order : List ℕ) → Respects touches order → Differ order
respects_differ touches [] respects = tt
respects_differ touches (place ∷ order) respects = (λ there. (all_at (λ later. ¬ (place ≡ later) × ¬ Precedes touches later place) order place respects.0 there).0 refl, respects_differ touches order respects.1)

pub not_longer : (touches : List Touch) (order : List ℕ) → IsReordering touches order → length order ≤ length touches
not_longer touches order is =
    let less = weighs_less (λ (place : ℕ). 1) order (downto (length touches)) (respects_differ touches order is.respects) (λ place there. downto_has (length touches) place ((is.steps place).0 there)) in
    let one = ones order in
    let all = ones (downto (length touches)) in
    let long = downto_long (length touches) in
    omega arith

pub stand_long : {X : Type 0} (all : List X) (order : List ℕ) (xs : List X) → StandAt all order xs → length xs ≡ length order
stand_long all (place ∷ order) (x ∷ xs) at = ap suc (stand_long all order xs at.1)
stand_long all order xs at = grind arith

-- The steps stand in a list where an order has them.
pub stand : {X : Type 0} (all : List X) (order : List ℕ) → ((place : ℕ) → Contains order place → place < length all) → (xs : List X) × StandAt all order xs
stand all [] within = ([], tt)
stand all (place ∷ order) within =
    let first = got all place (within place (contains_first place order)) in
    let rest = stand all order (λ other there. within other (contains_behind place order other there)) in
    (first.0 ∷ rest.0, (first.1, rest.1))

pub stand_all : {X : Type 0} (P : X → Type 0) (all : List X) (order : List ℕ) (xs : List X) → AllByRecursion P all → StandAt all order xs → AllByRecursion P xs
stand_all P all (place ∷ order) (x ∷ xs) holds at = (holds_at P all place x holds at.0, stand_all P all order xs holds at.1)
stand_all P all order xs holds at = grind arith
