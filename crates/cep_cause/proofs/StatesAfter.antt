-- The state after steps that are done is one in whatever order they are done, by counts and by what the tokens weigh.
use Rattle.std.proofs.Common.{◌≡◌, ℕ, ◌+◌, ◌-◌, min, Bool, true, false, List, [], ◌∷◌, ◌++◌, ap, ◌∙◌, arith, Contains, ◌⊎◌, ⊎_elim, zero, suc, ◌%◌, ◌<◌, ◌≤◌, length, Option, Some, None, refl, sym, subst, add-one, ◌≢◌}
use Rattle.std.specs.List.{sum_by, flat_map}
use Rattle.std.proofs.lemmas.List.Sums.{sum_by_push, sum_by-append, sum_by-cons}
use Rattle.cep_term.specs.Tree.{Tree, AtomTree}
use Rattle.cep_term.specs.Multiset.{Multiset, count_of, gathered, sum_of, difference_of, held, gained}
use Rattle.cep_rule.specs.declared.signature.Signature.{Signature}
use Rattle.cep_rule.specs.declared.rule.Rule.{Rule}
use Rattle.cep_rule.specs.Typing.{AreValues, is_fact}
use Rattle.cep_rule.specs.Matching.{state_after}
use Rattle.cep_rule.specs.State.{IsState}
use Rattle.cep_rule.specs.Instances.{full_instances, used_by, left_of}
use Rattle.cep_rule.specs.Step.{Step}
use Rattle.cep_rule.specs.Program.{IsTypedRule, IsDividedRule, IsGroupedRule, IsProgram}
use Rattle.cep_cause.specs.CauseLaws.{CauseLaws}
use Rattle.cep_cause.proofs.Distinct.{Differ, weigh_the_same, differ_both}
use Rattle.std.specs.Prelude.{slice_get, unwrap_or, is_some, ◌↔◌}
use Rattle.cep_base.proofs.Lists.{none_some, some_same, holds_at}
use Rattle.cep_base.proofs.Elements.{contains_none, contains_cases, contains_left, contains_right, contains_either, contains_same, map_cases}
use Rattle.cep_rule.specs.declared.parts.Parts.{Parts}
use Rattle.cep_rule.specs.Binding.{needed_of}
use Rattle.cep_rule.specs.Steps.{Spot, start_spot}
use Rattle.cep_log.specs.declared.log.LogStep.{LogStep}
use Rattle.cep_log.specs.Legal.{IsLegalStep, AreLegalSteps}
use Rattle.cep_cause.specs.Tokens.{Token, token_atoms, token_state, listed_copies, start_tokens, staying}
use Rattle.cep_cause.specs.Touches.{Touch, present_after, IsTouch, AreTouches}
use Rattle.cep_cause.proofs.Tokened.{made_later, removed_used, comes_from, not_used_later, AreBelow, picks_atoms, removed_atoms, linear_of, picks_differ, removes_differ, gained_less, numbered_atoms, linear_used, weight, weigh_tokens, start_counts}
use Rattle.cep_cause.proofs.Ordered.{ArePassed, touch_is, removed_at, still, made_at, removed_by, there_by, IsNext, AreSpent, enough}
use Rattle.std.specs.FinMap as finite

-- The state after steps that are done, by counts alone: so it is one in whatever order they are done.

-- how many copies of an atom the parts at these places have in all
abbrev pub sum_at : (ℕ → List AtomTree) → AtomTree → List ℕ → ℕ
sum_at parts a done = sum_by (λ (place : ℕ). count_of (gathered (parts place)) a) done

module _ (laws : CauseLaws) (signature : Signature) where
  -- What a step does to a count.
  record DoesToCounts (taken added : List AtomTree) (old new : Multiset) : Type 0 where
    linear : (a : AtomTree) → is_fact signature a ≡ false → count_of new a + count_of (gathered taken) a ≡ count_of old a + count_of (gathered added) a
    facts : (a : AtomTree) → is_fact signature a ≡ true → count_of new a ≡ min 1 (count_of old a + count_of (gathered added) a)

  module _ (rule : Rule) (values : List Tree) (typed : IsTypedRule signature rule) (are : AreValues signature.cons rule.kinds values) where
    step_counts : (old new : Multiset) → IsState signature old → Step signature rule values old new → DoesToCounts (used_by signature rule values) (full_instances values rule.right) old new
    step_counts old new is_state step =
        let there = laws.contained signature rule values old new step in
        let taken = gathered (used_by signature rule values) in
        let added = full_instances values rule.right in
        let same = laws.one_state signature rule values old new (state_after signature old taken added) step (laws.lean signature rule values old typed are is_state there) in
        let counts : (a : AtomTree) (t : Bool) → is_fact signature a ≡ t → count_of new a ≡ held t (count_of old a - count_of taken a + count_of (gathered added) a) =
        λ a t is.
        ap (λ (state : Multiset). count_of state a) same
        ∙ laws.bags.once_count (is_fact signature) (sum_of (difference_of old taken) (gathered added)) a
        ∙ ap (λ (t : Bool). held t (count_of (sum_of (difference_of old taken) (gathered added)) a)) is
        ∙ ap (held t) (laws.bags.sum (difference_of old taken) (gathered added) a ∙ ap (λ n. n + count_of (gathered added) a) (laws.bags.difference old taken a)) in
        record {
          linear = λ a is. let count = counts a false is in let enough = laws.used signature rule values old there a in omega arith;
          facts = λ a is. let count = counts a true is in let none = laws.no_facts signature rule values a is in omega arith;
        }

  module _ (start : Multiset) (takes adds : ℕ → List AtomTree) where
    -- A state is that after the steps that are done: of a linear atom it has as many copies as there were at first and came, without those that went; and of a fact one, if there was one or one came.
    pub record IsStateAfter (done : List ℕ) (state : Multiset) : Type 0 where
      pub is_state : IsState signature state
      pub linear : (a : AtomTree) → is_fact signature a ≡ false → count_of state a + sum_at takes a done ≡ count_of start a + sum_at adds a done
      pub facts : (a : AtomTree) → is_fact signature a ≡ true → count_of state a ≡ min 1 (count_of start a + sum_at adds a done)

    -- At first it is the start.
    pub state_at_start : IsState signature start → IsStateAfter [] start
    state_at_start is_state = grind (arith, is_state.once)

    -- After the same steps there is one state.
    pub one_state_after : (done done' : List ℕ) (state state' : Multiset) → IsStateAfter done state → IsStateAfter done' state' → Differ done → Differ done'
        → ((place : ℕ) → Contains done place → Contains done' place) → ((place : ℕ) → Contains done' place → Contains done place) → state ≡ state'
    one_state_after done done' state state' is is' differ differ' within within' = grind (arith, weigh_the_same, laws.bags.equal, is.is_state.bag, is'.is_state.bag, is.facts, is'.facts, is.linear, is'.linear)

    -- One step more is done.
    pub state_more : (rule : Rule) (values : List Tree) (done : List ℕ) (place : ℕ) (old new : Multiset) → IsTypedRule signature rule → AreValues signature.cons rule.kinds values
        → takes place ≡ used_by signature rule values → adds place ≡ full_instances values rule.right
        → IsStateAfter done old → IsState signature new → Step signature rule values old new → IsStateAfter (done ++ (place ∷ [])) new
    state_more rule values done place old new typed are take add is is_state step = grind (arith, step_counts rule values typed are old new is.is_state step, sum_by_push, is.is_state, is.linear, is.facts)

-- What the written order of a legal log gives: of each step where it was done, and what it did to tokens.

-- the instances of the right atoms of a rule, where there is one
abbrev pub right_by : List Tree → Option Rule → List AtomTree
right_by values None = []
right_by values (Some rule) = full_instances values rule.right

abbrev pub right_by_step : List Rule → Option LogStep → List AtomTree
right_by_step rules None = []
right_by_step rules (Some step) = right_by step.offer.values (slice_get rules step.offer.rule)

last_or : (a b : ℕ) → a < b + 1 → (a < b) ⊎ (b ≡ a)
last_or a b less = grind arith

-- the stage after so many steps
abbrev pub stage_by : List LogStep → ℕ → ℕ → ℕ
stage_by [] stage n = stage
stage_by (step ∷ steps) stage zero = stage
stage_by (step ∷ steps) stage (suc n) = stage_by steps (unwrap_or step.stage stage) n

pub first_stage : (steps : List LogStep) (stage : ℕ) → stage_by steps stage 0 ≡ stage
first_stage [] stage = refl
first_stage (step ∷ steps) stage = refl

-- It is the same where no step in between names one.
pub stage_stays : (steps : List LogStep) (stage few many : ℕ) → few ≤ many → ((place : ℕ) (step : LogStep) → few ≤ place → place < many → slice_get steps place ≡ Some step → step.stage ≡ None) → stage_by steps stage few ≡ stage_by steps stage many
stage_stays (step ∷ steps) stage zero (suc many) less none =
    let same : stage ≡ unwrap_or step.stage stage = ap (λ (o : Option ℕ). unwrap_or o stage) (sym (none 0 step (omega arith) (omega arith) refl)) in
    sym (first_stage steps stage) ∙ stage_stays steps stage 0 many (omega arith) (λ place other few' less' at. none (suc place) other (omega arith) (omega arith) at) ∙ ap (λ s. stage_by steps s many) same
stage_stays (step ∷ steps) stage (suc few) (suc many) less none = rw (stage_stays steps (unwrap_or step.stage stage) few many (omega arith) (λ place other few' less' at. none (suc place) other (omega arith) (omega arith) at))
stage_stays steps stage few many less none = grind arith

one_more : (steps : List LogStep) (stage place : ℕ) (step : LogStep) → slice_get steps place ≡ Some step → stage_by steps stage (suc place) ≡ unwrap_or step.stage (stage_by steps stage place)
one_more (first ∷ steps) stage (suc place) step at = one_more steps (unwrap_or first.stage stage) place step at
one_more steps stage place step at = grind (arith, none_some, first_stage, some_same)

-- One step more names its stage, or none.
pub stage_more : (steps : List LogStep) (stage place : ℕ) (step : LogStep) → slice_get steps place ≡ Some step → stage_by steps stage (place + 1) ≡ unwrap_or step.stage (stage_by steps stage place)
stage_more steps stage place step at = ap (λ n. stage_by steps stage n) (add-one place) ∙ one_more steps stage place step at

module _ (program : Parts) where
  -- What a step does to tokens, wherever it stands.
  pub record DoesToTokens (step : LogStep) (touch : Touch) : Type 0 where
    pub rule : Rule
    pub numbered_by : slice_get program.rules step.offer.rule ≡ Some rule
    pub uses : full_instances step.offer.values (needed_of rule) ≡ token_atoms touch.uses
    pub removes : used_by program.signature rule step.offer.values ≡ token_atoms touch.removes
    pub makes : (laws : CauseLaws) (a : AtomTree) → count_of (gathered (token_atoms touch.makes)) a ≤ count_of (gathered (full_instances step.offer.values rule.right)) a
    pub differ : Differ (linear_of program.signature touch.uses)
    pub once : Differ touch.removes
    pub used : (token : Token) → Contains touch.removes token → Contains touch.uses token
    pub barrier : touch.barrier ≡ is_some rule.next

  does_to_tokens : (next : ℕ) (present : List Token) (step : LogStep) (touch : Touch) → IsTouch program next present step touch → DoesToTokens step touch
  does_to_tokens next present step touch is =
      let signature = program.signature in
      let values = step.offer.values in
      let right = full_instances values is.rule.right in
      let gains = gained (is_fact signature) (token_state (staying touch.removes present)) right in
      record {
        rule = is.rule;
        numbered_by = is.numbered_by;
        uses = picks_atoms signature values present [] is.rule.premises touch.uses is.uses;
        removes = removed_atoms signature values present [] is.rule.premises touch.uses is.uses ∙ ap token_atoms (sym is.removes);
        makes = λ laws a.
            let atoms = ap (λ (tokens : List Token). count_of (gathered (token_atoms tokens)) a) is.makes in
            let same = ap (λ (atoms : List AtomTree). count_of (gathered atoms) a) (numbered_atoms laws.bags a next gains) in
            let less = gained_less laws.bags a (is_fact signature) (token_state (staying touch.removes present)) right in
            omega arith;
        differ = picks_differ signature values present [] is.rule.premises touch.uses is.uses;
        once = subst Differ (sym is.removes) (removes_differ signature values present [] is.rule.premises touch.uses is.uses);
        used = λ token there. removed_used signature is.rule.premises touch.uses token (subst (λ (tokens : List Token). Contains tokens token) is.removes there);
        barrier = is.barrier;
      }

  -- Where a step touches tokens.
  pub record IsTouchedAt (touches : List Touch) (place : ℕ) (step : LogStep) : Type 0 where
    pub touch : Touch
    pub at : slice_get touches place ≡ Some touch
    pub does : DoesToTokens step touch

  pub touched : (next : ℕ) (present : List Token) (steps : List LogStep) (touches : List Touch) (place : ℕ) (step : LogStep) → AreTouches program next present steps touches → slice_get steps place ≡ Some step → IsTouchedAt touches place step
  touched next present [] [] place step are at = none_some step at
  touched next present (first ∷ steps) (touch ∷ touches) zero step are at =
      record { touch = touch; at = refl; does = does_to_tokens next present step touch (subst (λ (s : LogStep). IsTouch program next present s touch) (some_same first step at) are.0) }
  touched next present (first ∷ steps) (touch ∷ touches) (suc place) step are at = grind (arith, touched (next + length touch.makes) (present_after present touch) steps touches place step are.1, touch.makes, are.1)
  touched next present steps touches place step are at = absurd are

  -- The step that a touch is of.
  pub record IsOfStep (steps : List LogStep) (place : ℕ) (touch : Touch) : Type 0 where
    pub step : LogStep
    pub at : slice_get steps place ≡ Some step
    pub does : DoesToTokens step touch

  pub of_step : (next : ℕ) (present : List Token) (steps : List LogStep) (touches : List Touch) (place : ℕ) (touch : Touch) → AreTouches program next present steps touches → slice_get touches place ≡ Some touch → IsOfStep steps place touch
  of_step next present (step ∷ steps) (first ∷ touches) zero touch are at =
      record { step = step; at = refl; does = does_to_tokens next present step touch (subst (λ (t : Touch). IsTouch program next present step t) (some_same first touch at) are.0) }
  of_step next present (step ∷ steps) (first ∷ touches) (suc place) touch are at = grind (arith, of_step (next + length first.makes) (present_after present first) steps touches place touch are.1, first.makes, are.1)
  of_step next present steps touches place touch are at = grind (arith, none_some)

  pub as_many : (next : ℕ) (present : List Token) (steps : List LogStep) (touches : List Touch) → AreTouches program next present steps touches → length touches ≡ length steps
  as_many next present (step ∷ steps) (first ∷ touches) are = ap suc (as_many (next + length first.makes) (present_after present first) steps touches are.1)
  as_many next present steps touches are = grind arith

  -- Tokens pass from step to step.
  pub are_passed : (next : ℕ) (present : List Token) (steps : List LogStep) (touches : List Touch) → AreTouches program next present steps touches → AreBelow program next present → ArePassed touches present
  are_passed next present steps touches are below = record {
    comes = λ place touch token at uses. comes_from program next present steps touches place touch token are at uses;
    gone = λ one other touch touch' token less at at' removes uses. not_used_later program next present steps touches one other touch touch' token are below less at at' removes uses;
    used = λ place touch token at removes. (of_step next present steps touches place touch are at).does.used token removes;
    once = λ place touch at. (of_step next present steps touches place touch are at).does.once;
  }

-- A run as a log tells it: legal steps of a program from its start to a last spot, and what they do
-- to tokens.
pub record LegalRun : Type 0 where
  pub laws : CauseLaws
  pub program : Parts
  pub is : IsProgram program
  pub height : ℕ
  pub steps : List LogStep
  pub touches : List Touch
  pub are : AreTouches program (length (start_tokens program.start)) (start_tokens program.start) steps touches
  pub last : Spot
  pub legal : AreLegalSteps program height steps (start_spot program) last

module _ (run : LegalRun) where
  below : (token : Token) → Contains (start_tokens run.program.start) token → token.number < length (start_tokens run.program.start)
  below token there = let is = (made_later 0 (listed_copies run.program.start) token there).1 in omega arith

  pub passed : ArePassed run.touches (start_tokens run.program.start)
  passed = are_passed run.program (length (start_tokens run.program.start)) (start_tokens run.program.start) run.steps run.touches run.are below

  each : (place : ℕ) (step : LogStep) → slice_get run.steps place ≡ Some step → IsTouchedAt run.program run.touches place step
  each place step at = touched run.program (length (start_tokens run.program.start)) (start_tokens run.program.start) run.steps run.touches place step run.are at

  pub each_of : (place : ℕ) (touch : Touch) → slice_get run.touches place ≡ Some touch → IsOfStep run.program run.steps place touch
  each_of place touch at = of_step run.program (length (start_tokens run.program.start)) (start_tokens run.program.start) run.steps run.touches place touch run.are at

  pub as_long : length run.touches ≡ length run.steps
  as_long = as_many run.program (length (start_tokens run.program.start)) (start_tokens run.program.start) run.steps run.touches run.are

  -- the atoms that a step takes, and those that it adds
  abbrev pub takes : ℕ → List AtomTree
  takes place = token_atoms (removed_at run.touches place)

  abbrev pub adds : ℕ → List AtomTree
  adds place = right_by_step run.program.rules (slice_get run.steps place)

  -- What a legal step is, wherever it stands.
  pub record IsFamiliar (place : ℕ) (step : LogStep) (rule : Rule) : Type 0 where
    pub touch : Touch
    pub at : slice_get run.touches place ≡ Some touch
    pub typed : IsTypedRule run.program.signature rule
    pub divided : IsDividedRule run.program.signature rule
    pub leaves : (rule.group % 2 ≡ 1) → is_some rule.next ≡ true
    pub take : takes place ≡ used_by run.program.signature rule step.offer.values
    pub add : adds place ≡ full_instances step.offer.values rule.right
    pub uses : full_instances step.offer.values (needed_of rule) ≡ token_atoms touch.uses
    pub differ : Differ (linear_of run.program.signature touch.uses)
    pub barrier : touch.barrier ≡ is_some rule.next

  pub familiar : (place : ℕ) (step : LogStep) (rule : Rule) → slice_get run.steps place ≡ Some step → slice_get run.program.rules step.offer.rule ≡ Some rule → IsFamiliar place step rule
  familiar place step rule at numbered =
      let t = each place step at in
      let same : t.does.rule ≡ rule = some_same t.does.rule rule (sym t.does.numbered_by ∙ numbered) in
      record {
        touch = t.touch;
        at = t.at;
        typed = holds_at (IsTypedRule run.program.signature) run.program.rules step.offer.rule rule run.is.typed_rules numbered;
        divided = holds_at (IsDividedRule run.program.signature) run.program.rules step.offer.rule rule run.is.divided_rules numbered;
        leaves = λ odd. (holds_at (IsGroupedRule (length run.program.stages)) run.program.rules step.offer.rule rule run.is.grouped numbered).leaves.1 odd;
        take = ap (λ (touch : Touch). token_atoms touch.removes) (touch_is run.touches place t.touch t.at) ∙ sym t.does.removes ∙ ap (λ (rule : Rule). used_by run.program.signature rule step.offer.values) same;
        add = ap (right_by_step run.program.rules) at ∙ ap (right_by step.offer.values) numbered;
        uses = ap (λ (rule : Rule). full_instances step.offer.values (needed_of rule)) (sym same) ∙ t.does.uses;
        differ = t.does.differ;
        barrier = t.does.barrier ∙ ap (λ (rule : Rule). is_some rule.next) same;
      }

  -- The written order so far: so many steps are done, and this is where they lead.
  pub record IsOldPrefix (k : ℕ) (here : Spot) : Type 0 where
    pub done : List ℕ
    pub are : (place : ℕ) → (Contains done place ↔ (place < k))
    pub differ : Differ done
    pub state_is : IsStateAfter run.laws run.program.signature run.program.start takes adds done here.state
    pub stage : here.stage ≡ stage_by run.steps run.program.start_stage k

  prefix_more : (k : ℕ) (here new : Spot) (step : LogStep) → IsOldPrefix k here → slice_get run.steps k ≡ Some step → IsLegalStep run.program run.height here new step → IsOldPrefix (k + 1) new
  prefix_more k here new step prefix at legal =
      let machine = legal.machine in
      let known = familiar k step legal.rule at machine.numbered in
      let is_state = run.laws.lead run.program.signature legal.rule step.offer.values here.state new.state known.typed known.divided machine.values prefix.state_is.is_state machine.steps.fit machine.steps.step in
      record {
        done = prefix.done ++ (k ∷ []);
        are = λ place. (
          λ there. ⊎_elim (λ before. let less = (prefix.are place).0 before in omega arith) (λ here. ⊎_elim (λ same. omega arith) (λ none. absurd (contains_none place none)) (contains_cases k [] place here)) (contains_either prefix.done (k ∷ []) place there),
          λ less. below place less (λ less'. (prefix.are place).1 less'),
        );
        differ = differ_both prefix.done (k ∷ []) prefix.differ ((λ none. contains_none k none), tt) (λ place there here. let less = (prefix.are place).0 there in ⊎_elim (λ same. omega arith) (λ none. contains_none place none) (contains_cases k [] place here));
        state_is = state_more run.laws run.program.signature run.program.start takes adds legal.rule step.offer.values prefix.done k here.state new.state known.typed machine.values known.take known.add prefix.state_is is_state machine.steps.step;
        stage = machine.steps.stage ∙ ap (λ (o : Option ℕ). unwrap_or o here.stage) (sym legal.stage) ∙ ap (λ s. unwrap_or step.stage s) prefix.stage ∙ sym (stage_more run.steps run.program.start_stage k step at);
      }
    where
      below : (place : ℕ) → place < k + 1 → (place < k → Contains prefix.done place) → Contains (prefix.done ++ (k ∷ [])) place
      below place less before = ⊎_elim (λ less'. contains_left prefix.done (k ∷ []) place (before less')) (λ same. contains_right prefix.done (k ∷ []) place (contains_same k [] place same)) (last_or place k less)

  -- The start is where nothing is done.
  pub old_start : IsOldPrefix 0 (record { stage = run.program.start_stage; state = run.program.start })
  old_start = grind (arith, contains_none, state_at_start, first_stage, run.laws, run.program.signature, run.program.start, run.is.start, run.steps, run.program.start_stage)

  -- A step in the written order: where it was done, and where it led.
  pub record IsOldStep (place : ℕ) (step : LogStep) : Type 0 where
    pub old : Spot
    pub new : Spot
    pub prefix : IsOldPrefix place old
    pub legal : IsLegalStep run.program run.height old new step

  old_step_at : (left : List LogStep) (k : ℕ) (here last : Spot) (i : ℕ) (step : LogStep) → IsOldPrefix k here → AreLegalSteps run.program run.height left here last → ((i : ℕ) → slice_get left i ≡ slice_get run.steps (k + i)) → slice_get left i ≡ Some step → IsOldStep (k + i) step
  old_step_at [] k here last i step prefix legal same at = none_some step at
  old_step_at (first ∷ left) k here last zero step prefix legal same at =
      subst (λ n. IsOldStep n step) (omega arith) (record { old = here; new = legal.0; prefix = prefix; legal = subst (λ (s : LogStep). IsLegalStep run.program run.height here legal.0 s) (some_same first step at) legal.1 })
  old_step_at (first ∷ left) k here last (suc i) step prefix legal same at =
      subst (λ n. IsOldStep n step) (omega arith)
      (old_step_at left (k + 1) legal.0 last i step
      (prefix_more k here legal.0 first prefix (ap (λ n. slice_get run.steps n) (omega arith) ∙ sym (same 0)) legal.1)
      legal.2 (λ j. same (suc j) ∙ ap (λ n. slice_get run.steps n) (omega arith)) at)

  old_end_at : (left : List LogStep) (k : ℕ) (here last : Spot) → IsOldPrefix k here → AreLegalSteps run.program run.height left here last → ((i : ℕ) → slice_get left i ≡ slice_get run.steps (k + i)) → IsOldPrefix (k + length left) last
  old_end_at [] k here last prefix legal same = subst (λ (spot : Spot). IsOldPrefix (k + 0) spot) (sym legal) (subst (λ n. IsOldPrefix n here) (omega arith) prefix)
  old_end_at (first ∷ left) k here last prefix legal same =
      subst (λ n. IsOldPrefix n last) (omega arith)
      (old_end_at left (k + 1) legal.0 last (prefix_more k here legal.0 first prefix (ap (λ n. slice_get run.steps n) (omega arith) ∙ sym (same 0)) legal.1) legal.2 (λ j. same (suc j) ∙ ap (λ n. slice_get run.steps n) (omega arith)))

  pub old_step : (place : ℕ) (step : LogStep) → slice_get run.steps place ≡ Some step → IsOldStep place step
  old_step place step at = subst (λ n. IsOldStep n step) (omega arith) (old_step_at run.steps 0 (record { stage = run.program.start_stage; state = run.program.start }) run.last place step old_start run.legal (λ i. ap (λ n. slice_get run.steps n) (omega arith)) at)

  pub old_end : IsOldPrefix (length run.steps) run.last
  old_end = subst (λ n. IsOldPrefix n run.last) (omega arith) (old_end_at run.steps 0 (record { stage = run.program.start_stage; state = run.program.start }) run.last old_start run.legal (λ i. ap (λ n. slice_get run.steps n) (omega arith)))

-- What the tokens weigh that were there, and those that were removed: the copies that came, and those that went.

pub none_or_some : (n : ℕ) → (n ≡ 0) ⊎ (0 < n)
none_or_some n = grind arith

module _ (laws : CauseLaws) (a : AtomTree) where
  pub own_weight : count_of (gathered (a ∷ [])) a ≡ 1
  own_weight = laws.bags.own finite.empty a (count_of finite.empty a + 1) ∙ (let none = laws.bags.empty a in omega arith)

  pub other_weight : (b : AtomTree) → a ≢ b → count_of (gathered (b ∷ [])) a ≡ 0
  other_weight b apart = laws.bags.others finite.empty b a (count_of finite.empty b + 1) apart ∙ laws.bags.empty a

  -- For a linear atom the linear tokens weigh as much as all.
  linear_weigh : (program : Parts) (tokens : List Token) → is_fact program.signature a ≡ false → sum_by (weight laws.bags a) (linear_of program.signature tokens) ≡ sum_by (weight laws.bags a) tokens
  linear_weigh program [] linear = refl
  linear_weigh program (token ∷ tokens) linear = grind (arith, weight laws.bags a, linear_of program.signature tokens, other_weight, sum_by-cons (weight laws.bags a) token tokens, sum_by-cons (weight laws.bags a) token (linear_of program.signature tokens), program.signature, token.atom, linear_weigh program tokens linear, laws.bags)

module _ (run : LegalRun) (a : AtomTree) where
  -- What was removed weighs what went.
  removed_weigh : (done : List ℕ) → sum_by (weight run.laws.bags a) (removed_by run.touches [] done) ≡ sum_at (takes run) a done
  removed_weigh [] = refl
  removed_weigh (place ∷ done) =
      let both = sum_by-append (weight run.laws.bags a) (removed_at run.touches place) (removed_by run.touches [] done) in
      let here = weigh_tokens run.laws.bags a (removed_at run.touches place) in
      let rest = removed_weigh done in
      let first = sum_by-cons (λ (place : ℕ). count_of (gathered (token_atoms (removed_at run.touches place))) a) place done in
      omega arith

  made_here : (place : ℕ) → count_of (gathered (token_atoms (made_at run.touches place))) a ≤ count_of (gathered (right_by_step run.program.rules (slice_get run.steps place))) a
  made_here place = by (slice_get run.touches place) refl
    where
      by : (o : Option Touch) → slice_get run.touches place ≡ o → count_of (gathered (token_atoms (unwrap_or o still).makes)) a ≤ count_of (gathered (right_by_step run.program.rules (slice_get run.steps place))) a
      by None at = let none = run.laws.bags.empty a in omega arith
      by (Some touch) at =
          let is = each_of run place touch at in
          let right = ap (λ (atoms : List AtomTree). count_of (gathered atoms) a) (ap (right_by_step run.program.rules) is.at ∙ ap (right_by is.step.offer.values) is.does.numbered_by) in
          let less = is.does.makes run.laws a in
          omega arith

  -- What was made weighs no more than what came.
  made_weigh : (done : List ℕ) → sum_by (weight run.laws.bags a) (flat_map (made_at run.touches) done) ≤ sum_at (adds run) a done
  made_weigh [] = omega arith
  made_weigh (place ∷ done) =
      let both = sum_by-append (weight run.laws.bags a) (made_at run.touches place) (flat_map (made_at run.touches) done) in
      let here = weigh_tokens run.laws.bags a (made_at run.touches place) in
      let less = made_here place in
      let rest = made_weigh done in
      let first = sum_by-cons (λ (place : ℕ). count_of (gathered (right_by_step run.program.rules (slice_get run.steps place))) a) place done in
      omega arith

  -- All that were there weigh no more than what there was at first and came.
  there_weigh : (done : List ℕ) → sum_by (weight run.laws.bags a) (there_by run.touches (start_tokens run.program.start) done) ≤ count_of run.program.start a + sum_at (adds run) a done
  there_weigh done = grind (arith, sum_by-append, weight, made_at, weigh_tokens, start_counts, made_weigh, run.laws.bags, run.program.start, run.touches)

  module _ (done : List ℕ) (place : ℕ) (next : IsNext run.touches done place) (step : LogStep) (rule : Rule) (known : IsFamiliar run place step rule)
      (spent : AreSpent run.touches (start_tokens run.program.start) done) (state : Multiset) (is_state : IsStateAfter run.laws run.program.signature run.program.start (takes run) (adds run) done state) where
    left_count : (t : Bool) → is_fact run.program.signature a ≡ t → count_of (left_of run.program.signature rule step.offer.values) a ≡ held t (count_of (gathered (token_atoms known.touch.uses)) a)
    left_count t is = grind (arith, run.laws.bags.once_count, run.program.signature)

    -- a token of the atom weighs something
    one_there : (token : Token) → Contains known.touch.uses token → token.atom ≡ a → 1 ≤ count_of run.program.start a + sum_at (adds run) a done
    one_there token there same =
        let less = enough run.touches (start_tokens run.program.start) (passed run) done place next known.touch known.at (weight run.laws.bags a) (token ∷ []) spent ((λ none. contains_none token none), tt)
        (λ other here. ⊎_elim (λ same. subst (λ (t : Token). Contains known.touch.uses t) same there) (λ none. absurd (contains_none other none)) (contains_cases token [] other here)) in
        let weighs = sum_by-cons (weight run.laws.bags a) token [] in
        let one : weight run.laws.bags a token ≡ 1 = ap (λ (b : AtomTree). count_of (gathered (b ∷ [])) a) same ∙ own_weight run.laws a in
        let all = there_weigh done in
        omega arith

    -- The left side of the step has no more copies of the atom than the state.
    pub few_needed : count_of (left_of run.program.signature rule step.offer.values) a ≤ count_of state a
    few_needed = by (is_fact run.program.signature a) refl
      where
        by : (t : Bool) → is_fact run.program.signature a ≡ t → count_of (left_of run.program.signature rule step.offer.values) a ≤ count_of state a
        by false linear =
            let count = left_count false linear in
            let less = enough run.touches (start_tokens run.program.start) (passed run) done place next known.touch known.at (weight run.laws.bags a) (linear_of run.program.signature known.touch.uses) spent known.differ (λ token there. linear_used run.program.signature [] [] known.touch.uses token there) in
            let same = linear_weigh run.laws a run.program known.touch.uses linear in
            let all = weigh_tokens run.laws.bags a known.touch.uses in
            let gone = removed_weigh done in
            let there = there_weigh done in
            let is = is_state.linear a linear in
            omega arith
        by true fact =
            let count = left_count true fact in
            let is = is_state.facts a fact in
            ⊎_elim
            (λ none. omega arith)
            (λ some.
            let from = map_cases (λ (token : Token). token.atom) known.touch.uses a ((run.laws.bags.gathered_there (token_atoms known.touch.uses) a).0 some) in
            let one = one_there from.from from.there from.same in
            omega arith)
            (none_or_some (count_of (gathered (token_atoms known.touch.uses)) a))
