-- The graph of a log, step by step, of which there is one.
use Rattle.std.proofs.Common.{◌≡◌, ℕ, ◌+◌, ◌≤◌, List, ◌∷◌, length, arith, ◌⊎◌, inl, inr, ⊎_elim, zero, suc, ◌<◌, [], ◌++◌, take, drop, Some, sym, ap, ◌∙◌, subst, ◌-◌, refl, Contains}
use Rattle.cep_base.specs.declared.limits.TheConstants.{MOST_LOG}
use Rattle.cep_base.proofs.Lists.{none_some, some_same, take_next, holds_at}
use Rattle.cep_base.proofs.Elements.{all_at}
use Rattle.cep_rule.specs.declared.parts.Parts.{Parts}
use Rattle.cep_rule.specs.declared.rule.Rule.{Rule}
use Rattle.cep_rule.specs.Typing.{AreValues}
use Rattle.cep_rule.specs.Program.{IsProgram, IsTypedRule}
use Rattle.cep_log.specs.declared.log.Log.{Log}
use Rattle.cep_log.specs.declared.log.LogStep.{LogStep}
use Rattle.cep_log.specs.Legal.{IsLegal, IsStepOf}
use Rattle.cep_cause.specs.Graphs.{IsGraph, IsCause, AreCauses}
use Rattle.cep_cause.specs.Tokens.{Token, listed_copies, start_tokens}
use Rattle.cep_order.specs.declared.step_cause.StepCause.{StepCause}
use Rattle.cep_order.proofs.OneOrder.{same_increasing}
use Rattle.cep_graph.proofs.Trailing.{numbered_increase, numbered_below}
use Rattle.cep_graph.proofs.Taken.{drop_next}
use Rattle.cep_graph.specs.Queues.{Queues}
use Rattle.cep_graph.specs.Traces.{AreOfStart}
use Rattle.cep_cause.specs.Touches.{Touch, AreTouches, present_after, IsTouch, AreTouchesOf}
use Rattle.cep_cause.proofs.StatesAfter.{as_many as one_each}
use Rattle.std.specs.Prelude.{slice_get, is_some}
use Rattle.std.proofs.lemmas.List.{length-take-le, length-append}
use Rattle.std.proofs.lemmas.Option.{slice_get_within, slice_get_cases}
use Rattle.cep_graph.specs.Trails.{IsTrail, IsTouchBy, TouchesBy}

-- A graph has an entry for each step.

-- of a legal log not more than a transcript may have bytes
pub few_causes : (program : Parts) (log : Log) (causes : List StepCause) → IsLegal program log → IsGraph program log causes → length causes ≤ MOST_LOG
few_causes program log causes legal graph = omega (arith, one_each program _ _ log.steps graph.touches graph.are, graph.entries.many, legal.of_program.few, legal.of_program.lines)

-- The graph, step by step.

-- The steps before a place are done, and have their entries.
pub record IsSoFar (program : Parts) (log : Log) (touches : List Touch) (i : ℕ) (queues : Queues) (causes : List StepCause) : Type 0 where
  pub present : List Token
  pub next : ℕ
  pub rest : AreTouches program next present (drop i log.steps) (drop i touches)
  pub trail : IsTrail program.signature (take i touches) present next queues
  pub within : i ≤ length log.steps
  pub many : length causes ≡ i
  pub entries : (place : ℕ) (touch : Touch) (cause : StepCause) → slice_get touches place ≡ Some touch → slice_get causes place ≡ Some cause → IsCause touches place touch cause

touches_many : (program : Parts) (next : ℕ) (present : List Token) (steps : List LogStep) (touches : List Touch) → AreTouches program next present steps touches → length steps ≡ length touches
touches_many program next present (step ∷ steps) (touch ∷ touches) are = let rest = touches_many program (next + length touch.makes) (present_after present touch) steps touches are.1 in omega arith
touches_many program next present steps touches are = grind arith

-- The first of the touches.
record HasFirst (program : Parts) (next : ℕ) (present : List Token) (step : LogStep) (steps : List LogStep) (touches : List Touch) : Type 0 where
  touch : Touch
  others : List Touch
  parts : touches ≡ touch ∷ others
  is : IsTouch program next present step touch
  are : AreTouches program (next + length touch.makes) (present_after present touch) steps others

first_touch : (program : Parts) (next : ℕ) (present : List Token) (step : LogStep) (steps : List LogStep) (touches : List Touch) → AreTouches program next present (step ∷ steps) touches → HasFirst program next present step steps touches
first_touch program next present step steps touches are = grind arith

drop_first : {X : Type 0} (xs : List X) (i : ℕ) (x : X) (ys : List X) → drop i xs ≡ x ∷ ys → slice_get xs i ≡ Some x
drop_first [] zero x ys e = cc
drop_first [] (suc i) x ys e = cc
drop_first (first ∷ xs) zero x ys e = let same : first ≡ x = cc in ap Some same
drop_first (first ∷ xs) (suc i) x ys e = drop_first xs i x ys e

taken_at : {X : Type 0} (xs : List X) (i e : ℕ) (x : X) → slice_get (take i xs) e ≡ Some x → (e < i) × (slice_get xs e ≡ Some x)
taken_at xs zero e x at = none_some x at
taken_at [] (suc i) e x at = none_some x at
taken_at (first ∷ xs) (suc i) zero x at = (omega arith, at)
taken_at (first ∷ xs) (suc i) (suc e) x at = let rest = taken_at xs i e x at in (omega (arith, rest.0), rest.1)

at_taken : {X : Type 0} (xs : List X) (i e : ℕ) (x : X) → e < i → slice_get xs e ≡ Some x → slice_get (take i xs) e ≡ Some x
at_taken (first ∷ xs) (suc i) (suc e) x less at = at_taken xs i e x (omega arith) at
at_taken xs i e x less at = grind (arith, none_some)

-- an entry more
entry_at : (causes : List StepCause) (cause x : StepCause) (place : ℕ) → slice_get (causes ++ cause ∷ []) place ≡ Some x → (slice_get causes place ≡ Some x) ⊎ ((place ≡ length causes) × (cause ≡ x))
entry_at (first ∷ causes) cause x (suc place) at = ⊎_elim (λ earlier. inl earlier) (λ last. inr (ap suc last.0, last.1)) (entry_at causes cause x place at)
entry_at causes cause x place at = grind (arith, some_same, none_some)

pub none_so_far : (program : Parts) (log : Log) (touches : List Touch) (queues : Queues) (causes : List StepCause) → causes ≡ [] → AreTouchesOf program log touches → AreOfStart (listed_copies program.start) queues → IsSoFar program log touches 0 queues causes
none_so_far program log touches queues causes none are starts = record {
  present = start_tokens program.start;
  next = length (start_tokens program.start);
  rest = are;
  trail = record {
    increasing = numbered_increase 0 (listed_copies program.start);
    below = numbered_below (listed_copies program.start);
    passed = λ place token has. ⊎_elim (λ makes. none_some makes.0 makes.1) (λ uses. none_some uses.0 uses.1) has;
    traced = starts program.signature;
  };
  within = omega arith;
  many = ap (λ (cs : List StepCause). length cs) none;
  entries = λ place touch cause at at'. none_some cause (ap (λ (cs : List StepCause). slice_get cs place) (sym none) ∙ at');
}

pub one_more : (program : Parts) (log : Log) (touches : List Touch) (i : ℕ) (old new : Queues) (causes causes' : List StepCause) (step : LogStep) (rule : Rule) (number : ℕ) (cause : StepCause)
    → slice_get log.steps i ≡ Some step → slice_get program.rules step.offer.rule ≡ Some rule → number ≡ i + 1
    → cause.barrier ≡ is_some rule.next → causes' ≡ causes ++ cause ∷ []
    → TouchesBy program.signature step.offer.values rule number old new cause.after
    → IsSoFar program log touches i old causes → IsSoFar program log touches (i + 1) new causes'
one_more program log touches i old new causes causes' step rule number cause at numbered last barrier more does so_far =
    let first = first_touch program so_far.next so_far.present step (drop (i + 1) log.steps) (drop i touches) (subst (λ (steps : List LogStep). AreTouches program so_far.next so_far.present steps (drop i touches)) (drop_next log.steps i step at) so_far.rest) in
    let here : slice_get touches i ≡ Some first.touch = drop_first touches i first.touch first.others first.parts in
    let others : first.others ≡ drop (i + 1) touches = (let both : first.touch ∷ first.others ≡ first.touch ∷ drop (i + 1) touches = sym first.parts ∙ drop_next touches i first.touch here in cc) in
    let within = slice_get_within touches i first.touch here in
    let done : take (i + 1) touches ≡ take i touches ++ first.touch ∷ [] = take_next touches i first.touch here in
    let same : first.is.rule ≡ rule = some_same first.is.rule rule (sym first.is.numbered_by ∙ numbered) in
    let by : IsTouchBy program.signature step.offer.values rule so_far.next so_far.present first.touch = subst (λ (r : Rule). IsTouchBy program.signature step.offer.values r so_far.next so_far.present first.touch) same (record { uses = first.is.uses; removes = first.is.removes; makes = first.is.makes }) in
    let has = does (take i touches) so_far.present so_far.next first.touch (last ∙ ap (λ n. n + 1) (sym (length-take-le i touches (omega arith)))) so_far.trail by in
    let entry : IsCause touches i first.touch cause = record {
      barrier = barrier ∙ ap (λ (r : Rule). is_some r.next) (sym same) ∙ sym first.is.barrier;
      increasing = has.increasing;
      counted = has.counted;
      after = λ earlier. (
        λ there. let rests = (has.rests earlier).0 there in let is = taken_at touches i earlier rests.earlier rests.at in (is.0, record { earlier = rests.earlier; at = is.1; rests = rests.rests }),
        λ both. (has.rests earlier).1 (record { earlier = both.1.earlier; at = at_taken touches i earlier both.1.earlier both.0 both.1.at; rests = both.1.rests }),
      );
    } in
    record {
      present = present_after so_far.present first.touch;
      next = so_far.next + length first.touch.makes;
      rest = subst (λ (ts : List Touch). AreTouches program (so_far.next + length first.touch.makes) (present_after so_far.present first.touch) (drop (i + 1) log.steps) ts) others first.are;
      trail = subst (λ (ts : List Touch). IsTrail program.signature ts (present_after so_far.present first.touch) (so_far.next + length first.touch.makes) new) (sym done) has.trail;
      within = let before = slice_get_within log.steps i step at in omega arith;
      many = let many = so_far.many in let longer = length-append causes (cause ∷ []) in let e = ap (λ (cs : List StepCause). length cs) more in omega arith;
      entries = λ place touch other at' at''. ⊎_elim
          (λ before. so_far.entries place touch other at' before)
          (λ now.
          let place_is : place ≡ i = now.0 ∙ so_far.many in
          let touch_is : first.touch ≡ touch = some_same first.touch touch (sym here ∙ ap (λ n. slice_get touches n) (sym place_is) ∙ at') in
          subst (λ (n : ℕ). IsCause touches n touch other) (sym place_is) (subst (λ (t : Touch). IsCause touches i t other) touch_is (subst (λ (c : StepCause). IsCause touches i first.touch c) now.1 entry)))
          (entry_at causes cause other place (ap (λ (cs : List StepCause). slice_get cs place) (sym more) ∙ at''));
    }

pub all_done : (program : Parts) (log : Log) (touches : List Touch) (i : ℕ) (queues : Queues) (causes : List StepCause) → i ≡ length log.steps → AreTouchesOf program log touches → IsSoFar program log touches i queues causes → IsGraph program log causes
all_done program log touches i queues causes all are so_far = record {
  touches = touches;
  are = are;
  entries = record {
    many = so_far.many ∙ all ∙ touches_many program (length (start_tokens program.start)) (start_tokens program.start) log.steps touches are;
    each = so_far.entries;
  };
}

-- What a legal log has at a step: its rule, with values of the right types.
pub record HasRule (program : Parts) (step : LogStep) : Type 0 where
  pub rule : Rule
  pub numbered : slice_get program.rules step.offer.rule ≡ Some rule
  pub typed : IsTypedRule program.signature rule
  pub values : AreValues program.signature.cons rule.kinds step.offer.values

pub has_rule : (program : Parts) (log : Log) (i : ℕ) (step : LogStep) → IsProgram program → IsLegal program log → slice_get log.steps i ≡ Some step → HasRule program step
has_rule program log i step is legal at =
    let of = holds_at (IsStepOf program) log.steps i step legal.of_program.steps at in
    record {
      rule = of.rule;
      numbered = of.numbered;
      typed = holds_at (IsTypedRule program.signature) program.rules step.offer.rule of.rule is.typed_rules of.numbered;
      values = of.values;
    }

-- A log has one graph, and comes to one answer by a seed.

module _ (touches : List Touch) (place : ℕ) (touch : Touch) where
  -- the numbers in one entry of a step stand in each
  also : (one other : StepCause) → IsCause touches place touch one → IsCause touches place touch other → (number : ℕ) → Contains one.after number → Contains other.after number
  also one other is is' number there =
      let same : number - 1 + 1 ≡ number = omega (arith, (all_at (λ n. 0 < n) one.after number is.counted there)) in
      subst (Contains other.after) same ((is'.after (number - 1)).1 ((is.after (number - 1)).0 (subst (Contains one.after) (sym same) there)))

  -- a step has one entry
  one_entry : (one other : StepCause) → IsCause touches place touch one → IsCause touches place touch other → one ≡ other
  one_entry one other is is' = grind (arith, is.barrier ∙ sym is'.barrier, same_increasing one.after other.after is.increasing is'.increasing (λ n. (also one other is is' n, also other one is' is n)))

-- lists of one length with the same items are the same
same_items : {X : Type 0} (xs ys : List X) → length xs ≡ length ys → ((place : ℕ) (x y : X) → slice_get xs place ≡ Some x → slice_get ys place ≡ Some y → x ≡ y) → xs ≡ ys
same_items [] [] long same = refl
same_items (x ∷ xs) (y ∷ ys) long same = let rest = same_items xs ys (omega (arith, long)) (λ place. same (suc place)) in rw (same 0 x y refl refl, rest)
same_items xs ys long same = grind arith

-- steps have one list of entries
one_list : (touches : List Touch) (one other : List StepCause) → AreCauses touches one → AreCauses touches other → one ≡ other
one_list touches one other are are' = same_items one other (are.many ∙ sym are'.many) (λ place x y here there.
    ⊎_elim
    (λ some. one_entry touches place some.0 x y (are.each place some.0 x some.2 here) (are'.each place some.0 y some.2 there))
    (λ none. let past = none.0 in absurd (omega (arith, past, (slice_get_within one place x here), are.many)))
    (slice_get_cases touches place).1)

-- Touches are one.
abbrev pub AreOneTouches : Type 0
AreOneTouches = (program : Parts) (log : Log) (one other : List Touch) → AreTouchesOf program log one → AreTouchesOf program log other → one ≡ other

pub one_graph : AreOneTouches → (program : Parts) (log : Log) (one other : List StepCause) → IsGraph program log one → IsGraph program log other → one ≡ other
one_graph alone program log one other is is' = rw (one_list is.touches one other is.entries (subst (λ (touches : List Touch). AreCauses touches other) (alone program log is'.touches is.touches is'.are is.are) is'.entries))
