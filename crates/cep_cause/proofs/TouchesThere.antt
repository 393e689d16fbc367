-- A legal log touches tokens, each step in one way.
use Rattle.std.proofs.Common.{◌≡◌, ◌⊎◌, inl, inr, ⊎_elim, ℕ, ◌<◌, ◌≤◌, false, List, [], ◌∷◌, sym, ap, ◌∙◌, subst, arith, Contains, eqb-true, ◌+◌, length, Bool, true, ◌++◌, map, refl}
use Rattle.std.proofs.lemmas.Bool.{eqb-false, false≢true}
use Rattle.std.specs.Prelude.{is_some}
use Rattle.cep_term.specs.Tree.{Tree, AtomTree, IsGroundAtom}
use Rattle.cep_base.proofs.Elements.{contains_none, contains_first, contains_behind, contains_cases, contains_same, map_cases, all_of}
use Rattle.cep_rule.specs.declared.signature.Signature.{Signature}
use Rattle.cep_rule.specs.declared.rule.Rule.{Rule}
use Rattle.cep_rule.specs.declared.parts.Parts.{Parts}
use Rattle.cep_rule.specs.Patterns.{PremiseTree}
use Rattle.cep_rule.specs.Typing.{is_fact}
use Rattle.cep_rule.specs.Instances.{full_instance, full_instances, left_of, used_by}
use Rattle.cep_rule.specs.Binding.{needed_of}
use Rattle.cep_rule.specs.Matching.{state_after}
use Rattle.cep_rule.specs.State.{IsState}
use Rattle.cep_cause.specs.CauseLaws.{CauseLaws}
use Rattle.cep_cause.specs.Touches.{Touch, present_after, IsTouch, AreTouches, present_after_all}
use Rattle.cep_cause.specs.Tokens.{Token, IsPick, ArePicks, numbered, token_state, staying, picked_to_go, listed_copies, start_tokens, token_atoms}
use Rattle.cep_cause.proofs.Tokened.{one_or_two, start_counts, HaveOneNumber, one_after, numbered_one, numbered_differ, differ_after, goes_present, goes_differ, staying_counts, AreBelow, below_after, made_later, weight, weigh_tokens, numbered_atoms, removed_atoms}
use Rattle.cep_base.proofs.Lists.{some_same, holds_at}
use Rattle.cep_log.specs.declared.log.LogStep.{LogStep}
use Rattle.cep_log.specs.Legal.{IsLegalStep, AreLegalSteps}
use Rattle.cep_term.specs.Multiset.{gained, Multiset, count_of, gathered, sum_of, difference_of, held, IsContained}
use Rattle.cep_rule.specs.Steps.{Spot, start_spot}
use Rattle.cep_rule.specs.Program.{IsTypedRule, IsDividedRule, IsProgram}
use Rattle.cep_cause.proofs.Distinct.{Differ, weighs_less_if}
use Rattle.cep_cause.proofs.StatesAfter.{own_weight, other_weight}

-- The token that is picked: there is one, and one only.

one_pick : (signature : Signature) (present used : List Token) (a : AtomTree) (one other : Token) → HaveOneNumber present → IsPick signature present used a one → IsPick signature present used a other → one ≡ other
one_pick signature present used a one other number is is' = rw (number one other is.can.there is'.can.there (let less = is.least other is'.can in let more = is'.least one is.can in omega arith))

pub one_picks : (signature : Signature) (values : List Tree) (present used : List Token) (premises : List PremiseTree) (ones others : List Token) → HaveOneNumber present
    → ArePicks signature values present used premises ones → ArePicks signature values present used premises others → ones ≡ others
one_picks signature values present used (premise ∷ premises) (one ∷ ones) (other ∷ others) number are are' =
    let same = one_pick signature present used (full_instance values premise.atom) one other number are.0 are'.0 in
    ap (λ (t : Token). t ∷ ones) same ∙ ap (λ rest. other ∷ rest) (one_picks signature values present (other ∷ used) premises ones others number (subst (λ (t : Token). ArePicks signature values present (t ∷ used) premises ones) same are.1) are'.1)
one_picks signature values present used premises ones others number are are' = grind arith

-- Of tokens with a property one has the least number, or there is none.
record IsLeast (P : Token → Type 0) (tokens : List Token) : Type 0 where
  token : Token
  there : Contains tokens token
  has : P token
  least : (other : Token) → Contains tokens other → P other → token.number ≤ other.number

at_most : (a b : ℕ) → (a ≤ b) ⊎ (b < a)
at_most a b = grind arith

least_or_none : (P : Token → Type 0) → ((token : Token) → P token ⊎ (P token → ⊥)) → (tokens : List Token) → IsLeast P tokens ⊎ ((token : Token) → Contains tokens token → P token → ⊥)
least_or_none P decides [] = inr (λ token there has. contains_none token there)
least_or_none P decides (first ∷ tokens) =
    ⊎_elim
    (λ (rest : IsLeast P tokens). ⊎_elim
    (λ has. ⊎_elim
    (λ less. inl (record {
      token = first;
      there = contains_first first tokens;
      has = has;
      least = λ other there has'. ⊎_elim (λ (same : first ≡ other). let is = ap (λ (t : Token). t.number) same in omega arith) (λ later. let more = rest.least other later has' in omega arith) (contains_cases first tokens other there);
    }))
    (λ less. inl (record {
      token = rest.token;
      there = contains_behind first tokens rest.token rest.there;
      has = rest.has;
      least = λ other there has'. ⊎_elim (λ (same : first ≡ other). let is = ap (λ (t : Token). t.number) same in omega arith) (λ later. rest.least other later has') (contains_cases first tokens other there);
    }))
    (at_most first.number rest.token.number))
    (λ hasn't. inl (record {
      token = rest.token;
      there = contains_behind first tokens rest.token rest.there;
      has = rest.has;
      least = λ other there has'. ⊎_elim (λ (same : first ≡ other). absurd (hasn't (subst P (sym same) has'))) (λ later. rest.least other later has') (contains_cases first tokens other there);
    }))
    (decides first))
    (λ none. ⊎_elim
    (λ has. inl (record {
      token = first;
      there = contains_first first tokens;
      has = has;
      least = λ other there has'. ⊎_elim (λ (same : first ≡ other). let is = ap (λ (t : Token). t.number) same in omega arith) (λ later. absurd (none other later has')) (contains_cases first tokens other there);
    }))
    (λ hasn't. inr (λ other there has'. ⊎_elim (λ (same : first ≡ other). hasn't (subst P (sym same) has')) (λ later. none other later has') (contains_cases first tokens other there)))
    (decides first))
    (least_or_none P decides tokens)

module _ (laws : CauseLaws) where
  one_token : (one other : Token) → (one ≡ other) ⊎ (one ≡ other → ⊥)
  one_token one other = grind (arith, one_or_two laws.bags one.atom other.atom, eqb-true, eqb-false, one.number, other.number, laws.bags, one.atom, other.atom)

  pub among_or_not : (tokens : List Token) (token : Token) → Contains tokens token ⊎ (Contains tokens token → ⊥)
  among_or_not [] token = inr (λ there. contains_none token there)
  among_or_not (first ∷ tokens) token = grind (arith, contains_same, contains_behind, contains_cases, one_token first token, among_or_not tokens token)

  module _ (signature : Signature) (present : List Token) where
    abbrev pub MayBe : List Token → AtomTree → Token → Type 0
    MayBe used a token = (token.atom ≡ a) × (is_fact signature a ≡ false → Contains used token → ⊥)

    decides : (used : List Token) (a : AtomTree) (token : Token) → MayBe used a token ⊎ (MayBe used a token → ⊥)
    decides used a token = grind (arith, one_or_two laws.bags token.atom a, among_or_not used token, laws.bags, token.atom)

    -- There is a pick, or no token may be picked.
    pub pick_or_none : (used : List Token) (a : AtomTree) → ((token : Token) × IsPick signature present used a token) ⊎ ((token : Token) → Contains present token → MayBe used a token → ⊥)
    pick_or_none used a =
        ⊎_elim
        (λ (is : IsLeast (MayBe used a) present). inl (
          is.token,
          record {
            can = record { there = is.there; of_atom = is.has.0; unused = is.has.1 };
            least = λ other can. is.least other can.there (can.of_atom, can.unused);
          },
        ))
        (λ none. inr none)
        (least_or_none (MayBe used a) (decides used a) present)

-- Steps touch tokens in one way.

same_touch : (one other : Touch) → one.uses ≡ other.uses → one.removes ≡ other.removes → one.makes ≡ other.makes → one.barrier ≡ other.barrier → one ≡ other
same_touch one other uses removes makes barrier = rw (uses, removes, makes, barrier)

module _ (program : Parts) where
  one_touch : (next : ℕ) (present : List Token) (step : LogStep) (one other : Touch) → HaveOneNumber present → IsTouch program next present step one → IsTouch program next present step other → one ≡ other
  one_touch next present step one other number is is' =
      let signature = program.signature in
      let values = step.offer.values in
      let rule : is.rule ≡ is'.rule = some_same is.rule is'.rule (sym is.numbered_by ∙ is'.numbered_by) in
      let uses : one.uses ≡ other.uses = one_picks signature values present [] is'.rule.premises one.uses other.uses number
      (subst (λ (rule : Rule). ArePicks signature values present [] rule.premises one.uses) rule is.uses) is'.uses in
      let removes : one.removes ≡ other.removes =
      is.removes ∙ ap (λ (rule : Rule). picked_to_go signature rule.premises one.uses) rule ∙ ap (λ (tokens : List Token). picked_to_go signature is'.rule.premises tokens) uses ∙ sym is'.removes in
      same_touch one other uses removes
      (is.makes
      ∙ ap (λ (rule : Rule). numbered next (gained (is_fact signature) (token_state (staying one.removes present)) (full_instances values rule.right))) rule
      ∙ ap (λ (tokens : List Token). numbered next (gained (is_fact signature) (token_state (staying tokens present)) (full_instances values is'.rule.right))) removes
      ∙ sym is'.makes)
      (is.barrier ∙ ap (λ (rule : Rule). is_some rule.next) rule ∙ sym is'.barrier)

  pub one_touches : (steps : List LogStep) (next : ℕ) (present : List Token) (ones others : List Touch) → AreBelow program next present → HaveOneNumber present → AreTouches program next present steps ones → AreTouches program next present steps others → ones ≡ others
  one_touches (step ∷ steps) next present (one ∷ ones) (other ∷ others) below number are are' =
      let same = one_touch next present step one other number are.0 are'.0 in
      ap (λ (t : Touch). t ∷ ones) same
      ∙ ap (λ (rest : List Touch). other ∷ rest)
      (one_touches steps (next + length other.makes) (present_after present other) ones others
      (below_after program next present step other are'.0 below) (one_after program next present step other are'.0 below number)
      (subst (λ (t : Touch). AreTouches program (next + length t.makes) (present_after present t) steps ones) same are.1) are'.1)
  one_touches steps next present ones others below number are are' = grind arith

-- A legal log touches tokens: those that are present are the state, so there is a pick for each premise.

module _ (laws : CauseLaws) (signature : Signature) (values : List Tree) (present : List Token) (state : Multiset) (differ : Differ present) (counts : (a : AtomTree) → count_of (gathered (token_atoms present)) a ≡ count_of state a) where
  abbrev instances : List PremiseTree → List AtomTree
  instances premises = full_instances values (map (λ (premise : PremiseTree). premise.atom) premises)

  -- There is enough for the premises that are left, besides what is used.
  record IsEnough (used : List Token) (premises : List PremiseTree) : Type 0 where
    linear : (a : AtomTree) → is_fact signature a ≡ false → count_of (gathered (token_atoms used)) a + count_of (gathered (instances premises)) a ≤ count_of state a
    facts : (a : AtomTree) → is_fact signature a ≡ true → 0 < count_of (gathered (instances premises)) a → 0 < count_of state a

  module _ (used : List Token) (premise : PremiseTree) (premises : List PremiseTree) (enough : IsEnough used (premise ∷ premises)) where
    abbrev needed : AtomTree
    needed = full_instance values premise.atom

    enough_more : (token : Token) → token.atom ≡ needed → IsEnough (token ∷ used) premises
    enough_more token same = grind (arith, enough.linear, laws.bags.joined_count, token.atom, enough.facts)

    -- so some token may be picked
    none_is_wrong : ((token : Token) → Contains present token → MayBe laws signature present used needed token → ⊥) → ⊥
    none_is_wrong none = by (is_fact signature needed) refl
      where
        by : (t : Bool) → is_fact signature needed ≡ t → ⊥
        by true fact =
            let first = laws.bags.joined_count (needed ∷ []) (instances premises) needed in
            let own = own_weight laws needed in
            let some = enough.facts needed fact (omega arith) in
            let same = counts needed in
            let from = map_cases (λ (token : Token). token.atom) present needed ((laws.bags.gathered_there (token_atoms present) needed).0 (omega arith)) in
            none from.from from.there (from.same, λ linear. absurd (false≢true (sym linear ∙ fact)))
        by false linear =
            let less = weighs_less_if (weight laws.bags needed) present used differ
            (λ token there. ⊎_elim
            (λ same. ⊎_elim (λ was. inr was) (λ free. absurd (none token there (same, λ is. free))) (among_or_not laws used token))
            (λ apart. inl (other_weight laws needed token.atom (λ same. apart (sym same))))
            (one_or_two laws.bags token.atom needed)) in
            let first = laws.bags.joined_count (needed ∷ []) (instances premises) needed in
            let own = own_weight laws needed in
            let all = weigh_tokens laws.bags needed present in
            let some = weigh_tokens laws.bags needed used in
            let same = counts needed in
            let few = enough.linear needed linear in
            omega arith

  -- There are picks.
  picks_there : (used : List Token) (premises : List PremiseTree) → IsEnough used premises → (tokens : List Token) × ArePicks signature values present used premises tokens
  picks_there used [] enough = ([], tt)
  picks_there used (premise ∷ premises) enough =
      ⊎_elim
      (λ picked. let rest = picks_there (picked.0 ∷ used) premises (enough_more used premise premises enough picked.0 picked.1.can.of_atom) in (picked.0 ∷ rest.0, (picked.1, rest.1)))
      (λ none. absurd (none_is_wrong used premise premises enough none))
      (pick_or_none laws signature present used (full_instance values premise.atom))

  pub picks_for : (rule : Rule) → IsContained (left_of signature rule values) state → (tokens : List Token) × ArePicks signature values present [] rule.premises tokens
  picks_for rule contained = picks_there [] rule.premises (record {
    linear = λ a linear. let few = contained a in let count = left_count a false linear in let none = laws.bags.empty a in omega arith;
    facts = λ a fact some. let few = contained a in let count = left_count a true fact in omega arith;
  })
    where
      left_count : (a : AtomTree) (t : Bool) → is_fact signature a ≡ t → count_of (left_of signature rule values) a ≡ held t (count_of (gathered (full_instances values (needed_of rule))) a)
      left_count a t is =
          laws.bags.once_count (is_fact signature) (gathered (full_instances values (needed_of rule))) a
          ∙ ap (λ (t : Bool). held t (count_of (gathered (full_instances values (needed_of rule))) a)) is

module _ (laws : CauseLaws) (program : Parts) (is : IsProgram program) (height : ℕ) where
  -- The tokens that are present are the state: of each atom there are as many as copies, and no two have one number or one from here on.
  pub record AreTokensOf (next : ℕ) (present : List Token) (state : Multiset) : Type 0 where
    pub below : AreBelow program next present
    pub one : HaveOneNumber present
    pub differ : Differ present
    pub counts : (a : AtomTree) → count_of (gathered (token_atoms present)) a ≡ count_of state a

  -- The start tokens are the start state.
  pub tokens_start : AreTokensOf (length (start_tokens program.start)) (start_tokens program.start) program.start
  tokens_start = record {
    below = λ token there. let few = (made_later 0 (listed_copies program.start) token there).1 in omega arith;
    one = numbered_one 0 (listed_copies program.start);
    differ = numbered_differ 0 (listed_copies program.start);
    counts = λ a. start_counts laws.bags a program.start;
  }

  module _ (next : ℕ) (present : List Token) (step : LogStep) (old new : Spot) (tokens : AreTokensOf next present old.state) (is_state : IsState program.signature old.state) (legal : IsLegalStep program height old new step) where
    abbrev rule : Rule
    rule = legal.rule

    typed : IsTypedRule program.signature rule
    typed = holds_at (IsTypedRule program.signature) program.rules step.offer.rule rule is.typed_rules legal.machine.numbered

    contained : IsContained (left_of program.signature rule step.offer.values) old.state
    contained = laws.contained program.signature rule step.offer.values old.state new.state legal.machine.steps.step

    -- The step touches tokens.
    touch_there : (touch : Touch) × IsTouch program next present step touch
    touch_there =
        let picks = picks_for laws program.signature step.offer.values present old.state tokens.differ tokens.counts rule contained in
        let removes = picked_to_go program.signature rule.premises picks.0 in (
          record {
            uses = picks.0;
            removes = removes;
            makes = numbered next (gained (is_fact program.signature) (token_state (staying removes present)) (full_instances step.offer.values rule.right));
            barrier = is_some rule.next;
          },
          record { rule = rule; numbered_by = legal.machine.numbered; uses = picks.1; removes = refl; makes = refl; barrier = refl },
        )

    -- What is present after it is the state after it.
    module _ (touch : Touch) (touches : IsTouch program next present step touch) where
      abbrev taken : Multiset
      taken = gathered (used_by program.signature rule step.offer.values)

      abbrev added : List AtomTree
      added = full_instances step.offer.values rule.right

      same_rule : touches.rule ≡ rule
      same_rule = some_same touches.rule rule (sym touches.numbered_by ∙ legal.machine.numbered)

      goes : used_by program.signature rule step.offer.values ≡ token_atoms touch.removes
      goes = grind (arith, same_rule, removed_atoms, program.signature, step.offer.values, touches.rule.premises, touch.uses, touches.uses, touches.removes)

      stay_count : (a : AtomTree) → count_of (token_state (staying touch.removes present)) a ≡ count_of (difference_of old.state taken) a
      stay_count a =
          let stay = staying_counts laws.bags a touch.removes present tokens.one tokens.differ (goes_differ program next present step touch touches tokens.below) (goes_present program next present step touch touches tokens.below) in
          let all = tokens.counts a in
          let go = ap (λ (atoms : List AtomTree). count_of (gathered atoms) a) goes in
          let less = laws.bags.difference old.state taken a in
          omega arith

      gains : gained (is_fact program.signature) (token_state (staying touch.removes present)) added ≡ gained (is_fact program.signature) (difference_of old.state taken) added
      gains = laws.bags.gained_alike (is_fact program.signature) (token_state (staying touch.removes present)) (difference_of old.state taken) added (λ a fact. stay_count a)

      made : touch.makes ≡ numbered next (gained (is_fact program.signature) (difference_of old.state taken) added)
      made = grind (arith, same_rule, gains, touches.makes, program.signature, touch.removes, step.offer.values)

      new_state : new.state ≡ sum_of (difference_of old.state taken) (gathered (gained (is_fact program.signature) (difference_of old.state taken) added))
      new_state =
          laws.one_state program.signature rule step.offer.values old.state new.state (state_after program.signature old.state taken added) legal.machine.steps.step
          (laws.lean program.signature rule step.offer.values old.state typed legal.machine.values is_state contained)
          ∙ laws.gain program.signature old.state taken added is_state.bag is_state.once
          (laws.bags.gathered_kept (used_by program.signature rule step.offer.values) (laws.ground_used program.signature rule step.offer.values typed legal.machine.values))
          (laws.ground_made program.signature rule step.offer.values typed legal.machine.values)

      pub tokens_after : AreTokensOf (next + length touch.makes) (present_after present touch) new.state
      tokens_after = record {
        below = below_after program next present step touch touches tokens.below;
        one = one_after program next present step touch touches tokens.below tokens.one;
        differ = differ_after program next present step touch touches tokens.below tokens.differ;
        counts = λ a.
            let both = weigh_both a in
            let stay = stay_count a in
            let make = ap (λ (tokens : List Token). count_of (gathered (token_atoms tokens)) a) made in
            let atoms = ap (λ (atoms : List AtomTree). count_of (gathered atoms) a) (numbered_atoms laws.bags a next (gained (is_fact program.signature) (difference_of old.state taken) added)) in
            let state = ap (λ (state : Multiset). count_of state a) new_state in
            let sum = laws.bags.sum (difference_of old.state taken) (gathered (gained (is_fact program.signature) (difference_of old.state taken) added)) a in
            omega arith;
      }
        where
          atoms_both : (xs ys : List Token) → token_atoms (xs ++ ys) ≡ token_atoms xs ++ token_atoms ys
          atoms_both [] ys = refl
          atoms_both (x ∷ xs) ys = ap (λ rest. x.atom ∷ rest) (atoms_both xs ys)

          weigh_both : (a : AtomTree) → count_of (gathered (token_atoms (present_after present touch))) a ≡ count_of (token_state (staying touch.removes present)) a + count_of (gathered (token_atoms touch.makes)) a
          weigh_both a =
              ap (λ (atoms : List AtomTree). count_of (gathered atoms) a) (atoms_both (staying touch.removes present) touch.makes)
              ∙ laws.bags.joined_count (token_atoms (staying touch.removes present)) (token_atoms touch.makes) a

      pub state_leads : IsState program.signature new.state
      state_leads =
          laws.lead program.signature rule step.offer.values old.state new.state typed (holds_at (IsDividedRule program.signature) program.rules step.offer.rule rule is.divided_rules legal.machine.numbered) legal.machine.values
          is_state legal.machine.steps.fit legal.machine.steps.step

  -- The steps of a legal log touch tokens.
  pub touches_there : (steps : List LogStep) (next : ℕ) (present : List Token) (here last : Spot) → AreTokensOf next present here.state → IsState program.signature here.state → AreLegalSteps program height steps here last
      → (touches : List Touch) × AreTouches program next present steps touches
  touches_there [] next present here last tokens is_state legal = ([], tt)
  touches_there (step ∷ steps) next present here last tokens is_state legal =
      let first = touch_there next present step here legal.0 tokens is_state legal.1 in
      let rest = touches_there steps (next + length first.0.makes) (present_after present first.0) legal.0 last
      (tokens_after next present step here legal.0 tokens is_state legal.1 first.0 first.1) (state_leads next present step here legal.0 tokens is_state legal.1 first.0 first.1) legal.2 in
      (first.0 ∷ rest.0, (first.1, rest.1))

  -- The tokens after all of them are the last state.
  pub tokens_after_all : (steps : List LogStep) (touches : List Touch) (next : ℕ) (present : List Token) (here last : Spot) → AreTokensOf next present here.state → IsState program.signature here.state → AreLegalSteps program height steps here last
      → AreTouches program next present steps touches → (a : AtomTree) → count_of (token_state (present_after_all present touches)) a ≡ count_of last.state a
  tokens_after_all (step ∷ steps) (touch ∷ touches) next present here last tokens is_state legal are a =
      tokens_after_all steps touches (next + length touch.makes) (present_after present touch) legal.0 last
      (tokens_after next present step here legal.0 tokens is_state legal.1 touch are.0) (state_leads next present step here legal.0 tokens is_state legal.1 touch are.0) legal.2 are.1 a
  tokens_after_all steps touches next present here last tokens is_state legal are a = grind arith

  last_is_state : (steps : List LogStep) (touches : List Touch) (next : ℕ) (present : List Token) (here last : Spot) → AreTokensOf next present here.state → IsState program.signature here.state → AreLegalSteps program height steps here last
      → AreTouches program next present steps touches → IsState program.signature last.state
  last_is_state (step ∷ steps) (touch ∷ touches) next present here last tokens is_state legal are =
      last_is_state steps touches (next + length touch.makes) (present_after present touch) legal.0 last
      (tokens_after next present step here legal.0 tokens is_state legal.1 touch are.0) (state_leads next present step here legal.0 tokens is_state legal.1 touch are.0) legal.2 are.1
  last_is_state steps touches next present here last tokens is_state legal are = grind arith

  pub tokens_are_the_state : (steps : List LogStep) (touches : List Touch) (last : Spot) → AreLegalSteps program height steps (start_spot program) last
      → AreTouches program (length (start_tokens program.start)) (start_tokens program.start) steps touches → token_state (present_after_all (start_tokens program.start) touches) ≡ last.state
  tokens_are_the_state steps touches last legal are =
      let present = present_after_all (start_tokens program.start) touches in
      let counts = tokens_after_all steps touches (length (start_tokens program.start)) (start_tokens program.start) (start_spot program) last tokens_start is.start legal are in
      let state = last_is_state steps touches (length (start_tokens program.start)) (start_tokens program.start) (start_spot program) last tokens_start is.start legal are in
      laws.bags.equal (token_state present) last.state
      (laws.bags.gathered_kept (token_atoms present) (all_of IsGroundAtom (token_atoms present) (λ a there. (state.each a (let some = (laws.bags.gathered_there (token_atoms present) a).1 there in let same = counts a in omega arith)).ground)))
      state.bag counts
