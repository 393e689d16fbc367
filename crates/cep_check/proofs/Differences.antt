-- The first difference of a listing and a state is one, and a log that is refused is not legal.
use Rattle.std.proofs.Common.{◌≡◌, ◌⊎◌, inl, inr, ⊎_elim, ℕ, zero, suc, ◌-◌, ◌<◌, ◌≤◌, List, [], ◌∷◌, length, Some, refl, sym, ap, subst, ◌∙◌, arith, Less, Equal, Greater, take}
use Rattle.std.specs.Prelude.{slice_get, Option, IsSomeAnd}
use Rattle.std.specs.Ordering.{ordering_reverse}
use Rattle.std.specs.FinMap.{len-entries}
use Rattle.std.proofs.lemmas.Cmp.{tied_itself}
use Rattle.std.proofs.lemmas.Bool.{eqb-true, eqb-false}
use Rattle.std.proofs.lemmas.Option.{slice_get_within}
use Rattle.std.specs.Cmp.{IsTotalOrder}
use Rattle.cep_scratch.specs.First.{IsFirstOffer}
use borrow.Author.Tests.{ltb-true, ltb-false}
use Rattle.cep_base.proofs.Elements.{contains_at}
use Rattle.cep_base.proofs.Lists.{some_same, holds_at}
use Rattle.cep_term.specs.BagLaws.{BagLaws}
use Rattle.cep_term.specs.Tree.{AtomTree, Tree, atom_of}
use Rattle.cep_term.specs.Order.{atom_cmp}
use Rattle.cep_term.specs.Multiset.{Multiset, count_of, IsContained}
use Rattle.cep_rule.specs.declared.signature.Signature.{Signature}
use Rattle.cep_rule.specs.declared.rule.Rule.{Rule}
use Rattle.cep_rule.specs.declared.parts.Parts.{Parts}
use Rattle.cep_rule.specs.Instances.{full_instances, left_of}
use Rattle.cep_log.specs.Legal.{AtomsRise, IsListing, IsHave, IsLegalStep, AreLegalSteps, IsLegalEnd, IsLegal}
use Rattle.cep_log.specs.declared.log.Log.{Log}
use Rattle.cep_check.specs.Causes.{ListsCount, IsFirstDifference, IsFirstLack, IsStartCause, IsStepCause, IsEndCause, IsRefusedFrom, IsLogRefused, IsAtPremise, IsFirstAsked}
use Rattle.cep_check.specs.Places.{Agree, AgreeBelow}
use Rattle.cep_check.specs.declared.cause.Cause.{Cause}
use Rattle.cep_step.specs.declared.limit.Limit.TheVariants.{Atom, State}
use Rattle.cep_rule.specs.Derivations.{ProofTree, Proves, proof_height}
use Rattle.cep_rule.specs.State.{Fits}
use Rattle.cep_rule.specs.Stages.{own_group, leaving_group}
use Rattle.cep_rule.specs.Step.{Step}
use Rattle.cep_rule.specs.Offers.{offer_cmp}
use Rattle.cep_rule.specs.Steps.{Spot, AreProofs, IsMachineStep, stage_after}
use Rattle.cep_rule.specs.declared.offer.Offer.{Offer}
use Rattle.cep_log.specs.declared.log.LogStep.{LogStep}
use Rattle.cep_log.specs.declared.log.LogEnd.{LogEnd}
use Rattle.cep_check.specs.declared.cause.Cause.TheVariants.{StartStage, StartState, OtherStage, NotContained, NotProved, TooHigh, NotQuiet, OverLimit, StageLine, MidState, EndState}
use Rattle.std.specs.FinMap as finite
pub use Rattle.cep_base.proofs.Options.{place_in}

-- The first atom of which a listing says another count than a state has, and the first that lacks.

-- a place of a listing is before, at or after another
pub three_ways : (i j : ℕ) → (i < j) ⊎ ((i ≡ j) ⊎ (j < i))
three_ways i j = grind (arith, ltb-true, eqb-true, ltb-false, eqb-false)

-- Atoms rise from place to place.
abbrev Rises : List (AtomTree × ℕ) → Type 0
Rises xs = (i j : ℕ) (a b : AtomTree) (m n : ℕ) → i < j → slice_get xs i ≡ Some (a, m) → slice_get xs j ≡ Some (b, n) → atom_cmp a b ≡ Less

pub listing_rises : (xs : List (AtomTree × ℕ)) → AtomsRise xs → Rises xs
listing_rises (x ∷ xs) rising zero (suc j) a b m n h p q = grind (arith, some_same, holds_at, x.0, rising.0)
listing_rises (x ∷ xs) rising (suc i) (suc j) a b m n h p q = listing_rises xs rising.1 i j a b m n (omega arith) p q
listing_rises xs rising i j a b m n h p q = grind arith

module _ (laws : BagLaws) where
  pub not_itself : (a : AtomTree) → atom_cmp a a ≡ Less → ⊥
  not_itself a less = grind (arith, tied_itself, laws.total)

  -- what stands at a place or after it is not less than what is not greater than it
  not_below : (xs : List (AtomTree × ℕ)) → Rises xs → (place : ℕ) (x y : AtomTree) (n : ℕ) → slice_get xs place ≡ Some (y, n) → (x ≡ y) ⊎ (atom_cmp x y ≡ Less) → (j : ℕ) (a : AtomTree) (m : ℕ) → place ≤ j → slice_get xs j ≡ Some (a, m) → atom_cmp a x ≡ Less → ⊥
  not_below xs rises place x y n at low j a m behind there less = grind (arith, not_itself, some_same, three_ways place j, laws.total.trans, rises place j y a n m)

  -- what is less than what stands at a place does not stand there or after it
  not_from : (xs : List (AtomTree × ℕ)) → Rises xs → (place : ℕ) (x y : AtomTree) (n : ℕ) → slice_get xs place ≡ Some (y, n) → atom_cmp x y ≡ Less → (j : ℕ) (m : ℕ) → place ≤ j → slice_get xs j ≡ Some (x, m) → ⊥
  not_from xs rises place x y n at less j m behind there = grind (arith, not_itself, some_same, three_ways place j, laws.total.trans)

  entries_rise : (state : Multiset) → Rises (finite.entries state)
  entries_rise state i j a b m n h p q = laws.earlier_is_less state i j a b m n h p q

  -- an atom that is no entry is not there
  pub no_entry : (state : Multiset) (a : AtomTree) → ((j : ℕ) (m : ℕ) → slice_get (finite.entries state) j ≡ Some (a, m) → ⊥) → 0 ≡ count_of state a
  no_entry state a none = grind (arith, ltb-true, ltb-false, laws.entry_there)

  module _ (signature : Signature) (listing : List (AtomTree × ℕ)) (is : IsListing signature listing) (state : Multiset) (place : ℕ) (below : AgreeBelow place listing state) where
    -- atoms below one that no later place goes below are told alike
    alike_before : (x : AtomTree) → ((j : ℕ) (a : AtomTree) (m : ℕ) → place ≤ j → slice_get listing j ≡ Some (a, m) → atom_cmp a x ≡ Less → ⊥) → ((j : ℕ) (a : AtomTree) (m : ℕ) → place ≤ j → slice_get (finite.entries state) j ≡ Some (a, m) → atom_cmp a x ≡ Less → ⊥) → (a : AtomTree) → atom_cmp a x ≡ Less → ListsCount listing a (count_of state a)
    alike_before x listed there a less = elim (three_ways 0 (count_of state a)) [
      | inl some ↦ let at = laws.entry_there state a some in inl (contains_at listing at.0 (a, count_of state a) (below at.0 (grind (arith, three_ways at.0 place, there at.0 a (count_of state a), at.1)) ∙ at.1))
      | inr either ↦ inr (
        grind arith,
        λ other there'.
            let at = place_in listing (a, other) there' in
            grind (arith, three_ways at.0 place, below at.0, at.1, laws.entry_counted state at.0 a other, (holds_at (IsHave signature) listing at.0 (a, other) is.each at.1).some, listed at.0 a other),
      )
    ]

    -- an entry that the listing does not have after here it does not have at all
    unlisted : (x : AtomTree) (n : ℕ) → slice_get (finite.entries state) place ≡ Some (x, n) → ((j : ℕ) (m : ℕ) → place ≤ j → slice_get listing j ≡ Some (x, m) → ⊥) → ListsCount listing x 0
    unlisted x n at none = inr (refl, λ other there. let found = place_in listing (x, other) there in grind (arith, three_ways found.0 place, entries_rise state found.0 place x x other n, not_itself x, below found.0, found.1, none found.0 other))

    -- and a line whose atom the state does not have after here is of an atom that is not there
    not_there : (x : AtomTree) (n : ℕ) → slice_get listing place ≡ Some (x, n) → ((j : ℕ) (m : ℕ) → place ≤ j → slice_get (finite.entries state) j ≡ Some (x, m) → ⊥) → 0 ≡ count_of state x
    not_there x n at none = grind (arith, no_entry, not_itself, listing_rises, three_ways)

    beyond : {P : Type 0} (xs : List (AtomTree × ℕ)) (j : ℕ) (e : AtomTree × ℕ) → length xs ≤ place → place ≤ j → slice_get xs j ≡ Some e → P
    beyond xs j e short behind there = let within = slice_get_within xs j e there in absurd (omega arith)

    -- the listing has ended
    pub state_longer : (x : AtomTree) (n : ℕ) → length listing ≤ place → slice_get (finite.entries state) place ≡ Some (x, n) → 0 < n → IsFirstDifference listing state x 0 n
    state_longer x n short at some = record {
      listed = unlisted x n at (λ j m behind there. beyond listing j (x, m) short behind there);
      there = sym (laws.entry_counted state place x n at);
      differ = λ e. omega arith;
      before = alike_before x (λ j a m behind there less. beyond listing j (a, m) short behind there) (not_below (finite.entries state) (entries_rise state) place x x n at (inl refl));
    }

    -- the entries have ended
    pub listing_longer : (x : AtomTree) (n : ℕ) → finite.len state ≤ place → slice_get listing place ≡ Some (x, n) → IsFirstDifference listing state x n 0
    listing_longer x n short at =
        let short' : length (finite.entries state) ≤ place = let same = len-entries state in omega arith in
        record {
          listed = inl (contains_at listing place (x, n) at);
          there = not_there x n at (λ j m behind there. beyond (finite.entries state) j (x, m) short' behind there);
          differ = λ e. let some = (holds_at (IsHave signature) listing place (x, n) is.each at).some in omega arith;
          before = alike_before x (not_below listing (listing_rises listing is.rising) place x x n at (inl refl)) (λ j a m behind there less. beyond (finite.entries state) j (a, m) short' behind there);
        }

    -- the line's atom is less
    pub line_first : (x y : AtomTree) (m n : ℕ) → slice_get listing place ≡ Some (x, m) → slice_get (finite.entries state) place ≡ Some (y, n) → atom_cmp x y ≡ Less → IsFirstDifference listing state x m 0
    line_first x y m n at at' less = record {
      listed = inl (contains_at listing place (x, m) at);
      there = not_there x m at (not_from (finite.entries state) (entries_rise state) place x y n at' less);
      differ = λ e. let some = (holds_at (IsHave signature) listing place (x, m) is.each at).some in omega arith;
      before = alike_before x (not_below listing (listing_rises listing is.rising) place x x m at (inl refl)) (not_below (finite.entries state) (entries_rise state) place x y n at' (inr less));
    }

    -- the entry's atom is less
    pub entry_first : (x y : AtomTree) (m n : ℕ) → slice_get listing place ≡ Some (x, m) → slice_get (finite.entries state) place ≡ Some (y, n) → atom_cmp x y ≡ Greater → 0 < n → IsFirstDifference listing state y 0 n
    entry_first x y m n at at' greater some =
        let less : atom_cmp y x ≡ Less = laws.total.antisymm y x ∙ ap ordering_reverse greater in
        record {
          listed = unlisted y n at' (not_from listing (listing_rises listing is.rising) place y x m at less);
          there = sym (laws.entry_counted state place y n at');
          differ = λ e. omega arith;
          before = alike_before y (not_below listing (listing_rises listing is.rising) place y x m at (inr less)) (not_below (finite.entries state) (entries_rise state) place y y n at' (inl refl));
        }

    -- one atom with two counts
    pub two_counts : (x y : AtomTree) (m n : ℕ) → slice_get listing place ≡ Some (x, m) → slice_get (finite.entries state) place ≡ Some (y, n) → atom_cmp x y ≡ Equal → (m ≡ n → ⊥) → IsFirstDifference listing state x m n
    two_counts x y m n at at' tied apart =
        let same : x ≡ y = laws.ties x y tied in
        record {
          listed = inl (contains_at listing place (x, m) at);
          there = sym (laws.entry_counted state place y n at') ∙ ap (count_of state) (sym same);
          differ = apart;
          before = alike_before x (not_below listing (listing_rises listing is.rising) place x x m at (inl refl)) (not_below (finite.entries state) (entries_rise state) place x y n at' (inl same));
        }

    -- one atom with one count
    pub one_line : (x y : AtomTree) (m n : ℕ) → slice_get listing place ≡ Some (x, m) → slice_get (finite.entries state) place ≡ Some (y, n) → atom_cmp x y ≡ Equal → m ≡ n → Agree place listing state
    one_line x y m n at at' tied same = grind (arith, laws.ties x y)

-- lists that agree place by place are one
pub same_lists : (xs ys : List (AtomTree × ℕ)) (n : ℕ) → length xs ≤ n → length ys ≤ n → ((place : ℕ) → place < n → slice_get xs place ≡ slice_get ys place) → xs ≡ ys
same_lists [] [] n short short' agree = refl
same_lists [] (y ∷ ys) n short short' agree = grind (arith, agree 0)
same_lists (x ∷ xs) [] n short short' agree = grind (arith, agree 0)
same_lists (x ∷ xs) (y ∷ ys) n short short' agree = rw (some_same x y (agree 0 (omega arith)), same_lists xs ys (n - 1) (omega arith) (omega arith) (λ place within. agree (suc place) (omega arith))) refl

-- Of the atoms at the first places no more copies are needed than the state has.
abbrev pub EnoughBelow : ℕ → Multiset → Multiset → Type 0
EnoughBelow places needed state = (place : ℕ) (a : AtomTree) (m : ℕ) → place < places → slice_get (finite.entries needed) place ≡ Some (a, m) → m ≤ count_of state a

module _ (laws : BagLaws) (needed state : Multiset) where
  enough_of : (n : ℕ) → EnoughBelow n needed state → (a : AtomTree) → ((j : ℕ) (m : ℕ) → n ≤ j → slice_get (finite.entries needed) j ≡ Some (a, m) → ⊥) → count_of needed a ≤ count_of state a
  enough_of n below a none = grind (arith, ltb-true, three_ways, ltb-false, laws.entry_there)

  -- the first that lacks
  pub lacks_here : (n : ℕ) (x : AtomTree) (have need : ℕ) → slice_get (finite.entries needed) n ≡ Some (x, need) → have ≡ count_of state x → have < need → EnoughBelow n needed state → IsFirstLack needed state x have need
  lacks_here n x have need at is less below = record {
    wanted = sym (laws.entry_counted needed n x need at);
    there = is;
    lacks = less;
    before = λ a low. enough_of n below a (λ j m behind there. not_below laws (finite.entries needed) (entries_rise laws needed) n x x need at (inl refl) j a m behind there low);
  }

  -- where none lacks, all are there
  pub enough_all : (n : ℕ) → finite.len needed ≤ n → EnoughBelow n needed state → IsContained needed state
  enough_all n all below = λ a. enough_of n below a (λ j m behind there. omega (arith, slice_get_within (finite.entries needed) j (a, m) there, len-entries needed))

-- A log that is refused is not legal.

-- A step leads to one state.
abbrev pub LeadsToOne : Type 0
LeadsToOne = (signature : Signature) (rule : Rule) (values : List Tree) (old one other : Multiset) → Step signature rule values old one → Step signature rule values old other → one ≡ other

-- each of the derivations proves its goal
pub proofs_at : (program : Parts) (height : ℕ) (proofs : List ProofTree) (goals : List AtomTree) (n : ℕ) (proof : ProofTree) (goal : AtomTree) → AreProofs program height proofs goals → slice_get proofs n ≡ Some proof → slice_get goals n ≡ Some goal → Proves program proof goal × (proof_height proof ≤ height)
proofs_at program height (x ∷ proofs) (y ∷ goals) (suc n) proof goal all p q = proofs_at program height proofs goals n proof goal all.2 p q
proofs_at program height proofs goals n proof goal all p q = grind arith

-- a step needs its left side
abbrev pub NeedsLeft : Type 0
NeedsLeft = (signature : Signature) (rule : Rule) (values : List Tree) (old new : Multiset) → Step signature rule values old new → IsContained (left_of signature rule values) old

module _ (laws : BagLaws) (one : LeadsToOne) (needs : NeedsLeft) (program : Parts) where
  -- the listing that is a state's says its counts
  says_count : (state : Multiset) (a : AtomTree) (n : ℕ) → ListsCount (finite.entries state) a n → n ≡ count_of state a
  says_count state a n (inl there) = let at = place_in (finite.entries state) (a, n) there in sym (laws.entry_counted state at.0 a n at.1)
  says_count state a n (inr none) = none.0 ∙ no_entry laws state a (λ j m at. none.1 m (contains_at (finite.entries state) j (a, m) at))

  no_difference : (listing : List (AtomTree × ℕ)) (state : Multiset) (atom : AtomTree) (said is : ℕ) → listing ≡ finite.entries state → IsFirstDifference listing state atom said is → ⊥
  no_difference listing state atom said is same differs = differs.differ (says_count state atom said (rw same at differs.listed) ∙ sym differs.there)

  -- a step with a cause is not legal
  pub step_clash : (height : ℕ) (old new : Spot) (rule : Rule) (step : LogStep) (cause : Cause) → slice_get program.rules step.offer.rule ≡ Some rule → IsStepCause program height old rule step cause → IsLegalStep program height old new step → ⊥
  step_clash height old new rule step cause numbered comes legal = by cause comes
    where
      same : legal.rule ≡ rule
      same = some_same legal.rule rule (sym legal.machine.numbered ∙ numbered)

      machine : IsMachineStep program height old new step.offer rule step.proofs
      machine = subst (λ (r : Rule). IsMachineStep program height old new step.offer r step.proofs) same legal.machine

      by : (cause : Cause) → IsStepCause program height old rule step cause → ⊥
      by (OtherStage number) comes = comes.1 (⊎_elim (λ own. inl own) (λ leaving. inr leaving.0) machine.in_turn)
      by (NotContained atom have need) comes = omega (arith, needs program.signature rule step.offer.values old.state new.state machine.steps.step (atom_of atom), comes.1.wanted, comes.1.there, comes.1.lacks)
      by (NotProved place) comes = comes.1.3 (proofs_at program height step.proofs (full_instances step.offer.values rule.backs) comes.1.2.before comes.1.0 comes.1.1 machine.proved comes.1.2.derivation comes.1.2.premise).0
      by (TooHigh place high) comes = omega (arith, (proofs_at program height step.proofs (full_instances step.offer.values rule.backs) comes.1.2.before comes.1.0 comes.1.1 machine.proved comes.1.2.derivation comes.1.2.premise).1, comes.1.4, comes.1.5)
      by (NotQuiet offer) comes = grind (arith, machine.in_turn, comes.1, comes.2.is)
      by (OverLimit Atom) comes = comes.1 machine.steps.fit
      by (OverLimit State) comes = comes.1.1.2 (subst Fits (one program.signature rule step.offer.values old.state new.state comes.1.1.0 machine.steps.step comes.1.1.1) machine.steps.fits)
      by (StageLine said is) comes = comes.3 (some_same said is (sym comes.1 ∙ legal.stage ∙ ap (λ (r : Rule). r.next) same ∙ comes.2))
      by (MidState line atom said is) comes =
          let mid = comes.2 in
          let after : new.state ≡ comes.0 = one program.signature rule step.offer.values old.state new.state comes.0 machine.steps.step comes.1.within.leads in
          no_difference mid.0.state comes.0 (atom_of atom) said is ((rw mid.1 at legal.mid) ∙ ap finite.entries after) mid.3
      by cause comes = absurd comes

  -- a legal step leads to one spot
  pub one_spot : (height : ℕ) (old new other : Spot) (step : LogStep) → IsLegalStep program height old new step → IsLegalStep program height old other step → new ≡ other
  one_spot height old new other step legal legal' =
      let same : legal.rule ≡ legal'.rule = some_same legal.rule legal'.rule (sym legal.machine.numbered ∙ legal'.machine.numbered) in
      let there = subst (λ (r : Rule). Step program.signature r step.offer.values old.state new.state) same legal.machine.steps.step in
      let stages : new.stage ≡ other.stage = legal.machine.steps.stage ∙ ap (λ (r : Rule). stage_after r old.stage) same ∙ sym legal'.machine.steps.stage in
      let states : new.state ≡ other.state = one program.signature legal'.rule step.offer.values old.state new.state other.state there legal'.machine.steps.step in
      λ i. record { stage = stages i; state = states i }

  -- an end with a cause is not legal
  pub end_clash : (height : ℕ) (last : Spot) (end : Option LogEnd) (cause : Cause) → IsEndCause program height last end cause → IsSomeAnd end (IsLegalEnd program height last) → ⊥
  end_clash height last (Some end) (NotQuiet offer) comes legal = grind (arith, legal.quiet, comes.0, comes.1)
  end_clash height last (Some end) (EndState atom said is) comes legal = no_difference end.state last.state (atom_of atom) said is legal.state comes.1
  end_clash height last end cause comes legal = grind arith

  from_clash : (log : Log) (steps : List LogStep) (old last : Spot) (line : ℕ) (cause : Cause) → IsRefusedFrom program log old steps line cause → AreLegalSteps program log.height steps old last → IsSomeAnd log.end (IsLegalEnd program log.height last) → ⊥
  from_clash log [] old last line cause refused legal ending = end_clash log.height old log.end cause refused.1 (rw legal at ending)
  from_clash log (step ∷ steps) old last line cause (inl here) legal ending = step_clash log.height old legal.0 here.1.0 step cause here.1.1 here.1.2 legal.1
  from_clash log (step ∷ steps) old last line cause (inr later) legal ending = from_clash log steps later.0 last line cause later.2 (rw (one_spot log.height old legal.0 later.0 step legal.1 later.1) at legal.2) ending

  pub start_clash : (log : Log) (cause : Cause) → IsStartCause program log cause → log.stage ≡ program.start_stage → log.start ≡ finite.entries program.start → ⊥
  start_clash log (StartStage said is) comes stage start = comes.2 (comes.0 ∙ stage ∙ sym comes.1)
  start_clash log (StartState atom said is) comes stage start = no_difference log.start program.start (atom_of atom) said is start comes.1
  start_clash log cause comes stage start = comes

  pub refused_clash : (log : Log) (line : ℕ) (cause : Cause) → IsLogRefused program log line cause → IsLegal program log → ⊥
  refused_clash log line cause refused legal = grind (arith, start_clash, from_clash, legal.stage, legal.start, log.steps, legal.last, legal.steps, legal.ending)

-- What comes first is one: the first offer, the first derivation that fails, the first difference and the first lack.

-- what stands before a place stands in the part before it
got_before : {A : Type 0} (xs : List A) (n i : ℕ) → i < n → slice_get (take n xs) i ≡ slice_get xs i
got_before xs zero i before = absurd (omega (arith, before))
got_before [] (suc n) i before = refl
got_before (x ∷ xs) (suc n) zero before = refl
got_before (x ∷ xs) (suc n) (suc i) before = got_before xs n i (omega (arith, before))

-- Offers are in one order.
pub record OffersOrdered : Type 0 where
  pub total : IsTotalOrder offer_cmp
  pub ties : (one other : Offer) → offer_cmp one other ≡ Equal → one ≡ other

-- there is one first offer
pub first_offer_once : OffersOrdered → (program : Parts) (height : ℕ) (state : Multiset) (group : ℕ) (one two : Offer) → IsFirstOffer program height state group one → IsFirstOffer program height state group two → one ≡ two
first_offer_once order program height state group one two first first' = grind (arith, first'.none_before one first.is, first.none_before two first'.is, order.ties, order.total.antisymm)

-- one first asked offer
pub first_asked_once : OffersOrdered → (program : Parts) (height : ℕ) (spot : Spot) (one two : Offer) → IsFirstAsked program height spot one → IsFirstAsked program height spot two → one ≡ two
first_asked_once order program height spot one two (inl own) (inl own') = first_offer_once order program height spot.state (own_group spot.stage) one two own own'
first_asked_once order program height spot one two (inr leaving) (inr leaving') = first_offer_once order program height spot.state (leaving_group spot.stage) one two leaving.1 leaving'.1
first_asked_once order program height spot one two (inl own) (inr leaving') = absurd (leaving'.0 (one, own.is))
first_asked_once order program height spot one two (inr leaving) (inl own') = absurd (leaving.0 (two, own'.is))

-- The derivation at a premise is none that proves it within the height.
abbrev pub Fails : Parts → ℕ → ProofTree → AtomTree → Type 0
Fails program height proof goal = Proves program proof goal × (proof_height proof ≤ height) → ⊥

-- none fails before the first that does
not_later : (program : Parts) (height : ℕ) (proofs : List ProofTree) (goals : List AtomTree) (place place' : ℕ) (proof proof' : ProofTree) (goal goal' : AtomTree) (at : IsAtPremise program height proofs goals place proof goal) (at' : IsAtPremise program height proofs goals place' proof' goal') → Fails program height proof goal → at.before < at'.before → ⊥
not_later program height proofs goals place place' proof proof' goal goal' at at' fails before = grind (arith, proofs_at, got_before, at'.before, at.before, at'.proved, at.derivation, at.premise)

-- the first that fails stands at one place
pub fails_once : (program : Parts) (height : ℕ) (proofs : List ProofTree) (goals : List AtomTree) (place place' : ℕ) (proof proof' : ProofTree) (goal goal' : AtomTree) (at : IsAtPremise program height proofs goals place proof goal) (at' : IsAtPremise program height proofs goals place' proof' goal') → Fails program height proof goal → Fails program height proof' goal' → at.before ≡ at'.before
fails_once program height proofs goals place place' proof proof' goal goal' at at' fails fails' = grind (arith, three_ways at.before at'.before, not_later program height proofs goals place place' proof proof' goal goal' at at' fails, not_later program height proofs goals place' place proof' proof goal' goal at' at fails')

module _ (laws : BagLaws) where
  three_atoms : (a b : AtomTree) → (atom_cmp a b ≡ Less) ⊎ ((a ≡ b) ⊎ (atom_cmp b a ≡ Less))
  three_atoms a b = grind (arith, laws.ties, laws.total.antisymm)

  -- a listing says one count of an atom
  says_once : (listing : List (AtomTree × ℕ)) → AtomsRise listing → (a : AtomTree) (m n : ℕ) → ListsCount listing a m → ListsCount listing a n → m ≡ n
  says_once listing rising a m n (inl there) (inl there') =
      let at = place_in listing (a, m) there in
      let at' = place_in listing (a, n) there' in
      grind (arith, not_itself, listing_rises, some_same, three_ways)
  says_once listing rising a m n (inl there) (inr none') = absurd (none'.1 m there)
  says_once listing rising a m n (inr none) (inl there') = absurd (none.1 n there')
  says_once listing rising a m n (inr none) (inr none') = none.0 ∙ sym none'.0

  -- no difference before the first
  no_earlier : (listing : List (AtomTree × ℕ)) → AtomsRise listing → (state : Multiset) (a b : AtomTree) (said said' is is' : ℕ) → IsFirstDifference listing state a said is → IsFirstDifference listing state b said' is' → atom_cmp a b ≡ Less → ⊥
  no_earlier listing rising state a b said said' is is' first first' less = first.differ (says_once listing rising a said (count_of state a) first.listed (first'.before a less) ∙ sym first.there)

  -- one first difference
  pub difference_once : (listing : List (AtomTree × ℕ)) → AtomsRise listing → (state : Multiset) (a b : AtomTree) (said said' is is' : ℕ) → IsFirstDifference listing state a said is → IsFirstDifference listing state b said' is' → (a ≡ b) × (said ≡ said') × (is ≡ is')
  difference_once listing rising state a b said said' is is' first first' =
      let same : a ≡ b = grind (arith, three_atoms a b, no_earlier listing rising state a b said said' is is' first first', no_earlier listing rising state b a said' said is' is first' first) in
      (same, says_once listing rising b said said' (rw same at first.listed) first'.listed, first.there ∙ ap (count_of state) same ∙ sym first'.there)

  lacks_no_earlier : (needed state : Multiset) (a b : AtomTree) (have have' need need' : ℕ) → IsFirstLack needed state a have need → IsFirstLack needed state b have' need' → atom_cmp a b ≡ Less → ⊥
  lacks_no_earlier needed state a b have have' need need' first first' less = grind (arith, first'.before, first.wanted, first.there, first.lacks)

  -- one first lack
  pub lack_once : (needed state : Multiset) (a b : AtomTree) (have have' need need' : ℕ) → IsFirstLack needed state a have need → IsFirstLack needed state b have' need' → (a ≡ b) × (have ≡ have') × (need ≡ need')
  lack_once needed state a b have have' need need' first first' = grind (arith, lacks_no_earlier, three_atoms, first.there, first'.there, first.wanted, first'.wanted)
