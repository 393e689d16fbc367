-- A log, and a step of it, are refused for one cause at one line.
use Rattle.std.proofs.Common.{◌≡◌, ℕ, zero, suc, ◌+◌, ◌-◌, ◌<◌, List, ◌++◌, codes, decimal, Option, sym, ap, subst, ◌∙◌, arith, inl, inr, [], ◌∷◌, Some, None, refl}
use Rattle.std.specs.Prelude.{slice_get, IfSome}
use Rattle.std.specs.List.{AllByRecursion}
use Rattle.cep_base.proofs.Lists.{some_same}
use Rattle.cep_term.specs.BagLaws.{BagLaws}
use Rattle.cep_term.specs.Tree.{AtomTree, atom_of}
use Rattle.cep_term.specs.Multiset.{Multiset}
use Rattle.cep_text.specs.Texts.{offer_name, offer_text}
use Rattle.cep_rule.specs.declared.rule.Rule.{Rule}
use Rattle.cep_rule.specs.declared.parts.Parts.{Parts}
use Rattle.cep_rule.specs.declared.offer.Offer.{Offer}
use Rattle.cep_rule.specs.Instances.{full_instances, left_of}
use Rattle.cep_rule.specs.Stages.{own_group}
use Rattle.cep_rule.specs.Derivations.{proof_height}
use Rattle.cep_rule.specs.Steps.{Spot, MakesFit, start_spot}
use Rattle.cep_log.specs.declared.log.LogStep.{LogStep}
use Rattle.cep_log.specs.declared.log.LogMid.{LogMid}
use Rattle.cep_log.specs.declared.log.Log.{Log}
use Rattle.cep_log.specs.declared.log.LogEnd.{LogEnd}
use Rattle.cep_log.specs.Legal.{IsListing, AtomsRise, IsStepOf, IsLogOf}
use Rattle.cep_step.specs.declared.limit.Limit.TheVariants.{Atom, State}
use Rattle.cep_lines.specs.declared.end_word.EndWord.TheVariants.{Quiet}
use Rattle.cep_check.specs.declared.cause.Cause.{Cause}
use Rattle.cep_check.specs.Telling.{stages_text, counts_text, cause_text}
use Rattle.cep_check.specs.declared.cause.Cause.TheVariants.{StartStage, StartState, OtherStage, NotContained, NotProved, TooHigh, NotQuiet, OverLimit, StageLine, MidState, NotEnded, EndState}
use Rattle.cep_check.specs.Causes.{IsOfStage, CanTake, IsProvedStep, IsInTurn, IsWithinLimits, IsStaged, IsStepCause, cause_line, IsFirstAsked, IsTrulyQuiet, IsStartCause, IsEndCause, IsRefusedFrom, IsLogRefused}
use Rattle.cep_check.proofs.Differences.{three_ways, OffersOrdered, first_offer_once, fails_once, difference_once, lack_once, first_asked_once, LeadsToOne, NeedsLeft, proofs_at, step_clash, one_spot, start_clash}

-- A step is refused for one cause at one line.

-- Two causes are told alike.
abbrev pub AreToldAlike : Parts → Cause → Cause → Type 0
AreToldAlike program one two = cause_text program one ≡ cause_text program two

module _ (laws : BagLaws) (order : OffersOrdered) (one : LeadsToOne) (needs : NeedsLeft) (program : Parts) where
  pub counts_alike : (words between : List ℕ) (said said' is is' : ℕ) (a b : AtomTree) → (a ≡ b) × (said ≡ said') × (is ≡ is') → counts_text program.signature words said between is a ≡ counts_text program.signature words said' between is' b
  counts_alike words between said said' is is' a b same = grind (arith, program.signature, same.1, same.2, same.0)

  pub stages_alike : (words : List ℕ) (said said' is is' : ℕ) → said ≡ said' → is ≡ is' → stages_text program words said is ≡ stages_text program words said' is'
  stages_alike words said said' is is' same same' = ap (λ n. stages_text program words n is) same ∙ ap (λ n. stages_text program words said' n) same'

  module _ (height : ℕ) (old : Spot) (rule : Rule) (step : LogStep) where
    abbrev pub goals : List AtomTree
    goals = full_instances step.offer.values rule.backs

    -- what a step has passed, test by test
    abbrev pub Passed : ℕ → Type 0
    Passed zero = Unit {0}
    Passed (suc zero) = IsOfStage old.stage rule
    Passed (suc (suc zero)) = CanTake program old rule step.offer
    Passed (suc (suc (suc zero))) = IsProvedStep program height old rule step
    Passed (suc (suc (suc (suc zero)))) = IsInTurn program height old rule step
    Passed (suc (suc (suc (suc (suc zero))))) = IsInTurn program height old rule step × MakesFit rule step.offer.values
    Passed (suc (suc (suc (suc (suc (suc zero)))))) = (new : Multiset) × IsWithinLimits program height old rule step new
    Passed (suc (suc (suc (suc (suc (suc (suc zero))))))) = (new : Multiset) × IsStaged program height old rule step new
    Passed (suc (suc (suc (suc (suc (suc (suc (suc n)))))))) = ⊥

    passed_before : (n : ℕ) → Passed (suc n) → Passed n
    passed_before zero p = tt
    passed_before (suc zero) p = p.of_stage
    passed_before (suc (suc zero)) p = p.can_take
    passed_before (suc (suc (suc zero))) p = p.is_proved
    passed_before (suc (suc (suc (suc zero)))) p = p.0
    passed_before (suc (suc (suc (suc (suc zero))))) p = (p.1.in_turn, p.1.fit)
    passed_before (suc (suc (suc (suc (suc (suc zero)))))) p = (p.0, p.1.within)
    passed_before (suc (suc (suc (suc (suc (suc (suc n))))))) p = absurd p

    passed_all_before : (k n m : ℕ) → m ≡ k + n → Passed m → Passed n
    passed_all_before zero n m e p = let same : m ≡ n = omega (arith, e) in subst Passed same p
    passed_all_before (suc k) n m e p = grind (arith, passed_before)

    -- how many tests a step with the cause has passed
    abbrev pub tests : Cause → ℕ
    tests (OtherStage number) = 0
    tests (NotContained atom have need) = 1
    tests (NotProved place) = 2
    tests (TooHigh place high) = 2
    tests (NotQuiet offer) = 3
    tests (OverLimit Atom) = 4
    tests (OverLimit State) = 5
    tests (StageLine said is) = 6
    tests (MidState line atom said is) = 7
    tests (StartStage said is) = 8
    tests (StartState atom said is) = 8
    tests NotEnded = 8
    tests (EndState atom said is) = 8

    has_passed : (cause : Cause) → IsStepCause program height old rule step cause → Passed (tests cause)
    has_passed (OverLimit State) comes = (comes.0, comes.1.0)
    has_passed (MidState line atom said is) comes = (comes.0, comes.1)
    has_passed cause comes = grind arith

    fails_next : (cause : Cause) → IsStepCause program height old rule step cause → Passed (suc (tests cause)) → ⊥
    fails_next (OtherStage number) comes passed = comes.1 passed
    fails_next (NotContained atom have need) comes passed = grind (arith, passed.contained, comes.1.wanted, comes.1.there, comes.1.lacks)
    fails_next (NotProved place) comes passed = comes.1.3 (proofs_at program height step.proofs goals comes.1.2.before comes.1.0 comes.1.1 passed.proved comes.1.2.derivation comes.1.2.premise).0
    fails_next (TooHigh place high) comes passed = omega (arith, (proofs_at program height step.proofs goals comes.1.2.before comes.1.0 comes.1.1 passed.proved comes.1.2.derivation comes.1.2.premise).1, comes.1.4, comes.1.5)
    fails_next (NotQuiet offer) comes passed = passed.quiet comes.1 (offer, comes.2.is)
    fails_next (OverLimit Atom) comes passed = comes.1 passed.1
    fails_next (OverLimit State) comes passed = comes.1.1.2 (rw (one program.signature rule step.offer.values old.state passed.0 comes.1.1.0 passed.1.leads comes.1.1.1) at passed.1.fits)
    fails_next (StageLine said is) comes passed = comes.3 (some_same said is (sym comes.1 ∙ passed.1.stage ∙ comes.2))
    fails_next cause comes passed = grind arith

    no_fewer : (cause other : Cause) → IsStepCause program height old rule step cause → IsStepCause program height old rule step other → tests cause < tests other → ⊥
    no_fewer cause other comes comes' fewer =
        fails_next cause comes (passed_all_before (tests other - suc (tests cause)) (suc (tests cause)) (tests other) (omega (arith, fewer)) (has_passed other comes'))

    as_many_tests : (cause other : Cause) → IsStepCause program height old rule step cause → IsStepCause program height old rule step other → tests cause ≡ tests other
    as_many_tests cause other comes comes' = grind (arith, no_fewer cause other comes comes', no_fewer other cause comes' comes, three_ways (tests cause) (tests other))

    -- what is not proved is not too high
    proved_or_high : {P : Type 0} (place place' high : ℕ) (comes : IsStepCause program height old rule step (NotProved place)) (comes' : IsStepCause program height old rule step (TooHigh place' high)) → P
    proved_or_high place place' high comes comes' =
        let here = fails_once program height step.proofs goals place place' comes.1.0 comes'.1.0 comes.1.1 comes'.1.1 comes.1.2 comes'.1.2 (λ ok. comes.1.3 ok.0) (λ ok. omega (arith, ok.1, comes'.1.4, comes'.1.5)) in
        grind (arith, here, some_same, comes'.1.2.derivation, step.proofs, comes.1.2.derivation, comes'.1.2.premise, comes.1.2.premise, comes.1.3, comes'.1.3)

    -- Two causes are told alike, at one line.
    abbrev pub AreAlike : Cause → Cause → Type 0
    AreAlike one two = (cause_line step one ≡ cause_line step two) × AreToldAlike program one two

    module _ (listing : IfSome step.mid (λ (mid : LogMid). IsListing program.signature mid.state)) where
      -- two causes of a step that pass as many tests
      tests_alike : (cause other : Cause) → IsStepCause program height old rule step cause → IsStepCause program height old rule step other → tests cause ≡ tests other → AreAlike cause other
      tests_alike (OtherStage number) (OtherStage number') comes comes' same = (refl, ap (λ n. codes "OtherStage " ++ offer_name (slice_get program.rules n)) (comes.0 ∙ sym comes'.0))
      tests_alike (NotContained atom have need) (NotContained atom' have' need') comes comes' same = (
        refl,
        counts_alike (codes "NotContained have ") (codes " need ") have have' need need' (atom_of atom) (atom_of atom')
            (lack_once laws (left_of program.signature rule step.offer.values) old.state (atom_of atom) (atom_of atom') have have' need need' comes.1 comes'.1),
      )
      tests_alike (NotProved place) (NotProved place') comes comes' same =
          let at = comes.1.2 in
          let at' = comes'.1.2 in
          let here = fails_once program height step.proofs goals place place' comes.1.0 comes'.1.0 comes.1.1 comes'.1.1 at at' (λ ok. comes.1.3 ok.0) (λ ok. comes'.1.3 ok.0) in
          (refl, ap (λ n. codes "NotProved " ++ decimal n) (omega (arith, here, at.counted, at'.counted)))
      tests_alike (NotProved place) (TooHigh place' high') comes comes' same = proved_or_high place place' high' comes comes'
      tests_alike (TooHigh place high) (NotProved place') comes comes' same = proved_or_high place' place high comes' comes
      tests_alike (TooHigh place high) (TooHigh place' high') comes comes' same =
          let at = comes.1.2 in
          let at' = comes'.1.2 in
          let here = fails_once program height step.proofs goals place place' comes.1.0 comes'.1.0 comes.1.1 comes'.1.1 at at' (λ ok. omega (arith, ok.1, comes.1.4, comes.1.5)) (λ ok. omega (arith, ok.1, comes'.1.4, comes'.1.5)) in
          let one_proof : comes.1.0 ≡ comes'.1.0 = some_same comes.1.0 comes'.1.0 (sym at.derivation ∙ ap (slice_get step.proofs) here ∙ at'.derivation) in
          let places : place ≡ place' = omega (arith, here, at.counted, at'.counted) in
          let heights : high ≡ high' = comes.1.4 ∙ ap proof_height one_proof ∙ sym comes'.1.4 in
          (refl, rw (places, heights) refl)
      tests_alike (NotQuiet offer) (NotQuiet offer') comes comes' same = (refl, ap (λ o. codes "NotQuiet " ++ offer_text program o) (first_offer_once order program height old.state (own_group old.stage) offer offer' comes.2 comes'.2))
      tests_alike (OverLimit Atom) (OverLimit Atom) comes comes' same = (refl, refl)
      tests_alike (OverLimit State) (OverLimit State) comes comes' same = (refl, refl)
      tests_alike (StageLine said is) (StageLine said' is') comes comes' same = (refl, stages_alike (codes "StageLine said ") said said' is is' (some_same said said' (sym comes.1 ∙ comes'.1)) (some_same is is' (sym comes.2 ∙ comes'.2)))
      tests_alike (MidState line atom said is) (MidState line' atom' said' is') comes comes' same =
          let one_mid = comes.2 in
          let other = comes'.2 in
          let same : one_mid.0 ≡ other.0 = some_same one_mid.0 other.0 (sym one_mid.1 ∙ other.1) in
          let after : comes.0 ≡ comes'.0 = one program.signature rule step.offer.values old.state comes.0 comes'.0 comes.1.within.leads comes'.1.within.leads in
          let lists : IsListing program.signature other.0.state = rw other.1 at listing in (
            one_mid.2 ∙ ap (λ (mid : LogMid). mid.line) same ∙ sym other.2,
            counts_alike (codes "MidState said ") (codes " is ") said said' is is' (atom_of atom) (atom_of atom')
                (difference_once laws other.0.state lists.rising comes'.0 (atom_of atom) (atom_of atom') said said' is is' (rw (same, after) at one_mid.3) other.3),
          )
      tests_alike cause other comes comes' same = grind arith

      pub step_alike : (cause other : Cause) → IsStepCause program height old rule step cause → IsStepCause program height old rule step other → AreAlike cause other
      step_alike cause other comes comes' = tests_alike cause other comes comes' (as_many_tests cause other comes comes')

-- A log is refused for one cause at one line.

module _ (laws : BagLaws) (order : OffersOrdered) (one : LeadsToOne) (needs : NeedsLeft) (program : Parts) where
  start_alike : (log : Log) → IsLogOf program log → (cause other : Cause) → IsStartCause program log cause → IsStartCause program log other → AreToldAlike program cause other
  start_alike log of (StartStage said is) (StartStage said' is') comes comes' = stages_alike laws order one needs program (codes "StartStage said ") said said' is is' (comes.0 ∙ sym comes'.0) (comes.1 ∙ sym comes'.1)
  start_alike log of (StartState atom said is) (StartState atom' said' is') comes comes' =
      counts_alike laws order one needs program (codes "StartState said ") (codes " is ") said said' is is' (atom_of atom) (atom_of atom')
      (difference_once laws log.start of.start.rising program.start (atom_of atom) (atom_of atom') said said' is is' comes.1 comes'.1)
  start_alike log of cause other comes comes' = grind arith

  asked_clash : (height : ℕ) (last : Spot) (end : LogEnd) (offer : Offer) → end.word ≡ Quiet → IsFirstAsked program height last offer → IsTrulyQuiet program height last end → ⊥
  asked_clash height last end offer quiet asked truly = grind (arith, asked, truly quiet)

  ends_rise : (end : Option LogEnd) → IfSome end (λ e. IsListing program.signature e.state) → IfSome end (λ e. AtomsRise e.state)
  ends_rise end is = grind arith

  end_alike : (log : Log) → IsLogOf program log → (last : Spot) (end : Option LogEnd) → IfSome end (λ e. AtomsRise e.state) → (cause other : Cause) → IsEndCause program log.height last end cause → IsEndCause program log.height last end other → AreToldAlike program cause other
  end_alike log of last None rising NotEnded NotEnded comes comes' = refl
  end_alike log of last (Some end) rising (NotQuiet offer) (NotQuiet offer') comes comes' = ap (λ o. codes "NotQuiet " ++ offer_text program o) (first_asked_once order program log.height last offer offer' comes.1 comes'.1)
  end_alike log of last (Some end) rising (NotQuiet offer) (EndState atom' said' is') comes comes' = absurd (asked_clash log.height last end offer comes.0 comes.1 comes'.0)
  end_alike log of last (Some end) rising (EndState atom said is) (NotQuiet offer') comes comes' = absurd (asked_clash log.height last end offer' comes'.0 comes'.1 comes.0)
  end_alike log of last (Some end) rising (EndState atom said is) (EndState atom' said' is') comes comes' =
      counts_alike laws order one needs program (codes "EndState said ") (codes " is ") said said' is is' (atom_of atom) (atom_of atom')
      (difference_once laws end.state rising last.state (atom_of atom) (atom_of atom') said said' is is' comes.1 comes'.1)
  end_alike log of last end rising cause other comes comes' = grind arith

  -- From a spot on a log is refused for one cause at one line.
  from_alike : (log : Log) → IsLogOf program log → (steps : List LogStep) → AllByRecursion (IsStepOf program) steps → (old : Spot) (line line' : ℕ) (cause other : Cause) → IsRefusedFrom program log old steps line cause → IsRefusedFrom program log old steps line' other → (line ≡ line') × AreToldAlike program cause other
  from_alike log of [] each old line line' cause other refused refused' = (refused.0 ∙ sym refused'.0, end_alike log of old log.end (ends_rise log.end of.ending) cause other refused.1 refused'.1)
  from_alike log of (step ∷ steps) each old line line' cause other (inl here) (inl here') =
      let alike = step_alike laws order one needs program log.height old here'.1.0 step each.0.listing cause other
      (rw (some_same here.1.0 here'.1.0 (sym here.1.1 ∙ here'.1.1)) at here.1.2) here'.1.2 in
      (here.0 ∙ alike.0 ∙ sym here'.0, alike.1)
  from_alike log of (step ∷ steps) each old line line' cause other (inl here) (inr later') = absurd (step_clash laws one needs program log.height old later'.0 here.1.0 step cause here.1.1 here.1.2 later'.1)
  from_alike log of (step ∷ steps) each old line line' cause other (inr later) (inl here') = absurd (step_clash laws one needs program log.height old later.0 here'.1.0 step other here'.1.1 here'.1.2 later.1)
  from_alike log of (step ∷ steps) each old line line' cause other (inr later) (inr later') =
      from_alike log of steps each.1 later'.0 line line' cause other (rw (one_spot laws one needs program log.height old later.0 later'.0 step later.1 later'.1) at later.2) later'.2

  -- A log of the program is refused for one cause at one line.
  pub refused_alike : (log : Log) → IsLogOf program log → (line line' : ℕ) (cause other : Cause) → IsLogRefused program log line cause → IsLogRefused program log line' other → (line ≡ line') × AreToldAlike program cause other
  refused_alike log of line line' cause other (inl start) (inl start') = (start.0 ∙ sym start'.0, start_alike log of cause other start.1 start'.1)
  refused_alike log of line line' cause other (inr later) (inr later') = from_alike log of log.steps of.steps (start_spot program) line line' cause other later.2 later'.2
  refused_alike log of line line' cause other (inl start) (inr later') = absurd (start_clash laws one needs program log cause start.1 later'.0 later'.1)
  refused_alike log of line line' cause other (inr later) (inl start') = absurd (start_clash laws one needs program log other start'.1 later.0 later.1)
