-- What checking a step and a log comes to, from what each part finds.
use Rattle.std.proofs.Common.{ℕ, List, length, arith, ◌≡◌, inl, inr, suc, ◌+◌, ◌<◌, [], ◌∷◌, take, Some, sym, ap, subst, ◌∙◌, ◌⊎◌, ◌||◌, ◌++◌, Contains, Option}
use Rattle.std.specs.List.{AllByRecursion}
use Rattle.std.specs.Prelude.{slice_get, ◌/◌, ◌↔◌, IsSome, IfSome}
use Rattle.cep_rule.proofs.StepLaws.{all_kept}
use Rattle.cep_rule.specs.Shapes.{IsOfferOf}
use Rattle.cep_base.proofs.Lists.{all_weaker, all_mapped, some_same, holds_at}
use Rattle.cep_base.proofs.Elements.{all_at, both_all}
use Rattle.cep_term.specs.Tree.{Tree, AtomTree, IsGroundAtom, IsAtomInRange, IsFit, atom_of}
use Rattle.cep_term.specs.BagLaws.{BagLaws}
use Rattle.cep_text.specs.Texts.{IsTypedGround}
use Rattle.cep_rule.specs.declared.signature.Signature.{Signature}
use Rattle.cep_rule.specs.declared.rule.Rule.{Rule}
use Rattle.cep_rule.specs.declared.parts.Parts.{Parts}
use Rattle.cep_rule.specs.Typing.{IsTyped, AreValues, is_fact}
use Rattle.cep_rule.specs.TypeLaws.{TypeLaws}
use Rattle.cep_rule.specs.Instances.{full_instance, full_instances, left_of, kept_of}
use Rattle.cep_rule.specs.Steps.{Spot, AreProofs, start_spot}
use Rattle.cep_log.specs.declared.log.LogStep.{LogStep}
use Rattle.cep_log.specs.declared.log.Log.{Log}
use Rattle.cep_log.specs.Legal.{IsStepOf, IsLegalStep, AreLegalSteps, IsHave, IsListing, IsLogOf}
use Rattle.cep_step.specs.declared.change.Change.{Change}
use Rattle.cep_step.specs.Changes.{edited, IsChangeOf}
use Rattle.cep_check.specs.declared.cause.Cause.{Cause}
use Rattle.cep_check.specs.declared.cause.Verdict.{Verdict}
use Rattle.cep_check.specs.declared.cause.Verdict.TheVariants.{Accepted, Refused}
use Rattle.cep_check.specs.Telling.{IsTellableCause, IsTellable}
use Rattle.cep_check.specs.declared.cause.Cause.TheVariants.{StageLine, MidState, StartStage, StartState, OtherStage, NotContained, NotQuiet, EndState}
use Rattle.cep_check.specs.Causes.{IsInTurn, IsStepCause, IsOfStage, CanTake, IsProvedStep, IsRefusedFrom, IsFirstDifference, IsFirstLack, IsStartCause, IsEndCause, IsVerdict, end_line}
use Rattle.cep_check.specs.Walking.{IsStageCause, IsDoneStep, IsMidCause, IsReadyStep, IsLackCause, IsProofAt, IsOneProofCause, IsProofCause, IsQuietCause, IsEndVerdict}
use Rattle.std.proofs.lemmas.Bool.{eqb-true, eqb-false}
use Rattle.std.proofs.lemmas.Option.{slice_get_within}
use Rattle.cep_term.specs.Multiset.{Multiset, count_of, gathered}
use Rattle.cep_rule.specs.Derivations.{ProofTree, by_clause, Proves}
use Rattle.cep_rule.specs.Limits.{IsSmallRule}
use Rattle.cep_rule.specs.Program.{IsTypedRule, IsDividedRule, IsProgram}
use Rattle.cep_rule.specs.Step.{Step}
use Rattle.cep_rule.specs.Patterns.{PremiseTree}
use Rattle.cep_rule.specs.declared.offer.Offer.{Offer}
use Rattle.cep_rule.specs.Binding.{needed_of}
use Rattle.cep_rule.specs.Offers.{Applies}
use Rattle.cep_log.specs.declared.log.LogMid.{LogMid}
use Rattle.cep_log.specs.declared.log.LogEnd.{LogEnd}
use Rattle.std.specs.FinMap as finite

-- What a step of a log does to where the steps have led.

-- the instances of typed atoms by values of the right types
pub in_range_all : TypeLaws → (signature : Signature) (kinds : List ℕ) (values : List Tree) → AreValues signature.cons kinds values → (atoms : List AtomTree) → AllByRecursion (IsTyped signature kinds) atoms → AllByRecursion (IsAtomInRange (length values)) atoms
in_range_all types signature kinds values are atoms typed = grind (arith, all_weaker, types.as_many, signature.cons, types.in_range)

pub ground_all : TypeLaws → (signature : Signature) (kinds : List ℕ) (values : List Tree) → AreValues signature.cons kinds values → (atoms : List AtomTree) → AllByRecursion (IsTyped signature kinds) atoms → AllByRecursion IsGroundAtom (full_instances values atoms)
ground_all types signature kinds values are atoms typed = all_mapped (IsTyped signature kinds) IsGroundAtom (full_instance values) atoms (λ a typed. types.ground signature kinds values a are typed) typed

-- what a step in turn comes to that is within the limits
module _ (program : Parts) (height : ℕ) (old : Spot) (rule : Rule) (step : LogStep) (ready : IsReadyStep program rule step) (in_turn : IsInTurn program height old rule step) (change : Change) (is : IsChangeOf program rule step.offer.values old change) where
  -- it is followed by another stage than the rule's
  pub stage_cause : (cause : Cause) → IsStageCause step.stage rule.next cause → IsStepCause program height old rule step cause
  stage_cause (StageLine said named) other = ((edited old.state change, record { in_turn = in_turn; fit = is.leads.fit; leads = is.leads.step; fits = is.leads.fits }), other.0, other.1, other.2)
  stage_cause cause other = absurd other

-- a step that is done is followed by another listing than that of where it leads
pub mid_cause : (program : Parts) (height : ℕ) (old new : Spot) (rule : Rule) (step : LogStep) (cause : Cause) → IsDoneStep program height old new rule step → IsMidCause step.mid new.state cause → IsStepCause program height old rule step cause
mid_cause program height old new rule step (MidState line atom said is) done other = (new.state, done.staged, other)
mid_cause program height old new rule step cause done other = absurd other

-- Causes of a step, from what each part of the check finds.

-- a rule's group says of which stage it is
pub of_stage : (stage : ℕ) (rule : Rule) → rule.group / 2 ≡ stage → IsOfStage stage rule
of_stage stage rule half = grind (arith, eqb-true, eqb-false, rule.group)

pub of_no_stage : (stage : ℕ) (rule : Rule) → (rule.group / 2 ≡ stage → ⊥) → ¬ (IsOfStage stage rule)
of_no_stage stage rule apart is = grind (arith, apart)

-- where one more derivation proves its goal, all up to it do
pub proofs_one : (program : Parts) (height : ℕ) (proofs : List ProofTree) (goals : List AtomTree) (n : ℕ) (proof : ProofTree) (goal : AtomTree) → AreProofs program height (take n proofs) (take n goals) → slice_get proofs n ≡ Some proof → slice_get goals n ≡ Some goal → IsProofAt program height proof goal → AreProofs program height (take (suc n) proofs) (take (suc n) goals)
proofs_one program height (x ∷ proofs) (y ∷ goals) (suc n) proof goal all p q is = (all.0, all.1, proofs_one program height proofs goals n proof goal all.2 p q is)
proofs_one program height proofs goals n proof goal all p q is = grind arith

-- the cause of a derivation at a place is that of all, where those before it prove their goals
pub proof_cause : (program : Parts) (height : ℕ) (proofs : List ProofTree) (goals : List AtomTree) (n place : ℕ) (proof : ProofTree) (goal : AtomTree) (cause : Cause) → place ≡ n + 1 → AreProofs program height (take n proofs) (take n goals) → slice_get proofs n ≡ Some proof → slice_get goals n ≡ Some goal → IsOneProofCause program height proof goal place cause → IsProofCause program height proofs goals cause
proof_cause program height proofs goals n place proof goal cause is all p q fails = grind arith

module _ (program : Parts) (height : ℕ) (old : Spot) (rule : Rule) (step : LogStep) where
  pub lack_cause : (cause : Cause) → IsOfStage old.stage rule → IsLackCause (left_of program.signature rule step.offer.values) old.state cause → IsStepCause program height old rule step cause
  lack_cause cause of_stage lacks = grind arith

  pub failure_cause : (cause : Cause) → CanTake program old rule step.offer → IsProofCause program height step.proofs (full_instances step.offer.values rule.backs) cause → IsStepCause program height old rule step cause
  failure_cause cause can fails = grind arith

  pub quiet_cause : (cause : Cause) → IsProvedStep program height old rule step → IsQuietCause program height old rule cause → IsStepCause program height old rule step cause
  quiet_cause cause is there = grind arith

-- no proof is of what is not fit
pub only_fit : (program : Parts) (proof : ProofTree) (a : AtomTree) → Proves program proof a → IsFit a
only_fit program (by_clause number values subs) a proves = proves.0

-- what is known of a step of the program
pub ready : (program : Parts) (rule : Rule) (step : LogStep) → IsProgram program → IsStepOf program step → slice_get program.rules step.offer.rule ≡ Some rule → IsReadyStep program rule step
ready program rule step kept of_program numbered =
    let n = step.offer.rule in
    let same : of_program.rule ≡ rule = some_same of_program.rule rule (sym of_program.numbered ∙ numbered) in
    record {
      numbered = numbered;
      typed = holds_at (IsTypedRule program.signature) program.rules n rule kept.typed_rules numbered;
      divided = holds_at (IsDividedRule program.signature) program.rules n rule kept.divided_rules numbered;
      small = holds_at IsSmallRule program.rules n rule kept.small.each_rule numbered;
      next = holds_at (λ (r : Rule). IfSome r.next (λ stage. stage < length program.stages)) program.rules n rule kept.in_range.next_stages numbered;
      values = subst (λ (r : Rule). AreValues program.signature.cons r.kinds step.offer.values) same of_program.values;
      as_many = of_program.as_many ∙ ap (λ (r : Rule). length r.backs) same;
      low = of_program.low;
      stage = subst (λ (r : Rule). IsSome step.stage ↔ IsSome r.next) same of_program.stage;
      listing = of_program.listing;
    }

-- What checking a log comes to can be told.

-- Each atom of the state has a text.
abbrev AreWritable : Parts → Multiset → Type 0
AreWritable program state = (a : AtomTree) → 0 < count_of state a → IsTypedGround program.signature a

-- an atom that is there after a step is of the right side, or was there
abbrev pub ComesFrom : Type 0
ComesFrom = (signature : Signature) (rule : Rule) (values : List Tree) (old new : Multiset) (a : AtomTree) → Step signature rule values old new → 0 < count_of new a → Contains (full_instances values (rule.right ++ kept_of signature rule)) a ⊎ (0 < count_of old a)

module _ (bags : BagLaws) (types : TypeLaws) (comes_from : ComesFrom) (program : Parts) (kept : IsProgram program) where
  start_writable : AreWritable program program.start
  start_writable = λ a some. let is = kept.start.each a some in record { is_ground = is.ground; typed = is.typed }

  instances_writable : (rule : Rule) (values : List Tree) (atoms : List AtomTree) → AreValues program.signature.cons rule.kinds values → AllByRecursion (IsTyped program.signature rule.kinds) atoms → AllByRecursion (IsTypedGround program.signature) (full_instances values atoms)
  instances_writable rule values atoms are typed = all_mapped (IsTyped program.signature rule.kinds) (IsTypedGround program.signature) (full_instance values) atoms
      (λ a typed. record { is_ground = types.ground program.signature rule.kinds values a are typed; typed = types.typed program.signature rule.kinds values a are typed }) typed

  right_writable : (rule : Rule) (values : List Tree) → AreValues program.signature.cons rule.kinds values → IsTypedRule program.signature rule → AllByRecursion (IsTypedGround program.signature) (full_instances values (rule.right ++ kept_of program.signature rule))
  right_writable rule values are typed =
      instances_writable rule values (rule.right ++ kept_of program.signature rule) are
      (both_all (IsTyped program.signature rule.kinds) rule.right (kept_of program.signature rule) typed.right
      (all_kept (IsTyped program.signature rule.kinds) (λ (premise : PremiseTree). premise.atom) (λ premise. premise.kept || is_fact program.signature premise.atom) rule.premises typed.premises))

  -- a step leads from writable atoms to writable ones
  step_writable : (rule : Rule) (values : List Tree) (old new : Multiset) → AreValues program.signature.cons rule.kinds values → IsTypedRule program.signature rule → Step program.signature rule values old new → AreWritable program old → AreWritable program new
  step_writable rule values old new are typed step writable a some = grind (arith, comes_from program.signature rule values old new a step some, all_at (IsTypedGround program.signature) (full_instances values (rule.right ++ kept_of program.signature rule)) a (right_writable rule values are typed), writable a)

  -- an atom of which a listing says another number of copies than there are
  difference_writable : (listing : List (AtomTree × ℕ)) (state : Multiset) (atom : AtomTree) (said is : ℕ) → AllByRecursion (IsHave program.signature) listing → AreWritable program state → IsFirstDifference listing state atom said is → IsTypedGround program.signature atom
  difference_writable listing state atom said is each writable differs = grind (arith, all_at (IsHave program.signature) listing (atom, said) each, writable atom, differs.listed, differs.there, differs.differ)

  -- an atom that is needed and lacks
  lack_writable : (rule : Rule) (values : List Tree) (state : Multiset) (atom : AtomTree) (have need : ℕ) → AreValues program.signature.cons rule.kinds values → IsTypedRule program.signature rule → IsFirstLack (left_of program.signature rule values) state atom have need → IsTypedGround program.signature atom
  lack_writable rule values state atom have need are typed lacks =
      all_at (IsTypedGround program.signature) (full_instances values (needed_of rule)) atom (instances_writable rule values (needed_of rule) are typed.premises)
      ((bags.gathered_there (full_instances values (needed_of rule)) atom).0 (grind (arith, lacks.wanted, lacks.lacks, bags.once_count (is_fact program.signature) (gathered (full_instances values (needed_of rule))) atom)))

  offer_of : (height : ℕ) (state : Multiset) (offer : Offer) → Applies program height state offer → IsOfferOf program offer
  offer_of height state offer applies = rw applies.numbered applies.values

  start_told : (log : Log) (cause : Cause) → IsLogOf program log → IsStartCause program log cause → IsTellableCause program cause
  start_told log (StartStage said is) of_program comes = grind (arith, program.stages, comes.0, of_program.stage, comes.1, kept.in_range.start_stage)
  start_told log (StartState atom said is) of_program comes = difference_writable log.start program.start (atom_of atom) said is of_program.start.each start_writable comes.1
  start_told log cause of_program comes = absurd comes

  step_told : (height : ℕ) (old : Spot) (rule : Rule) (step : LogStep) (cause : Cause) → AreWritable program old.state → IsStepOf program step → slice_get program.rules step.offer.rule ≡ Some rule → IsStepCause program height old rule step cause → IsTellableCause program cause
  step_told height old rule step (OtherStage number) writable of_program numbered comes = subst (λ n. n < length program.rules) (sym comes.0) (slice_get_within program.rules step.offer.rule rule numbered)
  step_told height old rule step (NotContained atom have need) writable of_program numbered comes =
      let is = ready program rule step kept of_program numbered in
      lack_writable rule step.offer.values old.state (atom_of atom) have need is.values is.typed comes.1
  step_told height old rule step (NotQuiet offer) writable of_program numbered comes = offer_of height old.state offer comes.2.is.applies
  step_told height old rule step (StageLine said is) writable of_program numbered comes = grind (arith, ready, program.stages, comes.1, of_program.in_range, comes.2)
  step_told height old rule step (MidState line atom said is) writable of_program numbered comes =
      let known = ready program rule step kept of_program numbered in
      let mid = comes.2 in
      let listing : IsListing program.signature mid.0.state = subst (λ (found : Option LogMid). IfSome found (λ (mid : LogMid). IsListing program.signature mid.state)) mid.1 of_program.listing in
      difference_writable mid.0.state comes.0 (atom_of atom) said is listing.each
      (step_writable rule step.offer.values old.state comes.0 known.values known.typed comes.1.within.leads writable) mid.3
  step_told height old rule step cause writable of_program numbered comes = grind arith

  end_told : (height : ℕ) (last : Spot) (end : Option LogEnd) (cause : Cause) → IfSome end (λ (end : LogEnd). IsListing program.signature end.state) → AreWritable program last.state → IsEndCause program height last end cause → IsTellableCause program cause
  end_told height last (Some end) (NotQuiet offer) listing writable comes = grind (arith, offer_of, last.state, comes.1)
  end_told height last (Some end) (EndState atom said is) listing writable comes = difference_writable end.state last.state (atom_of atom) said is listing.each writable comes.1
  end_told height last end cause listing writable comes = grind arith

  -- where a legal step leads, atoms are writable
  legal_writable : (height : ℕ) (old new : Spot) (step : LogStep) → IsLegalStep program height old new step → AreWritable program old.state → AreWritable program new.state
  legal_writable height old new step legal writable = step_writable legal.rule step.offer.values old.state new.state legal.machine.values
      (holds_at (IsTypedRule program.signature) program.rules step.offer.rule legal.rule kept.typed_rules legal.machine.numbered)
      legal.machine.steps.step writable

  from_told : (log : Log) (steps : List LogStep) (old : Spot) (line : ℕ) (cause : Cause) → IsLogOf program log → AllByRecursion (IsStepOf program) steps → AreWritable program old.state → IsRefusedFrom program log old steps line cause → IsTellableCause program cause
  from_told log [] old line cause of_program each writable refused = end_told log.height old log.end cause of_program.ending writable refused.1
  from_told log (step ∷ steps) old line cause of_program each writable (inl here) = step_told log.height old here.1.0 step cause writable each.0 here.1.1 here.1.2
  from_told log (step ∷ steps) old line cause of_program each writable (inr later) = from_told log steps later.0 line cause of_program each.1 (legal_writable log.height old later.0 step later.1 writable) later.2

  pub verdict_told : (log : Log) (verdict : Verdict) → IsLogOf program log → IsVerdict program log verdict → IsTellable program verdict
  verdict_told log verdict of_program is = grind (arith, start_told, from_told, start_writable)

-- What a check comes to, from what its parts find.

-- where all steps are legal, the end decides
refused_end : (program : Parts) (log : Log) (steps : List LogStep) (old last : Spot) (line : ℕ) (cause : Cause) → AreLegalSteps program log.height steps old last → line ≡ end_line log log.end → IsEndCause program log.height last log.end cause → IsRefusedFrom program log old steps line cause
refused_end program log [] old last line cause legal line_is comes = (line_is, rw (sym legal) comes)
refused_end program log (step ∷ steps) old last line cause legal line_is comes = inr (legal.0, legal.1, refused_end program log steps legal.0 last line cause legal.2 line_is comes)

module _ (program : Parts) (log : Log) (of_program : IsLogOf program log) (stage : log.stage ≡ program.start_stage) (start : log.start ≡ finite.entries program.start) where
  -- all steps are
  pub verdict_end : (old last : Spot) (verdict : Verdict) → old ≡ start_spot program → AreLegalSteps program log.height log.steps old last → IsEndVerdict program log last verdict → IsVerdict program log verdict
  verdict_end old last (Accepted steps) same done ends = (
    (record {
      of_program = of_program;
      stage = stage;
      start = start;
      last = last;
      steps = subst (λ (spot : Spot). AreLegalSteps program log.height log.steps spot last) same done;
      ending = ends.0;
    }),
    ends.1,
  )
  verdict_end old last (Refused line cause) same done ends = inr (
    stage,
    start,
    subst (λ (spot : Spot). IsRefusedFrom program log spot log.steps line cause) same (refused_end program log log.steps old last line cause done ends.0 ends.1),
  )
