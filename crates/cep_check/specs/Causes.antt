-- Why a log is refused: each cause, where it comes, and which one comes first.
use Rattle.std.specs.Prelude.{◌≡◌, ◌≢◌, ◌⊎◌, ℕ, ◌+◌, ◌≤◌, ◌<◌, List, [], ◌∷◌, length, take, Option, Some, None, slice_get, Contains}
use Rattle.std.specs.FinMap as finite
use Rattle.std.specs.declared.cmp.Ordering.TheVariants.{Less}
use Rattle.cep_term.specs.Tree.{AtomTree, atom_of}
use Rattle.cep_term.specs.Order.{atom_cmp}
use Rattle.cep_term.specs.Multiset.{Multiset, count_of, IsContained}
use Rattle.cep_rule.specs.declared.rule.Rule.{Rule}
use Rattle.cep_rule.specs.declared.parts.Parts.{Parts}
use Rattle.cep_rule.specs.declared.offer.Offer.{Offer}
use Rattle.cep_rule.specs.Instances.{full_instances, left_of}
use Rattle.cep_rule.specs.Derivations.{ProofTree, Proves, proof_height}
use Rattle.cep_rule.specs.State.{Fits}
use Rattle.cep_rule.specs.Stages.{own_group, leaving_group, HasOffer}
use Rattle.cep_rule.specs.Step.{Step}
use Rattle.cep_rule.specs.Steps.{Spot, MakesFit, AreProofs, start_spot}
use Rattle.cep_scratch.specs.First.{IsFirstOffer}
use Rattle.cep_lines.specs.declared.end_word.EndWord.TheVariants.{Quiet}
use Rattle.cep_log.specs.declared.log.Log.{Log}
use Rattle.cep_log.specs.declared.log.LogStep.{LogStep}
use Rattle.cep_log.specs.declared.log.LogMid.{LogMid}
use Rattle.cep_log.specs.declared.log.LogEnd.{LogEnd}
use Rattle.cep_log.specs.Legal.{IsLegalStep, IsLegal}
use Rattle.cep_step.specs.Passing.{Passes}
use Rattle.cep_check.specs.declared.cause.Cause.{Cause}
use Rattle.cep_check.specs.declared.cause.Verdict.{Verdict}
use Rattle.cep_check.specs.declared.cause.Verdict.TheVariants.{Accepted, Refused}
use Rattle.cep_check.specs.declared.cause.Cause.TheVariants.{StartStage, StartState, OtherStage, NotContained, NotProved, TooHigh, NotQuiet, OverLimit, StageLine, MidState, NotEnded, EndState}

-- A listing says that there are so many copies of the atom: 0 where no line of it is of the atom.
abbrev pub ListsCount : List (AtomTree × ℕ) → AtomTree → ℕ → Type 0
ListsCount listing a count =
    Contains listing (a, count) ⊎ ((count ≡ 0) × ((other : ℕ) → ¬ (Contains listing (a, other))))

-- The first atom, in the order of atoms, of which a listing says another count than the state has.
pub record IsFirstDifference (listing : List (AtomTree × ℕ)) (state : Multiset) (atom : AtomTree)
    (said is : ℕ) : Type 0 where
  pub listed : ListsCount listing atom said
  pub there : is ≡ count_of state atom
  pub differ : said ≢ is
  pub before : (a : AtomTree) → atom_cmp a atom ≡ Less → ListsCount listing a (count_of state a)

-- The first atom, in the order of atoms, of which more copies are needed than the state has.
pub record IsFirstLack (needed state : Multiset) (atom : AtomTree) (have need : ℕ) : Type 0 where
  pub wanted : need ≡ count_of needed atom
  pub there : have ≡ count_of state atom
  pub lacks : have < need
  pub before : (a : AtomTree) → atom_cmp a atom ≡ Less → count_of needed a ≤ count_of state a

-- The rule is one of the stage's own, or one that leaves the stage.
abbrev pub IsOfStage : ℕ → Rule → Type 0
IsOfStage stage rule = (rule.group ≡ own_group stage) ⊎ (rule.group ≡ leaving_group stage)

-- A derivation and what it is to prove, at a place counted from 1: those before it prove what they
-- are to, and none of them is higher than the height.
pub record IsAtPremise (program : Parts) (height : ℕ) (proofs : List ProofTree)
    (goals : List AtomTree) (place : ℕ) (proof : ProofTree) (goal : AtomTree) : Type 0 where
  pub before : ℕ
  pub counted : place ≡ before + 1
  pub derivation : slice_get proofs before ≡ Some proof
  pub premise : slice_get goals before ≡ Some goal
  pub proved : AreProofs program height (take before proofs) (take before goals)

-- At this place stands the first derivation that fails: it does not prove what it is to.
abbrev pub IsUnproved : Parts → ℕ → List ProofTree → List AtomTree → ℕ → Type 0
IsUnproved program height proofs goals place =
    (proof : ProofTree) × (goal : AtomTree)
    × IsAtPremise program height proofs goals place proof goal × (¬ Proves program proof goal)

-- At this place stands the first derivation that fails: it proves what it is to, and it has this
-- height, which is above the one that is allowed.
abbrev pub IsTooHigh : Parts → ℕ → List ProofTree → List AtomTree → ℕ → ℕ → Type 0
IsTooHigh program height proofs goals place high =
    (proof : ProofTree) × (goal : AtomTree)
    × IsAtPremise program height proofs goals place proof goal × Proves program proof goal
    × (high ≡ proof_height proof) × (height < high)

-- The rule is of the stage, and the state contains the left side.
pub record CanTake (program : Parts) (old : Spot) (rule : Rule) (offer : Offer) : Type 0 where
  pub of_stage : IsOfStage old.stage rule
  pub contained : IsContained (left_of program.signature rule offer.values) old.state

-- Besides, the derivations prove the backward premises within the height.
pub record IsProvedStep (program : Parts) (height : ℕ) (old : Spot) (rule : Rule) (step : LogStep)
    : Type 0 where
  pub can_take : CanTake program old rule step.offer
  pub proved : AreProofs program height step.proofs (full_instances step.offer.values rule.backs)

-- Besides, the rule leaves its stage only where none of the stage's own rules has an offer.
pub record IsInTurn (program : Parts) (height : ℕ) (old : Spot) (rule : Rule) (step : LogStep)
    : Type 0 where
  pub is_proved : IsProvedStep program height old rule step
  pub quiet : rule.group ≡ leaving_group old.stage
      → ¬ (HasOffer program height old.state (own_group old.stage))

-- Besides, all atoms that the rule makes are fit, and the step leads to this state, which fits.
pub record IsWithinLimits (program : Parts) (height : ℕ) (old : Spot) (rule : Rule) (step : LogStep)
    (new : Multiset) : Type 0 where
  pub in_turn : IsInTurn program height old rule step
  pub fit : MakesFit rule step.offer.values
  pub leads : Step program.signature rule step.offer.values old.state new
  pub fits : Fits new

-- Besides, the stage that is said is the rule's.
pub record IsStaged (program : Parts) (height : ℕ) (old : Spot) (rule : Rule) (step : LogStep)
    (new : Multiset) : Type 0 where
  pub within : IsWithinLimits program height old rule step new
  pub stage : step.stage ≡ rule.next

-- The cause comes before any step: the stage that is said is another than the program's start
-- stage; and where it is that, the listing is not the start state.
abbrev pub IsStartCause : Parts → Log → Cause → Type 0
IsStartCause program log (StartStage said is) =
    (said ≡ log.stage) × (is ≡ program.start_stage) × (said ≢ is)
IsStartCause program log (StartState atom said is) =
    (log.stage ≡ program.start_stage)
    × IsFirstDifference log.start program.start (atom_of atom) said is
IsStartCause program log (OtherStage rule) = ⊥
IsStartCause program log (NotContained atom have need) = ⊥
IsStartCause program log (NotProved premise) = ⊥
IsStartCause program log (TooHigh premise height) = ⊥
IsStartCause program log (NotQuiet offer) = ⊥
IsStartCause program log (OverLimit limit) = ⊥
IsStartCause program log (StageLine said is) = ⊥
IsStartCause program log (MidState line atom said is) = ⊥
IsStartCause program log NotEnded = ⊥
IsStartCause program log (EndState atom said is) = ⊥

-- The cause comes at a step from this spot, and none of those above it does: the rule is neither of
-- the stage nor leaves it; the left side is not contained; a derivation does not prove its premise,
-- or it does and is too high; the rule leaves its stage while one of the stage's own has an offer,
-- of which the first is told; an atom that the rule makes is not fit, or all are and the new state
-- does not fit; the stage that is said is another than the rule's; or the listing after the step
-- is not the new state.
abbrev pub IsStepCause : Parts → ℕ → Spot → Rule → LogStep → Cause → Type 0
IsStepCause program height old rule step (OtherStage number) =
    (number ≡ step.offer.rule) × (¬ IsOfStage old.stage rule)
IsStepCause program height old rule step (NotContained atom have need) =
    IsOfStage old.stage rule
    × IsFirstLack (left_of program.signature rule step.offer.values) old.state (atom_of atom) have
    need
IsStepCause program height old rule step (NotProved place) =
    CanTake program old rule step.offer
    × IsUnproved program height step.proofs (full_instances step.offer.values rule.backs) place
IsStepCause program height old rule step (TooHigh place high) =
    CanTake program old rule step.offer
    × IsTooHigh program height step.proofs (full_instances step.offer.values rule.backs) place high
IsStepCause program height old rule step (NotQuiet offer) =
    IsProvedStep program height old rule step × (rule.group ≡ leaving_group old.stage)
    × IsFirstOffer program height old.state (own_group old.stage) offer
IsStepCause program height old rule step (OverLimit limit) =
    IsInTurn program height old rule step
    × Passes program.signature rule step.offer.values old.state limit
IsStepCause program height old rule step (StageLine said is) =
    ((new : Multiset) × IsWithinLimits program height old rule step new)
    × (step.stage ≡ Some said) × (rule.next ≡ Some is) × (said ≢ is)
IsStepCause program height old rule step (MidState line atom said is) =
    (new : Multiset) × IsStaged program height old rule step new
    × ((mid : LogMid) × (step.mid ≡ Some mid) × (line ≡ mid.line)
    × IsFirstDifference mid.state new (atom_of atom) said is)
IsStepCause program height old rule step (StartStage said is) = ⊥
IsStepCause program height old rule step (StartState atom said is) = ⊥
IsStepCause program height old rule step NotEnded = ⊥
IsStepCause program height old rule step (EndState atom said is) = ⊥

-- The first offer of the group that a stage asks.
abbrev pub IsFirstAsked : Parts → ℕ → Spot → Offer → Type 0
IsFirstAsked program height spot offer =
    IsFirstOffer program height spot.state (own_group spot.stage) offer
    ⊎
    ((¬ HasOffer program height spot.state (own_group spot.stage))
    × IsFirstOffer program height spot.state (leaving_group spot.stage) offer)

-- Quiet is said only where the asked group has no offer.
abbrev pub IsTrulyQuiet : Parts → ℕ → Spot → LogEnd → Type 0
IsTrulyQuiet program height last end =
    end.word ≡ Quiet
    → (¬ HasOffer program height last.state (own_group last.stage))
    × (¬ HasOffer program height last.state (leaving_group last.stage))

-- The cause comes after all steps, which lead to this spot, and none of those above it does: there
-- is no end; quiet is said and the asked group has an offer, of which the first is told; or the
-- listing is not the state.
abbrev pub IsEndCause : Parts → ℕ → Spot → Option LogEnd → Cause → Type 0
IsEndCause program height last None NotEnded = Unit {0}
IsEndCause program height last (Some end) NotEnded = ⊥
IsEndCause program height last None (NotQuiet offer) = ⊥
IsEndCause program height last (Some end) (NotQuiet offer) =
    (end.word ≡ Quiet) × IsFirstAsked program height last offer
IsEndCause program height last None (EndState atom said is) = ⊥
IsEndCause program height last (Some end) (EndState atom said is) =
    IsTrulyQuiet program height last end
    × IsFirstDifference end.state last.state (atom_of atom) said is
IsEndCause program height last end (StartStage said is) = ⊥
IsEndCause program height last end (StartState atom said is) = ⊥
IsEndCause program height last end (OtherStage rule) = ⊥
IsEndCause program height last end (NotContained atom have need) = ⊥
IsEndCause program height last end (NotProved premise) = ⊥
IsEndCause program height last end (TooHigh premise high) = ⊥
IsEndCause program height last end (OverLimit limit) = ⊥
IsEndCause program height last end (StageLine said is) = ⊥
IsEndCause program height last end (MidState line atom said is) = ⊥

-- the line of a cause that comes at a step: that of its listing where it is this, and else of the
-- step
abbrev pub cause_line : LogStep → Cause → ℕ
cause_line step (MidState line atom said is) = line
cause_line step (StartStage said is) = step.line
cause_line step (StartState atom said is) = step.line
cause_line step (OtherStage rule) = step.line
cause_line step (NotContained atom have need) = step.line
cause_line step (NotProved premise) = step.line
cause_line step (TooHigh premise height) = step.line
cause_line step (NotQuiet offer) = step.line
cause_line step (OverLimit limit) = step.line
cause_line step (StageLine said is) = step.line
cause_line step NotEnded = step.line
cause_line step (EndState atom said is) = step.line

-- the line of the end, and where there is none the one after the last
abbrev pub end_line : Log → Option LogEnd → ℕ
end_line log None = log.lines + 1
end_line log (Some end) = end.line

-- From a spot on, with these steps left, the log is refused at a line for a cause: at the first
-- step that is not legal, or, where all are, after them.
abbrev pub IsRefusedFrom : Parts → Log → Spot → List LogStep → ℕ → Cause → Type 0
IsRefusedFrom program log old [] line cause =
    (line ≡ end_line log log.end) × IsEndCause program log.height old log.end cause
IsRefusedFrom program log old (step ∷ steps) line cause =
    ((line ≡ cause_line step cause)
    × ((rule : Rule) × (slice_get program.rules step.offer.rule ≡ Some rule)
    × IsStepCause program log.height old rule step cause))
    ⊎
    ((new : Spot) × IsLegalStep program log.height old new step
    × IsRefusedFrom program log new steps line cause)

-- The log is refused at this line for this cause, which is the first that comes.
abbrev pub IsLogRefused : Parts → Log → ℕ → Cause → Type 0
IsLogRefused program log line cause =
    ((line ≡ log.stage_line) × IsStartCause program log cause)
    ⊎
    ((log.stage ≡ program.start_stage) × (log.start ≡ finite.entries program.start)
    × IsRefusedFrom program log (start_spot program) log.steps line cause)

-- The verdict is that the log is accepted.
abbrev pub AcceptsLog : Verdict → Type 0
AcceptsLog (Accepted steps) = Unit {0}
AcceptsLog (Refused line cause) = ⊥

-- What checking a log comes to: it is legal and has so many steps, or it is refused.
abbrev pub IsVerdict : Parts → Log → Verdict → Type 0
IsVerdict program log (Accepted steps) = IsLegal program log × (steps ≡ length log.steps)
IsVerdict program log (Refused line cause) = IsLogRefused program log line cause
