-- Private.
-- Where the steps of a log have led, and what each part of the check finds.
use Rattle.std.specs.Prelude.{◌≡◌, ◌≢◌, ◌↔◌, ℕ, ◌≤◌, ◌<◌, List, length, Option, Some, slice_get, IsSome, IfSome, IsSomeAnd}
use Rattle.std.specs.List.{AllByRecursion}
use Rattle.cep_base.specs.declared.limits.TheConstants.{MOST_HEIGHT}
use Rattle.cep_term.specs.Tree.{AtomTree, atom_of}
use Rattle.cep_term.specs.Multiset.{Multiset}
use Rattle.cep_rule.specs.declared.rule.Rule.{Rule}
use Rattle.cep_rule.specs.declared.parts.Parts.{Parts}
use Rattle.cep_rule.specs.Derivations.{ProofTree, Proves, proof_height}
use Rattle.cep_rule.specs.Typing.{AreValues}
use Rattle.cep_rule.specs.Limits.{IsSmallRule}
use Rattle.cep_rule.specs.Program.{IsTypedRule, IsDividedRule}
use Rattle.cep_rule.specs.Stages.{own_group, leaving_group}
use Rattle.cep_rule.specs.Steps.{Spot, IsMachineStep}
use Rattle.cep_log.specs.declared.log.Log.{Log}
use Rattle.cep_log.specs.declared.log.LogStep.{LogStep}
use Rattle.cep_log.specs.declared.log.LogMid.{LogMid}
use Rattle.cep_log.specs.Legal.{IsListing, IsLegalEnd}
use Rattle.cep_scratch.specs.First.{IsFirstOffer}
use Rattle.cep_check.specs.declared.cause.Cause.{Cause}
use Rattle.cep_check.specs.declared.cause.Cause.TheVariants.{NotContained, NotProved, TooHigh, NotQuiet, StageLine, MidState}
use Rattle.cep_check.specs.declared.cause.Verdict.{Verdict}
use Rattle.cep_check.specs.declared.cause.Verdict.TheVariants.{Accepted, Refused}
use Rattle.cep_check.specs.Causes.{IsFirstDifference, IsFirstLack, IsUnproved, IsTooHigh, IsStaged, IsStepCause, IsEndCause, end_line}

-- What is known of a step that is of the program, and of its rule.
pub record IsReadyStep (program : Parts) (rule : Rule) (step : LogStep) : Type 0 where
  pub numbered : slice_get program.rules step.offer.rule ≡ Some rule
  pub typed : IsTypedRule program.signature rule
  pub divided : IsDividedRule program.signature rule
  pub small : IsSmallRule rule
  pub next : IfSome rule.next (λ stage. stage < length program.stages)
  pub values : AreValues program.signature.cons rule.kinds step.offer.values
  pub as_many : length step.proofs ≡ length rule.backs
  pub low : AllByRecursion (λ proof. proof_height proof ≤ MOST_HEIGHT) step.proofs
  pub stage : IsSome step.stage ↔ IsSome rule.next
  pub listing : IfSome step.mid (λ mid. IsListing program.signature mid.state)

-- The cause is the first atom that is needed and lacks.
abbrev pub IsLackCause : Multiset → Multiset → Cause → Type 0
IsLackCause needed state (NotContained atom have need) =
    IsFirstLack needed state (atom_of atom) have need
IsLackCause needed state cause = ⊥

-- The derivation proves the goal, and is not higher than the height.
abbrev pub IsProofAt : Parts → ℕ → ProofTree → AtomTree → Type 0
IsProofAt program height proof goal = Proves program proof goal × (proof_height proof ≤ height)

-- The cause is that of one derivation, at this place: it does not prove its goal, or it does and is
-- too high.
abbrev pub IsOneProofCause : Parts → ℕ → ProofTree → AtomTree → ℕ → Cause → Type 0
IsOneProofCause program height proof goal place (NotProved at) =
    (at ≡ place) × (¬ Proves program proof goal)
IsOneProofCause program height proof goal place (TooHigh at high) =
    (at ≡ place) × Proves program proof goal × (high ≡ proof_height proof) × (height < high)
IsOneProofCause program height proof goal place cause = ⊥

-- The cause is the first derivation that fails.
abbrev pub IsProofCause : Parts → ℕ → List ProofTree → List AtomTree → Cause → Type 0
IsProofCause program height proofs goals (NotProved place) =
    IsUnproved program height proofs goals place
IsProofCause program height proofs goals (TooHigh place high) =
    IsTooHigh program height proofs goals place high
IsProofCause program height proofs goals cause = ⊥

-- The cause is the first offer of a stage's own group, where the rule leaves the stage.
abbrev pub IsQuietCause : Parts → ℕ → Spot → Rule → Cause → Type 0
IsQuietCause program height old rule (NotQuiet offer) =
    (rule.group ≡ leaving_group old.stage)
    × IsFirstOffer program height old.state (own_group old.stage) offer
IsQuietCause program height old rule cause = ⊥

-- The cause is that another stage is said than is named.
abbrev pub IsStageCause : Option ℕ → Option ℕ → Cause → Type 0
IsStageCause said named (StageLine one other) =
    (said ≡ Some one) × (named ≡ Some other) × (one ≢ other)
IsStageCause said named cause = ⊥

-- The step leads from one spot to the other, whatever is listed after it.
pub record IsDoneStep (program : Parts) (height : ℕ) (old new : Spot) (rule : Rule) (step : LogStep)
    : Type 0 where
  pub machine : IsMachineStep program height old new step.offer rule step.proofs
  pub staged : IsStaged program height old rule step new.state

-- The cause is that a listing is not the state.
abbrev pub IsMidCause : Option LogMid → Multiset → Cause → Type 0
IsMidCause said state (MidState line atom one other) =
    (mid : LogMid) × (said ≡ Some mid) × (line ≡ mid.line)
    × IsFirstDifference mid.state state (atom_of atom) one other
IsMidCause said state cause = ⊥

-- The cause is that of a step from this spot, by the rule that its offer names.
abbrev pub IsStepCauseOf : Parts → ℕ → Spot → LogStep → Cause → Type 0
IsStepCauseOf program height old step cause =
    (rule : Rule) × (slice_get program.rules step.offer.rule ≡ Some rule)
    × IsStepCause program height old rule step cause

-- What the end comes to, where all steps are legal and have led to this spot.
abbrev pub IsEndVerdict : Parts → Log → Spot → Verdict → Type 0
IsEndVerdict program log last (Accepted steps) =
    IsSomeAnd log.end (IsLegalEnd program log.height last) × (steps ≡ length log.steps)
IsEndVerdict program log last (Refused line cause) =
    (line ≡ end_line log log.end) × IsEndCause program log.height last log.end cause
