-- The lines that tell what checking a transcript comes to.
use Rattle.std.specs.Prelude.{ℕ, ◌<◌, List, ◌++◌, length, codes, decimal, slice_get}
use Rattle.cep_term.specs.Tree.{AtomTree, atom_of}
use Rattle.cep_rule.specs.declared.signature.Signature.{Signature}
use Rattle.cep_rule.specs.declared.parts.Parts.{Parts}
use Rattle.cep_rule.specs.Shapes.{IsOfferOf}
use Rattle.cep_text.specs.Texts.{atom_text, offer_name, offer_text, IsTypedGround}
use Rattle.cep_log.specs.declared.fault.LogFault.{LogFault}
use Rattle.cep_log.specs.declared.fault.LogFault.TheVariants.{Line, NoRule}
use Rattle.cep_lines.specs.Lines.{stage_name}
use Rattle.cep_step.specs.declared.limit.Limit.{Limit}
use Rattle.cep_step.specs.declared.limit.Limit.TheVariants.{Atom, State}
use Rattle.cep_check.specs.declared.cause.Cause.{Cause}
use Rattle.cep_check.specs.declared.cause.Cause.TheVariants.{StartStage, StartState, OtherStage, NotContained, NotProved, TooHigh, NotQuiet, OverLimit, StageLine, MidState, NotEnded, EndState}
use Rattle.cep_check.specs.declared.cause.Verdict.{Verdict}
use Rattle.cep_check.specs.declared.cause.Verdict.TheVariants.{Accepted, Refused}

-- the cause's words, the stage that is said, and the one that it is
unfoldable pub stages_text : Parts → List ℕ → ℕ → ℕ → List ℕ
stages_text program words said is =
    words ++ stage_name (slice_get program.stages said) ++ codes " is "
    ++ stage_name (slice_get program.stages is)

-- `N ATOM`: a number of copies of the atom
unfoldable pub copies_text : Signature → ℕ → AtomTree → List ℕ
copies_text signature count a = decimal count ++ codes " " ++ atom_text signature a

-- the cause's words with a number of copies, and further words with another and the atom that has
-- so many
unfoldable pub counts_text : Signature → List ℕ → ℕ → List ℕ → ℕ → AtomTree → List ℕ
counts_text signature words one between other a =
    words ++ decimal one ++ between ++ copies_text signature other a

-- the limit that a step passes
abbrev pub limit_text : Limit → List ℕ
limit_text Atom = codes "OverLimit atom"
limit_text State = codes "OverLimit state"

-- The text of a cause: its name, and what there is to say of it, with stages and rules by their
-- names, and atoms and offers by their texts.
abbrev pub cause_text : Parts → Cause → List ℕ
cause_text program (StartStage said is) = stages_text program (codes "StartStage said ") said is
cause_text program (StartState atom said is) =
    counts_text program.signature (codes "StartState said ") said (codes " is ") is (atom_of atom)
cause_text program (OtherStage rule) =
    codes "OtherStage " ++ offer_name (slice_get program.rules rule)
cause_text program (NotContained atom have need) =
    counts_text program.signature (codes "NotContained have ") have (codes " need ") need
    (atom_of atom)
cause_text program (NotProved premise) = codes "NotProved " ++ decimal premise
cause_text program (TooHigh premise height) =
    codes "TooHigh " ++ decimal premise ++ codes " " ++ decimal height
cause_text program (NotQuiet offer) = codes "NotQuiet " ++ offer_text program offer
cause_text program (OverLimit limit) = limit_text limit
cause_text program (StageLine said is) = stages_text program (codes "StageLine said ") said is
cause_text program (MidState line atom said is) =
    counts_text program.signature (codes "MidState said ") said (codes " is ") is (atom_of atom)
cause_text program NotEnded = codes "NotEnded"
cause_text program (EndState atom said is) =
    counts_text program.signature (codes "EndState said ") said (codes " is ") is (atom_of atom)

-- `refused LINE TEXT`
unfoldable pub refused_text : ℕ → List ℕ → List ℕ
refused_text number text = codes "refused " ++ decimal number ++ codes " " ++ text

-- The text of a verdict: `accepted N`, or that it is refused, at which line and why.
abbrev pub verdict_text : Parts → Verdict → List ℕ
verdict_text program (Accepted steps) = codes "accepted " ++ decimal steps
verdict_text program (Refused line cause) = refused_text line (cause_text program cause)

-- the text of bytes that are no transcript
abbrev pub fault_text : LogFault → List ℕ
fault_text (Line line) = refused_text line (codes "Line")
fault_text (NoRule line) = refused_text line (codes "NoRule")

-- What a cause names has a name or a text: its stages and rules are those of the program, its atoms
-- are ground and well typed, and its offer is of the program.
abbrev pub IsTellableCause : Parts → Cause → Type 0
IsTellableCause program (StartStage said is) =
    (said < length program.stages) × (is < length program.stages)
IsTellableCause program (StartState atom said is) = IsTypedGround program.signature (atom_of atom)
IsTellableCause program (OtherStage rule) = rule < length program.rules
IsTellableCause program (NotContained atom have need) =
    IsTypedGround program.signature (atom_of atom)
IsTellableCause program (NotProved premise) = Unit {0}
IsTellableCause program (TooHigh premise height) = Unit {0}
IsTellableCause program (NotQuiet offer) = IsOfferOf program offer
IsTellableCause program (OverLimit limit) = Unit {0}
IsTellableCause program (StageLine said is) =
    (said < length program.stages) × (is < length program.stages)
IsTellableCause program (MidState line atom said is) =
    IsTypedGround program.signature (atom_of atom)
IsTellableCause program NotEnded = Unit {0}
IsTellableCause program (EndState atom said is) = IsTypedGround program.signature (atom_of atom)

-- A verdict can be told: what its cause names has a name or a text.
abbrev pub IsTellable : Parts → Verdict → Type 0
IsTellable program (Accepted steps) = Unit {0}
IsTellable program (Refused line cause) = IsTellableCause program cause
