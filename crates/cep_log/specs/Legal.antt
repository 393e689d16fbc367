-- Which logs are of a program, and which of these are legal. Nothing is said here of bytes, of what was typed, or of who chose.
use Rattle.std.specs.Prelude.{◌≡◌, ◌↔◌, ℕ, ◌≤◌, ◌<◌, List, [], ◌∷◌, length, Some, slice_get, is_some, IsSome, IfSome, IsSomeAnd, ◌+◌}
use Rattle.std.specs.List.{AllByRecursion}
use Rattle.std.specs.FinMap as finite
use Rattle.std.specs.declared.cmp.Ordering.TheVariants.{Less}
use Rattle.cep_base.specs.declared.limits.TheConstants.{MOST_COPIES, MOST_HEIGHT}
use Rattle.cep_term.specs.Tree.{AtomTree, IsFit}
use Rattle.cep_term.specs.Order.{atom_cmp}
use Rattle.cep_rule.specs.declared.signature.Signature.{Signature}
use Rattle.cep_rule.specs.declared.rule.Rule.{Rule}
use Rattle.cep_rule.specs.declared.parts.Parts.{Parts}
use Rattle.cep_rule.specs.Typing.{AreValues}
use Rattle.cep_rule.specs.Limits.{IsHeight}
use Rattle.cep_rule.specs.Derivations.{proof_height}
use Rattle.cep_rule.specs.Stages.{IsQuiet}
use Rattle.cep_rule.specs.Steps.{Spot, IsMachineStep, start_spot}
use Rattle.cep_text.specs.Texts.{IsTypedGround}
use Rattle.cep_lines.specs.declared.version.Version.{Version}
use Rattle.cep_lines.specs.Lines.{has_listing}
use Rattle.cep_lines.specs.declared.end_word.EndWord.TheVariants.{Quiet}
use Rattle.cep_log.specs.declared.log.Log.{Log}
use Rattle.cep_log.specs.declared.log.LogStep.{LogStep}
use Rattle.cep_log.specs.declared.log.LogEnd.{LogEnd}
use Rattle.cep_base.specs.declared.limits.TheConstants.{MOST_LOG}

-- A line of a listing: a ground, well-typed, fit atom, of a predicate of any kind, with 1 to 100,000 copies.
pub record IsHave (signature : Signature) (entry : AtomTree × ℕ) : Type 0 where
  pub atom : IsTypedGround signature entry.0
  pub fit : IsFit entry.0
  pub some : 1 ≤ entry.1
  pub few : entry.1 ≤ MOST_COPIES

-- Each atom stands before all that follow it.
abbrev pub AtomsRise : List (AtomTree × ℕ) → Type 0
AtomsRise [] = Unit {0}
AtomsRise (entry ∷ entries) = AllByRecursion (λ later. atom_cmp entry.0 later.0 ≡ Less) entries × AtomsRise entries

-- A listing: strictly increasing by the order of atoms.
pub record IsListing (signature : Signature) (entries : List (AtomTree × ℕ)) : Type 0 where
  pub each : AllByRecursion (IsHave signature) entries
  pub rising : AtomsRise entries

-- A step is of a program: it has a rule of the program with one value for each of its variables, one derivation for each backward premise, none too high, a stage if and only if the rule leaves one, and after it a listing or none.
pub record IsStepOf (program : Parts) (step : LogStep) : Type 0 where
  pub rule : Rule
  pub numbered : slice_get program.rules step.offer.rule ≡ Some rule
  pub values : AreValues program.signature.cons rule.kinds step.offer.values
  pub as_many : length step.proofs ≡ length rule.backs
  pub low : AllByRecursion (λ proof. proof_height proof ≤ MOST_HEIGHT) step.proofs
  pub stage : IsSome step.stage ↔ IsSome rule.next
  pub in_range : IfSome step.stage (λ stage. stage < length program.stages)
  pub listing : IfSome step.mid (λ mid. IsListing program.signature mid.state)

-- Of the steps, which are numbered from here on, exactly those have a listing after which the version has one.
abbrev pub HaveListings : Version → ℕ → List LogStep → Type 0
HaveListings version number [] = Unit {0}
HaveListings version number (step ∷ steps) = (is_some step.mid ≡ has_listing version number) × HaveListings version (number + 1) steps

-- A log is of a program: its numbers are in range, its listings are listings, and stand where its version has them, and its steps are of the program.
pub record IsLogOf (program : Parts) (log : Log) : Type 0 where
  pub height : IsHeight log.height
  pub stage : log.stage < length program.stages
  pub start : IsListing program.signature log.start
  pub steps : AllByRecursion (IsStepOf program) log.steps
  pub listed : HaveListings log.version 1 log.steps
  pub ending : IfSome log.end (λ end. IsListing program.signature end.state)
  pub lines : log.lines ≤ MOST_LOG
  pub few : length log.steps ≤ log.lines

-- A step is legal from one spot to another: it is a step of the machine within the height, the stage that is written below it is the one that its rule names, and a listing after it is that of the state where it leads.
pub record IsLegalStep (program : Parts) (height : ℕ) (old new : Spot) (step : LogStep) : Type 0 where
  pub rule : Rule
  pub machine : IsMachineStep program height old new step.offer rule step.proofs
  pub stage : step.stage ≡ rule.next
  pub mid : IfSome step.mid (λ mid. mid.state ≡ finite.entries new.state)

-- Each step is legal from where the one before it leads, and the last one leads to the last spot.
abbrev pub AreLegalSteps : Parts → ℕ → List LogStep → Spot → Spot → Type 0
AreLegalSteps program height [] old last = last ≡ old
AreLegalSteps program height (step ∷ steps) old last =
    (new : Spot) × IsLegalStep program height old new step × AreLegalSteps program height steps new last

-- An end is legal at a spot: `quiet` is said only where the spot is quiet, and the listing is that of the spot's state.
pub record IsLegalEnd (program : Parts) (height : ℕ) (last : Spot) (end : LogEnd) : Type 0 where
  pub quiet : end.word ≡ Quiet → IsQuiet program height last.state last.stage
  pub state : end.state ≡ finite.entries last.state

-- A log is legal: it is of the program, it begins with the program's start stage and start state, its steps are legal one after another, and it has a legal end where they lead.
pub record IsLegal (program : Parts) (log : Log) : Type 0 where
  pub of_program : IsLogOf program log
  pub stage : log.stage ≡ program.start_stage
  pub start : log.start ≡ finite.entries program.start
  pub last : Spot
  pub steps : AreLegalSteps program log.height log.steps (start_spot program) last
  pub ending : IsSomeAnd log.end (IsLegalEnd program log.height last)
