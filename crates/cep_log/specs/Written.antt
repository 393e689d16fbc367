-- What is written of a log, line by line, and which logs tell the same run.
use Rattle.std.specs.Prelude.{◌≡◌, ℕ, ◌+◌, List, [], ◌∷◌, ◌++◌, map, Option, None, Some}
use Rattle.std.specs.List.{AllByRecursion, AllZip, flat_map}
use Rattle.cep_rule.specs.declared.parts.Parts.{Parts}
use Rattle.cep_lines.specs.Lines.{line, version_text, height_text, stage_text, have_text, step_text, by_text, state_text, end_text}
use Rattle.cep_lines.specs.declared.version.Version.TheVariants.{Two}
use Rattle.cep_log.specs.declared.log.Log.{Log}
use Rattle.cep_log.specs.declared.log.LogStep.{LogStep}
use Rattle.cep_log.specs.declared.log.LogMid.{LogMid}
use Rattle.cep_log.specs.declared.log.LogEnd.{LogEnd}
use Rattle.cep_log.specs.Legal.{IsLegal}
use Rattle.cep_log.specs.Transcript.{IsOneLine, IsPassedOver, stage_texts}

-- the lines of the header and of the start listing
abbrev pub start_texts : Parts → Log → List (List ℕ)
start_texts program log =
    version_text log.version ∷ (height_text log.height ∷ (stage_text program log.stage ∷ map (have_text program.signature) log.start))

-- the lines of the listing after the step of a number, where it has one
abbrev pub mid_texts : Parts → ℕ → Option LogMid → List (List ℕ)
mid_texts program number None = []
mid_texts program number (Some mid) = state_text number ∷ map (have_text program.signature) mid.state

-- the lines of the step of a number, its listing included
abbrev pub step_texts : Parts → ℕ → LogStep → List (List ℕ)
step_texts program number step =
    step_text program step.offer ∷ (map (by_text program) step.proofs ++ (stage_texts program step.stage ++ mid_texts program number step.mid))

-- the lines of steps, which are numbered from here on
abbrev pub steps_texts : Parts → ℕ → List LogStep → List (List ℕ)
steps_texts program number [] = []
steps_texts program number (step ∷ steps) = step_texts program number step ++ steps_texts program (number + 1) steps

-- the lines of the end, where there is one
abbrev pub end_texts : Parts → Option LogEnd → List (List ℕ)
end_texts program None = []
end_texts program (Some end) = end_text end.word ∷ map (have_text program.signature) end.state

-- the text of a log: its lines, each with an LF after it, and none that is passed over
abbrev pub text_of : Parts → Log → List ℕ
text_of program log = flat_map line (start_texts program log ++ (steps_texts program 1 log.steps ++ end_texts program log.end))

-- A remark: a line that is passed over.
pub record IsRemark (line : List ℕ) : Type 0 where
  pub passed : IsPassedOver line
  pub one : IsOneLine line

-- The lines are those of steps, which are numbered from here on, with remarks or none before each step.
abbrev pub TellSteps : Parts → ℕ → List LogStep → List (List ℕ) → Type 0
TellSteps program number [] lines = lines ≡ []
TellSteps program number (step ∷ steps) lines =
    (remarks : List (List ℕ)) × (later : List (List ℕ)) × AllByRecursion IsRemark remarks × TellSteps program (number + 1) steps later × (lines ≡ remarks ++ (step_texts program number step ++ later))

-- The lines tell a log: those of its header, its start listing, its steps and its end, with remarks or none before each step and before the end.
pub record TellLog (program : Parts) (lines : List (List ℕ)) (log : Log) : Type 0 where
  pub steps : List (List ℕ)
  pub remarks : List (List ℕ)
  pub tell : TellSteps program 1 log.steps steps
  pub passed : AllByRecursion IsRemark remarks
  pub whole : lines ≡ start_texts program log ++ (steps ++ (remarks ++ end_texts program log.end))

-- Two steps do the same: by the same offer, with the same derivations, into the same stage.
pub record DoTheSame (one other : LogStep) : Type 0 where
  pub offer : one.offer ≡ other.offer
  pub proofs : one.proofs ≡ other.proofs
  pub stage : one.stage ≡ other.stage

-- Both have no listing, or the same.
abbrev pub ListTheSame : Option LogMid → Option LogMid → Type 0
ListTheSame None None = Unit {0}
ListTheSame None (Some other) = ⊥
ListTheSame (Some one) None = ⊥
ListTheSame (Some one) (Some other) = one.state ≡ other.state

-- Two steps say the same: they do the same, and the same is listed after them.
pub record SayTheSame (one other : LogStep) : Type 0 where
  pub does : DoTheSame one other
  pub lists : ListTheSame one.mid other.mid

-- Both have no end, or the same.
abbrev pub EndTheSame : Option LogEnd → Option LogEnd → Type 0
EndTheSame None None = Unit {0}
EndTheSame None (Some other) = ⊥
EndTheSame (Some one) None = ⊥
EndTheSame (Some one) (Some other) = (one.word ≡ other.word) × (one.state ≡ other.state)

-- Two logs tell the same, of each step as much as is said, whatever their versions and the numbers of their lines.
pub record TellTheSame (step_by_step : LogStep → LogStep → Type 0) (one other : Log) : Type 0 where
  pub height : one.height ≡ other.height
  pub stage : one.stage ≡ other.stage
  pub start : one.start ≡ other.start
  pub steps : AllZip step_by_step one.steps other.steps
  pub ends : EndTheSame one.end other.end

-- A log is another one renewed: it is a legal log of version 2 in which the same was done.
pub record IsRenewal (program : Parts) (old new : Log) : Type 0 where
  pub version : new.version ≡ Two
  pub does : TellTheSame DoTheSame old new
  pub legal : IsLegal program new
