-- Which bytes are a transcript, of which log, and which line of other bytes is the first that does not fit.
use Rattle.std.specs.Prelude.{◌≡◌, ◌≢◌, ◌⊎◌, ℕ, ◌+◌, ◌≤◌, ◌<◌, Bool, List, [], ◌∷◌, ◌++◌, length, codes, decimal, Option, Some, None, slice_get, nat_le, ◌&&◌, ◌||◌, is_none, is_some, if◌then◌else◌, Contains, IfSome, ◌-◌}
use Rattle.std.specs.List.{AllByRecursion}
use Rattle.std.specs.declared.cmp.Ordering.TheVariants.{Less}
use Rattle.cep_base.specs.Spelling.{IsUnbroken}
use Rattle.cep_base.specs.declared.limits.TheConstants.{MOST_COPIES, MOST_HEIGHT}
use Rattle.cep_term.specs.Tree.{AtomTree}
use Rattle.cep_term.specs.Order.{atom_cmp}
use Rattle.cep_rule.specs.declared.rule.Rule.{Rule}
use Rattle.cep_rule.specs.declared.parts.Parts.{Parts}
use Rattle.cep_rule.specs.declared.offer.Offer.{Offer}
use Rattle.cep_rule.specs.Limits.{IsHeight}
use Rattle.cep_rule.specs.Derivations.{ProofTree, proof_height}
use Rattle.cep_rule.specs.Shapes.{IsProofOf, HasSmallValues}
use Rattle.cep_text.specs.Reads.{IsAtomText, IsOfferText, IsProofText}
use Rattle.cep_lines.specs.Lines.{version_text, height_text, stage_text, state_text, end_text, has_listing}
use Rattle.cep_lines.specs.declared.version.Version.{Version}
use Rattle.cep_lines.specs.declared.end_word.EndWord.{EndWord}
use Rattle.cep_log.specs.declared.log.Log.{Log}
use Rattle.cep_log.specs.declared.log.LogStep.{LogStep}
use Rattle.cep_log.specs.declared.log.LogMid.{LogMid}
use Rattle.cep_log.specs.declared.log.LogEnd.{LogEnd}
use Rattle.cep_base.specs.declared.limits.TheConstants.{MOST_LOG}
use Rattle.cep_log.specs.declared.so_far.SoFar.{SoFar}
use Rattle.cep_log.specs.declared.so_far.SoFar.TheVariants.{Nothing, Begun, Height, Whole, Within, Unlisted, Listed, Ended}
use Rattle.cep_log.specs.declared.fault.LogFault.{LogFault}
use Rattle.cep_log.specs.declared.fault.LogFault.TheVariants.{Line, NoRule}

-- What stands before an LF, as a line: all of it, but for a CR at its end.
abbrev pub IsBefore : List ℕ → List ℕ → Type 0
IsBefore line text = (text ≡ line ++ 13 ∷ []) ⊎ ((text ≡ line) × ((front : List ℕ) → text ≢ front ++ 13 ∷ []))

-- The bytes are these lines: each ends with an LF, and the last one may lack it if it is not empty.
abbrev pub AreLines : List ℕ → List (List ℕ) → Type 0
AreLines bytes [] = bytes ≡ []
AreLines bytes (line ∷ lines) =
    ((text : List ℕ) × (rest : List ℕ) × (bytes ≡ text ++ 10 ∷ rest) × IsUnbroken text × IsBefore line text × AreLines rest lines)
    ⊎ ((bytes ≡ line) × (line ≢ []) × IsUnbroken line × (lines ≡ []))

-- The bytes can be written as one line: there is no LF and no CR among them.
abbrev pub IsOneLine : List ℕ → Type 0
IsOneLine bytes = AllByRecursion (λ byte. (byte ≢ 10) × (byte ≢ 13)) bytes

-- a line that is passed over: it begins with `?`
abbrev pub IsPassedOver : List ℕ → Type 0
IsPassedOver [] = ⊥
IsPassedOver (byte ∷ bytes) = byte ≡ 63

-- the line of a stage, where there is one
abbrev pub stage_texts : Parts → Option ℕ → List (List ℕ)
stage_texts program None = []
stage_texts program (Some stage) = stage_text program stage ∷ []

-- A derivation can be read back: it has the program's shape, small values, and not too many levels.
pub record IsReadable (program : Parts) (proof : ProofTree) : Type 0 where
  pub of_clauses : IsProofOf program proof
  pub small : HasSmallValues proof
  pub low : proof_height proof ≤ MOST_HEIGHT

-- `have N ATOM`, N from 1 to 100,000
pub record IsHaveLine (program : Parts) (line : List ℕ) (entry : AtomTree × ℕ) : Type 0 where
  pub some : 1 ≤ entry.1
  pub few : entry.1 ≤ MOST_COPIES
  pub text : List ℕ
  pub atom : IsAtomText program text entry.0
  pub written : line ≡ codes "have " ++ (decimal entry.1 ++ (codes " " ++ text))

-- `stage NAME`, of a stage of the program
pub record IsStageLine (program : Parts) (line : List ℕ) (stage : ℕ) : Type 0 where
  pub in_range : stage < length program.stages
  pub written : line ≡ stage_text program stage

-- `step OFFER`
pub record IsStepLine (program : Parts) (line : List ℕ) (offer : Offer) : Type 0 where
  pub text : List ℕ
  pub offer_is : IsOfferText program text offer
  pub written : line ≡ codes "step " ++ text

-- `by DERIVATION`
pub record IsByLine (program : Parts) (line : List ℕ) (proof : ProofTree) : Type 0 where
  pub text : List ℕ
  pub proof_is : IsProofText program text proof
  pub written : line ≡ codes "by " ++ text

-- `end WORD`
abbrev pub IsEndLine : List ℕ → EndWord → Type 0
IsEndLine line word = line ≡ end_text word

-- The atom stands after the last atom of the listing.
abbrev pub IsBehind : List (AtomTree × ℕ) → AtomTree → Type 0
IsBehind entries atom = IfSome (slice_get entries (length entries - 1)) (λ last. atom_cmp last.0 atom ≡ Less)

-- The line goes on with a listing.
pub record GoesOnListing (program : Parts) (line : List ℕ) (old new : List (AtomTree × ℕ)) : Type 0 where
  pub entry : AtomTree × ℕ
  pub said : IsHaveLine program line entry
  pub behind : IsBehind old entry.0
  pub added : new ≡ old ++ entry ∷ []

-- a log with its header alone
abbrev pub log_begun : Version → ℕ → ℕ → ℕ → Log
log_begun version height number stage = record { version = version; height = height; stage_line = number; stage = stage; start = []; steps = []; end = None; lines = 0 }

-- a step with its first line alone
abbrev pub step_begun : ℕ → Offer → LogStep
step_begun number offer = record { line = number; offer = offer; proofs = []; stage = None; mid = None }

-- the listing of the state after a step, with its first line alone
abbrev pub mid_begun : ℕ → LogMid
mid_begun number = record { line = number; state = [] }

-- the number of the step that stands after all of the log
abbrev pub next_number : Log → ℕ
next_number log = length log.steps + 1

-- the log with one whole step more
abbrev pub log_with : Log → LogStep → Log
log_with log step = record log { steps = log.steps ++ step ∷ [] }

-- the log with one whole step more, which has a listing
abbrev pub log_listed : Log → LogStep → LogMid → Log
log_listed log step mid = log_with log (record step { mid = Some mid })

-- whether a step has all its own lines but for a listing: one derivation for each backward premise of its rule, and the stage where the rule names one
abbrev pub has_own_lines : Rule → LogStep → Bool
has_own_lines rule step = nat_le (length rule.backs) (length step.proofs) && (is_none rule.next || is_some step.stage)

-- the log with the step, which is whole or lacks its listing
abbrev pub with_own : Log → LogStep → SoFar
with_own log step = if has_listing log.version (next_number log) then Unlisted log step else Whole (log_with log step)

-- the log with the step, which may lack further own lines
abbrev pub with_step : Rule → Log → LogStep → SoFar
with_step rule log step = if has_own_lines rule step then with_own log step else Within log step

-- The line begins a step.
pub record BeginsStep (program : Parts) (number : ℕ) (line : List ℕ) (log : Log) (new : SoFar) : Type 0 where
  pub offer : Offer
  pub rule : Rule
  pub said : IsStepLine program line offer
  pub numbered : slice_get program.rules offer.rule ≡ Some rule
  pub step : new ≡ with_step rule log (step_begun number offer)

-- an end with its first line alone
abbrev pub end_begun : ℕ → EndWord → LogEnd
end_begun number word = record { line = number; word = word; state = [] }

-- The line begins the end.
pub record BeginsEnd (number : ℕ) (line : List ℕ) (log : Log) (new : SoFar) : Type 0 where
  pub word : EndWord
  pub said : IsEndLine line word
  pub ended : new ≡ Ended log (end_begun number word)

-- The line goes on with the start listing, which stands before all steps.
pub record GoesOnStart (program : Parts) (line : List ℕ) (log : Log) (new : SoFar) : Type 0 where
  pub first : log.steps ≡ []
  pub start : List (AtomTree × ℕ)
  pub listed : GoesOnListing program line log.start start
  pub whole : new ≡ Whole (record log { start = start })

-- The line goes on with the listing of the state after a step.
pub record GoesOnMid (program : Parts) (line : List ℕ) (log : Log) (step : LogStep) (mid : LogMid) (new : SoFar) : Type 0 where
  pub state : List (AtomTree × ℕ)
  pub listed : GoesOnListing program line mid.state state
  pub more : new ≡ Listed log step (record mid { state = state })

-- The line is the next own line of a step: a derivation while a backward premise has none, and then the stage.
pub record GoesOnStep (program : Parts) (line : List ℕ) (log : Log) (step : LogStep) (new : SoFar) : Type 0 where
  pub rule : Rule
  pub numbered : slice_get program.rules step.offer.rule ≡ Some rule
  pub own : ((proof : ProofTree) × (length step.proofs < length rule.backs) × IsByLine program line proof × (new ≡ with_step rule log (record step { proofs = step.proofs ++ proof ∷ [] })))
      ⊎ ((stage : ℕ) × (length rule.backs ≤ length step.proofs) × IsStageLine program line stage × (new ≡ with_step rule log (record step { stage = Some stage })))

-- The line goes on with the last listing.
pub record GoesOnEnd (program : Parts) (line : List ℕ) (log : Log) (end : LogEnd) (new : SoFar) : Type 0 where
  pub state : List (AtomTree × ℕ)
  pub listed : GoesOnListing program line end.state state
  pub ended : new ≡ Ended log (record end { state = state })

-- The line begins what stands after the log: a step, or the end.
abbrev pub BeginsNext : Parts → ℕ → List ℕ → Log → SoFar → Type 0
BeginsNext program number line log new = BeginsStep program number line log new ⊎ BeginsEnd number line log new

-- With the line of this number, which is not passed over, what was read becomes the new.
abbrev pub Becomes : Parts → ℕ → List ℕ → SoFar → SoFar → Type 0
Becomes program number line Nothing new = (version : Version) × (line ≡ version_text version) × (new ≡ Begun version)
Becomes program number line (Begun version) new = (height : ℕ) × IsHeight height × (line ≡ height_text height) × (new ≡ Height version height)
Becomes program number line (Height version height) new = (stage : ℕ) × IsStageLine program line stage × (new ≡ Whole (log_begun version height number stage))
Becomes program number line (Whole log) new = GoesOnStart program line log new ⊎ BeginsNext program number line log new
Becomes program number line (Within log step) new = GoesOnStep program line log step new
Becomes program number line (Unlisted log step) new = (line ≡ state_text (next_number log)) × (new ≡ Listed log step (mid_begun number))
Becomes program number line (Listed log step mid) new = GoesOnMid program line log step mid new ⊎ BeginsNext program number line (log_listed log step mid) new
Becomes program number line (Ended log end) new = GoesOnEnd program line log end new

-- The same for every line: one that is passed over leaves all as it is.
abbrev pub MovesOn : Parts → ℕ → List ℕ → SoFar → SoFar → Type 0
MovesOn program number line old new = (IsPassedOver line × (new ≡ old)) ⊎ ((¬ IsPassedOver line) × Becomes program number line old new)

-- With all these lines, which are numbered from here on, what was read becomes the new.
abbrev pub Leads : Parts → ℕ → List (List ℕ) → SoFar → SoFar → Type 0
Leads program number [] old new = new ≡ old
Leads program number (line ∷ lines) old new = (next : SoFar) × MovesOn program number line old next × Leads program (number + 1) lines next new

-- what a transcript of so many lines says, where it may end
abbrev pub said_by : SoFar → ℕ → Option Log
said_by Nothing lines = None
said_by (Begun version) lines = None
said_by (Height version height) lines = None
said_by (Whole log) lines = Some (record log { lines = lines })
said_by (Within log step) lines = None
said_by (Unlisted log step) lines = None
said_by (Listed log step mid) lines = Some (record (log_listed log step mid) { lines = lines })
said_by (Ended log end) lines = Some (record log { end = Some end; lines = lines })

-- The bytes are a transcript, and this log is what it says.
pub record HasLog (program : Parts) (bytes : List ℕ) (log : Log) : Type 0 where
  pub short : length bytes ≤ MOST_LOG
  pub lines : List (List ℕ)
  pub cut : AreLines bytes lines
  pub last : SoFar
  pub leads : Leads program 1 lines Nothing last
  pub said : said_by last (length lines) ≡ Some log

-- The line begins like a step, and what stands there up to a space or to its end is the name of no rule.
pub record NamesNoRule (program : Parts) (line : List ℕ) : Type 0 where
  pub name : List ℕ
  pub rest : List ℕ
  pub begins : line ≡ codes "step " ++ (name ++ rest)
  pub cut : (rest ≡ []) ⊎ ((behind : List ℕ) × (rest ≡ 32 ∷ behind))
  pub unspaced : AllByRecursion (λ byte. byte ≢ 32) name
  pub unknown : (rule : Rule) → Contains program.rules rule → rule.name ≢ name

-- A step may stand next.
abbrev pub MayStep : SoFar → Type 0
MayStep Nothing = ⊥
MayStep (Begun version) = ⊥
MayStep (Height version height) = ⊥
MayStep (Whole log) = Unit {0}
MayStep (Within log step) = ⊥
MayStep (Unlisted log step) = ⊥
MayStep (Listed log step mid) = Unit {0}
MayStep (Ended log end) = ⊥

-- Why the line of this number does not fit.
abbrev pub IsFaultOf : Parts → ℕ → List ℕ → SoFar → LogFault → Type 0
IsFaultOf program number line so_far (NoRule at) = (at ≡ number) × MayStep so_far × NamesNoRule program line
IsFaultOf program number line so_far (Line at) = (at ≡ number) × (¬ (MayStep so_far × NamesNoRule program line))

-- The first line that does not fit: those before it lead somewhere, and it leads nowhere from there.
pub record IsFirstMisfit (program : Parts) (lines : List (List ℕ)) (fault : LogFault) : Type 0 where
  pub before : List (List ℕ)
  pub line : List ℕ
  pub behind : List (List ℕ)
  pub cut : lines ≡ before ++ line ∷ behind
  pub so_far : SoFar
  pub leads : Leads program 1 before Nothing so_far
  pub nowhere : (new : SoFar) → ¬ MovesOn program (length before + 1) line so_far new
  pub fault_is : IsFaultOf program (length before + 1) line so_far fault

-- The lines stop too early: they lead to where no transcript ends, and the fault is told at the line after them.
pub record StopsEarly (program : Parts) (lines : List (List ℕ)) (fault : LogFault) : Type 0 where
  pub last : SoFar
  pub leads : Leads program 1 lines Nothing last
  pub open_still : said_by last (length lines) ≡ None
  pub fault_is : fault ≡ Line (length lines + 1)

-- The bytes, no more than 67,108,864, are no transcript, and this is the first misfit.
pub record HasMisfit (program : Parts) (bytes : List ℕ) (fault : LogFault) : Type 0 where
  pub short : length bytes ≤ MOST_LOG
  pub lines : List (List ℕ)
  pub cut : AreLines bytes lines
  pub why : IsFirstMisfit program lines fault ⊎ StopsEarly program lines fault
