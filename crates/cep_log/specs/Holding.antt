-- What is written of deeds as a transcript, and what its log holds of them. Nothing is said of the numbers of its lines.
use Rattle.std.specs.Prelude.{◌≡◌, ℕ, List, [], ◌∷◌, ◌++◌, IfSome, IsSomeAnd}
use Rattle.std.specs.List.{AllByRecursion, AllZip, flat_map}
use Rattle.std.specs.FinMap as finite
use Rattle.cep_term.specs.Multiset.{Multiset}
use Rattle.cep_rule.specs.declared.parts.Parts.{Parts}
use Rattle.cep_step.specs.Deeds.{Deed}
use Rattle.cep_lines.specs.Lines.{line, deed_lines, end_lines, header}
use Rattle.cep_lines.specs.declared.end_word.EndWord.{EndWord}
use Rattle.cep_log.specs.declared.log.Log.{Log}
use Rattle.cep_log.specs.declared.log.LogStep.{LogStep}
use Rattle.cep_log.specs.declared.log.LogEnd.{LogEnd}
use Rattle.cep_log.specs.Legal.{HaveListings}
use Rattle.cep_log.specs.Written.{IsRemark}

-- The bytes are remarks: lines that are passed over, each with its LF.
pub record AreRemarks (bytes : List ℕ) : Type 0 where
  pub lines : List (List ℕ)
  pub passed : AllByRecursion IsRemark lines
  pub written : bytes ≡ flat_map line lines

-- what is written of a deed
abbrev pub lines_of_deed : Parts → Deed → List ℕ
lines_of_deed program deed =
    deed_lines program deed.offer deed.proofs deed.rule.next deed.after.turns deed.after.spot.state

-- The bytes tell deeds: the lines of one after another, with remarks or none before each.
abbrev pub TellDeeds : Parts → List Deed → List ℕ → Type 0
TellDeeds program [] bytes = bytes ≡ []
TellDeeds program (deed ∷ deeds) bytes =
    (remarks : List ℕ) × (later : List ℕ) × AreRemarks remarks × TellDeeds program deeds later
    × (bytes ≡ remarks ++ (lines_of_deed program deed ++ later))

-- The bytes tell a run: the header, its deeds, and how it ended, with remarks or none before that.
pub record TellRun (program : Parts) (height : ℕ) (deeds : List Deed) (word : EndWord) (state : Multiset) (bytes : List ℕ) : Type 0 where
  pub told : List ℕ
  pub remarks : List ℕ
  pub tell : TellDeeds program deeds told
  pub passed : AreRemarks remarks
  pub whole : bytes ≡ header program height ++ (told ++ (remarks ++ end_lines program.signature word state))

-- A step of a log holds a deed: its offer, its derivations, the stage that its rule names, and, where it has a listing, the state after it.
pub record HoldsDeed (deed : Deed) (step : LogStep) : Type 0 where
  pub offer : step.offer ≡ deed.offer
  pub proofs : step.proofs ≡ deed.proofs
  pub stage : step.stage ≡ deed.rule.next
  pub mid : IfSome step.mid (λ mid. mid.state ≡ finite.entries deed.after.spot.state)

-- The end of a log holds how a run ended: the word, and the last state.
pub record HoldsEnd (word : EndWord) (state : Multiset) (end : LogEnd) : Type 0 where
  pub word_is : end.word ≡ word
  pub state_is : end.state ≡ finite.entries state

-- A log holds what was done from where the program begins: the height, the start, one step for each
-- deed, in order, with listings where its version has them, and how it ended.
pub record HoldsDeeds (program : Parts) (height : ℕ) (deeds : List Deed) (word : EndWord) (state : Multiset) (log : Log) : Type 0 where
  pub height_is : log.height ≡ height
  pub stage : log.stage ≡ program.start_stage
  pub start : log.start ≡ finite.entries program.start
  pub steps : AllZip HoldsDeed deeds log.steps
  pub listed : HaveListings log.version 1 log.steps
  pub ended : IsSomeAnd log.end (HoldsEnd word state)
