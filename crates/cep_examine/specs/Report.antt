-- What is reported: what is written at once, with nothing read, and the status that goes with it.
use Rattle.std.specs.Prelude.{ℕ, List}
use Rattle.cep_lines.specs.declared.end_word.EndWord.{EndWord}
use Rattle.cep_lines.specs.declared.end_word.EndWord.TheVariants.{Quiet, Input, Turns, Offers, Typed, Atom, State}
use Rattle.cep_lines.specs.Lines.{line}
use Rattle.cep_examine.specs.declared.report.Status.{Status}
use Rattle.cep_examine.specs.declared.report.Status.TheVariants as status
use Rattle.cep_examine.specs.declared.report.Lines.{Lines}
use Rattle.cep_examine.specs.declared.report.Lines.TheVariants as lines

-- a report: what is written, with nothing read, and the status
pub record Report : Type 0 where
  pub written : List ℕ
  pub code : ℕ

-- the report of one line
abbrev pub line_report : List ℕ → ℕ → Report
line_report text code = record { written = line text; code = code }

-- the number of a status
abbrev pub code_of : Status → ℕ
code_of status.Done = 0
code_of status.Rejected = 1
code_of status.Malformed = 2
code_of status.Refused = 3
code_of status.Limited = 4
code_of status.Broken = 5
code_of status.Unfit = 5
code_of status.Unread = 7

-- the status that tells how a run ended
abbrev pub code_told : EndWord → ℕ
code_told Quiet = 0
code_told Input = 0
code_told Turns = 4
code_told Offers = 4
code_told Typed = 4
code_told Atom = 4
code_told State = 4

-- the bytes of what is written
abbrev pub bytes_of : Lines → List ℕ
bytes_of (lines.Fixed line) = line.now
bytes_of (lines.Text bytes) = bytes
