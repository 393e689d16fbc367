-- What is typed for one choice: a line is read, and while it chooses nothing, a further one.
use Rattle.std.specs.Prelude.{◌≡◌, ℕ, ◌+◌, ◌-◌, ◌<◌, ◌≤◌, List, ◌++◌, codes}
use Rattle.cep_base.specs.declared.console.Event.{Event}
use Rattle.cep_base.specs.Talk.{outs}
use Rattle.cep_base.specs.declared.limits.TheConstants.{MOST_TYPED}
use Rattle.cep_choice.specs.TypedLine.{Chooses, ChoosesNone, Cut, Nothing, Full, ReadsLine, IsLine}
use Rattle.cep_lines.specs.Lines.{line}
use Rattle.cep_run.specs.declared.choice.Choice.{Choice}
use Rattle.cep_run.specs.declared.choice.Choice.TheVariants as choice

-- a place that is chosen is one of n
abbrev pub IsChoiceWithin : ℕ → Choice → Type 0
IsChoiceWithin n (choice.Place place) = (0 < place) × (place ≤ n)
IsChoiceWithin n choice.NoMore = Unit {0}
IsChoiceWithin n choice.NoRoom = Unit {0}

-- how many of the bytes of a run may still be taken
abbrev pub room_after : ℕ → ℕ
room_after taken = MOST_TYPED - taken

-- what is written after a line that chooses nothing
unfoldable pub no_line : List ℕ
no_line = line (codes "? no")

-- The events of one choice among n, from the bytes to come and the number taken so far, to what
-- came of it, the bytes that are left and the number taken then.
pub data Hears (n : ℕ) : List ℕ → ℕ → List Event → Choice → List ℕ → ℕ → Type 0 where
  -- the line chooses a place
  chosen : {come rest : List ℕ} {taken taken' : ℕ} {events : List Event} {place : ℕ} (cut : Cut)
      (line : List ℕ) (more : ℕ)
      → ReadsLine (room_after taken) come events cut rest more → IsLine cut line
      → Chooses n line place → taken' ≡ taken + more
      → Hears n come taken events (choice.Place place) rest taken'
  -- the line chooses nothing, and a further one is read
  again : {come rest : List ℕ} {taken taken' : ℕ} {events : List Event} {result : Choice}
      (cut : Cut) (line : List ℕ) (between : List ℕ) (more : ℕ) (first others : List Event)
      → ReadsLine (room_after taken) come first cut between more → IsLine cut line
      → ChoosesNone n line
      → Hears n between (taken + more) others result rest taken'
      → events ≡ first ++ (outs no_line ++ others)
      → Hears n come taken events result rest taken'
  -- nothing more comes
  no_more : {come rest : List ℕ} {taken taken' : ℕ} {events : List Event} (more : ℕ)
      → ReadsLine (room_after taken) come events Nothing rest more → taken' ≡ taken + more
      → Hears n come taken events choice.NoMore rest taken'
  -- no more may be taken
  no_room : {come rest : List ℕ} {taken taken' : ℕ} {events : List Event} (bytes : List ℕ)
      (more : ℕ)
      → ReadsLine (room_after taken) come events (Full bytes) rest more → taken' ≡ taken + more
      → Hears n come taken events choice.NoRoom rest taken'
