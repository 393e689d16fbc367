-- One line is read from a console, and what it says of a choice.
use Rattle.std.specs.Prelude.{◌≡◌, ◌⊎◌, ℕ, ◌+◌, ◌<◌, ◌≤◌, List, [], ◌∷◌, ◌++◌, length, decimal}
use Rattle.cep_base.specs.Spelling.{IsUnbroken}
use Rattle.cep_base.specs.declared.console.Event.{Event}
use Rattle.cep_base.specs.declared.console.Event.TheVariants.{End}
use Rattle.cep_base.specs.Talk.{ins}
use Rattle.cep_choice.specs.declared.reading.Said.{Said}
use Rattle.cep_choice.specs.declared.reading.Said.TheVariants as said

-- The line chooses this place among n: it spells the number in decimal without leading zeros. One CR at its end is dropped.
abbrev pub Chooses : ℕ → List ℕ → ℕ → Type 0
Chooses n line place = (0 < place) × (place ≤ n) × ((line ≡ decimal place) ⊎ (line ≡ decimal place ++ 13 ∷ []))

-- the line chooses no place among n
abbrev pub ChoosesNone : ℕ → List ℕ → Type 0
ChoosesNone n line = (place : ℕ) → Chooses n line place → ⊥

-- how the reading of one line ended: at its LF, at the end of the input after some bytes or after none, or where no more may be taken
pub data Cut : Type 0 where
  Ended : (line : List ℕ) → Cut
  Last : (line : List ℕ) → Cut
  Nothing : Cut
  Full : (bytes : List ℕ) → Cut

-- One line is read from the bytes to come, where room bytes may be taken: its events, how it ended, the bytes that are left, and how many were taken.
abbrev pub ReadsLine : ℕ → List ℕ → List Event → Cut → List ℕ → ℕ → Type 0
ReadsLine room come events (Ended line) rest taken =
    (come ≡ line ++ 10 ∷ rest) × IsUnbroken line × (length line < room) × (events ≡ ins (line ++ 10 ∷ [])) × (taken ≡ length line + 1)
ReadsLine room come events (Last line) rest taken =
    (come ≡ line) × (rest ≡ []) × (0 < length line) × IsUnbroken line × (length line < room) × (events ≡ ins line ++ End ∷ []) × (taken ≡ length line)
ReadsLine room come events Nothing rest taken =
    (come ≡ []) × (rest ≡ []) × (0 < room) × (events ≡ End ∷ []) × (taken ≡ 0)
ReadsLine room come events (Full bytes) rest taken =
    (come ≡ bytes ++ rest) × IsUnbroken bytes × (length bytes ≡ room) × (events ≡ ins bytes) × (taken ≡ room)

-- the reading gave this whole line
abbrev pub IsLine : Cut → List ℕ → Type 0
IsLine cut line = (cut ≡ Ended line) ⊎ (cut ≡ Last line)

-- what one reading says of a choice among n
abbrev pub IsHeardAs : ℕ → Cut → Said → Type 0
IsHeardAs n cut (said.Number place) = (line : List ℕ) × IsLine cut line × Chooses n line place
IsHeardAs n cut said.Bad = (line : List ℕ) × IsLine cut line × ChoosesNone n line
IsHeardAs n cut said.End = cut ≡ Nothing
IsHeardAs n cut said.Limit = (bytes : List ℕ) × (cut ≡ Full bytes)

-- What is said fits the bytes that were taken, of the room: a line has some, there are none at the end, where some might be, and no more may be taken where all of the room was.
abbrev pub IsTakenFor : ℕ → Said → ℕ → Type 0
IsTakenFor room (said.Number place) taken = (0 < taken) × (taken ≤ room)
IsTakenFor room said.Bad taken = (0 < taken) × (taken ≤ room)
IsTakenFor room said.End taken = (taken ≡ 0) × (0 < room)
IsTakenFor room said.Limit taken = taken ≡ room

-- a place that is said is one of n
abbrev pub IsPlaceWithin : ℕ → Said → Type 0
IsPlaceWithin n (said.Number place) = (0 < place) × (place ≤ n)
IsPlaceWithin n said.Bad = Unit {0}
IsPlaceWithin n said.End = Unit {0}
IsPlaceWithin n said.Limit = Unit {0}

-- The reading of a line was cut short: some bytes were taken, fewer than might be, and no LF among them.
pub record IsCutShort (room : ℕ) (come : List ℕ) (events : List Event) (rest : List ℕ) : Type 0 where
  pub bytes : List ℕ
  pub first : come ≡ bytes ++ rest
  pub unbroken : IsUnbroken bytes
  pub short : length bytes < room
  pub said : events ≡ ins bytes
