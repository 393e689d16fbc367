-- What passes between the command and the outside in a call, as far as console and shelf tell it.
use Rattle.std.specs.Prelude.{◌≡◌, ◌⊎◌, ℕ, List, [], ◌∷◌, ◌++◌, take, Option, Some, Result, Ok, Err}
use Rattle.std.specs.Option.{option_map}
use Rattle.cep_base.specs.declared.console.Event.{Event}
use Rattle.cep_base.specs.Files.{Files}
use Rattle.cep_base.specs.Faults.{Rose}
use Rattle.cep_base.specs.Talk.{outs, GoesOn}

-- What a console tells of a call: all that was said and heard before it and after it, and the bytes to come before it and after it.
pub record Talked : Type 0 where
  pub said_before : Option (List Event)
  pub said_after : Option (List Event)
  pub left_before : Option (List ℕ)
  pub left_after : Option (List ℕ)

-- What a shelf tells of a call: its files, the names that were asked before it and after it, and its count of faults before and after.
pub record Loaded : Type 0 where
  pub files : Option Files
  pub asked_before : Option (List (List ℕ))
  pub asked_after : Option (List (List ℕ))
  pub faults_before : ℕ
  pub faults_after : ℕ

-- what a console tells of a call that led from one value of it to another
abbrev pub talked : {C : Type 0} → (C → Option (List Event)) → (C → Option (List ℕ)) → C → C → Talked
talked talk left old new = record { said_before = talk old; said_after = talk new; left_before = left old; left_after = left new }

-- what a shelf tells of such a call
abbrev pub loaded : {H : Type 0} → (H → Option Files) → (H → Option (List (List ℕ))) → (H → ℕ) → H → H → Loaded
loaded files asked faults old new = record {
  files = files old;
  asked_before = asked old;
  asked_after = asked new;
  faults_before = faults old;
  faults_after = faults new;
}

-- a file could not be read: the shelf's count of faults rose
abbrev pub IsUnread : Loaded → Type 0
IsUnread loads = Rose loads.faults_before loads.faults_after

-- all that was asked of the shelf was read: its count of faults stays
abbrev pub IsRead : Loaded → Type 0
IsRead loads = loads.faults_after ≡ loads.faults_before

-- where the names asked for are told, these were added
abbrev pub AskedFor : Loaded → List (List ℕ) → Type 0
AskedFor loads names = loads.asked_after ≡ option_map (λ asked. asked ++ names) loads.asked_before

-- the file was asked for, or, if memory ran out, perhaps not
abbrev pub AsksFile : {T E : Type 0} → Loaded → List ℕ → Result T E → Type 0
AsksFile loads name (Ok found) = AskedFor loads (name ∷ [])
AsksFile loads name (Err error) = AskedFor loads (name ∷ []) ⊎ (loads.asked_after ≡ loads.asked_before)

-- Where the bytes to come are told: from these, some events came, which were added to the talk where that is told, some bytes are left, and P holds of the three.
abbrev pub Went : Talked → (List ℕ → List Event → List ℕ → Type 0) → Type 0
Went talk P =
    (come : List ℕ) → talk.left_before ≡ Some come →
    (events : List Event) × (rest : List ℕ) × GoesOn talk.said_before events talk.said_after × (talk.left_after ≡ Some rest) × P come events rest

-- these bytes were written, and nothing was read
abbrev pub Wrote : Talked → List ℕ → Type 0
Wrote talk bytes = GoesOn talk.said_before (outs bytes) talk.said_after × (talk.left_after ≡ talk.left_before)

-- a prefix of these bytes was written, and nothing was read
abbrev pub WrotePrefix : Talked → List ℕ → Type 0
WrotePrefix talk bytes = (size : ℕ) × Wrote talk (take size bytes)
