-- Fronts: what was said and heard before a call was refused.
use Rattle.std.specs.Prelude.{◌≡◌, ℕ, List, [], ◌∷◌, ◌++◌, Option}
use Rattle.cep_base.specs.declared.console.Event.{Event}
use Rattle.cep_base.specs.declared.console.Event.TheVariants.{Out, In, End}
use Rattle.cep_base.specs.Talk.{Did}
use Rattle.cep_rule.specs.declared.parts.Parts.{Parts}
use Rattle.cep_run.specs.declared.settings.Settings.{Settings}
use Rattle.cep_run.specs.Deciding.{Supply}
use Rattle.cep_step.specs.Deeds.{Position}
use Rattle.cep_run.specs.Run.{Turn, Ending, Run}
use Rattle.cep_run.specs.Dialogue.{events_of}

-- What is said, from here, begins some whole that has P: further events complete it to one, and
-- something is left then.
pub record BeginsSome {A B : Type 0} (P : A → List Event → B → Type 0) (from : A)
    (events : List Event) : Type 0 where
  pub more : List Event
  pub left : B
  pub whole : P from (events ++ more) left

-- the bytes that are heard among events
abbrev pub heard_bytes : List Event → List ℕ
heard_bytes [] = []
heard_bytes (Out byte ∷ events) = heard_bytes events
heard_bytes (In byte ∷ events) = byte ∷ heard_bytes events
heard_bytes (End ∷ events) = heard_bytes events

-- What was heard is gone from the bytes to come, and all others are left.
abbrev pub LeavesUnheard : List ℕ → List Event → List ℕ → Type 0
LeavesUnheard come events rest = come ≡ heard_bytes events ++ rest

-- Where a console tells the bytes to come: what was said and heard, from them, begins some whole
-- that has P, and what was heard is gone from them.
abbrev pub FellShort : {C A B : Type 0} → (C → Option (List Event)) → (C → Option (List ℕ)) → C → C
    → (List ℕ → A) → (A → List Event → B → Type 0) → Type 0
FellShort talk left old new from P =
    Did talk left old new (λ come events rest. BeginsSome P (from come) events
    × LeavesUnheard come events rest)

-- these are the events of a run from a position with a supply
abbrev pub IsRunOf : Parts → Settings → Position → Supply → List Event → Supply → Type 0
IsRunOf program settings at from events to =
    (turns : List Turn) × (ending : Ending) × Run program settings at from turns ending to
    × (events ≡ events_of program turns ending)
