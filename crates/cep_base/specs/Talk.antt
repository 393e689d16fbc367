-- What is said on a console: its events, and what calls add to them.
use Rattle.std.specs.Prelude.{◌≡◌, ℕ, List, [], ◌∷◌, ◌++◌, map, Option, None, Some, IfSome, Result, Ok, Err}
use Rattle.std.specs.Option.{option_map}
use Rattle.cep_base.specs.declared.console.Event.{Event}
use Rattle.cep_base.specs.declared.console.Event.TheVariants.{Out, In, End}
use Rattle.cep_base.specs.declared.console.ConsoleFault.{ConsoleFault}
use Rattle.cep_base.specs.declared.console.ConsoleFault.TheVariants.{Memory, Failed}
use Rattle.cep_base.specs.Faults.{Rose}

-- bytes that are written, one event each
abbrev pub outs : List ℕ → List Event
outs bytes = map Out bytes

-- bytes that are typed, one event each
abbrev pub ins : List ℕ → List Event
ins bytes = map In bytes

-- what one reading hears: a byte, or that no further one comes
abbrev pub heard : Option ℕ → Event
heard None = End
heard (Some byte) = In byte

-- if the talk is reported, it goes on by these events
abbrev pub GoesOn : Option (List Event) → List Event → Option (List Event) → Type 0
GoesOn before events after = after ≡ option_map (λ talk. talk ++ events) before

-- If the bytes to come are reported, one reading took the first of them, or there was none.
abbrev pub Takes : Option (List ℕ) → Option ℕ → Option (List ℕ) → Type 0
Takes before (Some byte) after = before ≡ option_map (λ rest. byte ∷ rest) after
Takes before None after = (after ≡ before) × IfSome before (λ bytes. bytes ≡ [])

-- If a console reports the bytes to come, it went from old to new: some events came, which were added to the talk if that is reported; from the bytes to come then some rest is left; and P holds of these bytes, the events and the rest.
abbrev pub Did : {C : Type 0} → (C → Option (List Event)) → (C → Option (List ℕ)) → C → C → (List ℕ → List Event → List ℕ → Type 0) → Type 0
Did talk left old new P =
    (come : List ℕ) → left old ≡ Some come →
    (events : List Event) × (rest : List ℕ) × GoesOn (talk old) events (talk new) × (left new ≡ Some rest) × P come events rest

-- `Failed` is answered only if the count of faults rose, and every other answer leaves it as it was.
abbrev pub ConsoleCause : {T : Type 0} → ℕ → ℕ → Result T ConsoleFault → Type 0
ConsoleCause before after (Ok value) = after ≡ before
ConsoleCause before after (Err (Memory error)) = after ≡ before
ConsoleCause before after (Err Failed) = Rose before after
