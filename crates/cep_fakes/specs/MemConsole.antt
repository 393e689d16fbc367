use Rattle.std.specs.Prelude.{◌≡◌, ℕ, ◌/◌, List, length, take, Result, Ok, Err}
use Rattle.cep_base.specs.declared.console.Event.{Event}
use Rattle.cep_base.specs.declared.console.ConsoleFault.{ConsoleFault}
use Rattle.cep_base.specs.declared.console.ConsoleFault.TheVariants.{Memory, Failed}
use Rattle.cep_fakes.specs.Calls.{CallLog, FailsNext, after_call, after_fault}

-- what a console in memory holds whose calls are numbered: all events so far, the bytes still to come, and its calls
pub record NumberedDialogue : Type 0 where
  pub talk : List Event
  pub left : List ℕ
  pub calls : CallLog

-- the first half of some bytes, rounded down
abbrev pub first_half : List ℕ → List ℕ
first_half bytes = take (length bytes / 2) bytes

-- Except for out of memory, `Failed` is answered exactly when the call is listed, and it is counted as a fault. Each call takes its number.
abbrev pub ConsoleCounts : {T : Type 0} → CallLog → CallLog → Result T ConsoleFault → Type 0
ConsoleCounts before after (Ok value) = (¬ FailsNext before) × (after ≡ after_call before)
ConsoleCounts before after (Err (Memory error)) = after ≡ after_call before
ConsoleCounts before after (Err Failed) = FailsNext before × (after ≡ after_fault (after_call before))
