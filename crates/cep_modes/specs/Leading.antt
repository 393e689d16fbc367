-- Private. Which numbers lead to marked ones by calls.
use Rattle.std.specs.Prelude.{◌≡◌, ◌↔◌, ℕ, ◌<◌, Bool, true, false, List, length, slice_set}
use Rattle.std.specs.List.{AllByRecursion, Contains}
use Rattle.cep_rule.specs.Patterns.{ClauseTree}
use Rattle.cep_rule.specs.Groundness.{IsBad}
use Rattle.cep_modes.specs.declared.reach.Call.{Call}
use Rattle.cep_modes.specs.Places.{holds, IsAmong}
use Rattle.cep_modes.specs.Reaching.{call_of}

-- A number leads to a marked one: it is marked, or calls a number that leads to one.
pub data IsLed (calls : List Call) (marked : List Bool) : ℕ → Type 0 where
  here : (n : ℕ) → holds marked n ≡ true → IsLed calls marked n
  there : (caller callee : ℕ) → Contains calls (call_of caller callee) → IsLed calls marked callee → IsLed calls marked caller

-- A caller is marked where its callee is.
abbrev pub IsFollowed : List Bool → Call → Type 0
IsFollowed marked call = holds marked call.callee ≡ true → holds marked call.caller ≡ true

-- Both numbers of a call are below this one.
pub record IsCallWithin (size : ℕ) (call : Call) : Type 0 where
  pub caller : call.caller < size
  pub callee : call.callee < size

-- A caller is marked for the first time where its callee is marked, or all is as before.
abbrev pub Marks : Bool → Call → List Bool → List Bool → Type 0
Marks true call old new = (holds old call.callee ≡ true) × (holds old call.caller ≡ false) × (new ≡ slice_set old call.caller true)
Marks false call old new = (new ≡ old) × IsFollowed old call

-- Of these numbers, each is in range and is marked if and only if it is 0 or that of a bad pair.
pub record TellsBad (clauses : List ClauseTree) (numbers : List ℕ) (marked : List Bool) : Type 0 where
  pub within : AllByRecursion (λ n. n < length marked) numbers
  pub told : (n : ℕ) → Contains numbers n → holds marked n ≡ true ↔ IsAmong (IsBad clauses) n
