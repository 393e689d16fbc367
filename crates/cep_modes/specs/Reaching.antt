-- Private. What is reached from some numbers by calls, as the code gathers it.
use Rattle.std.specs.Prelude.{◌≡◌, ℕ, suc, ◌<◌, Bool, true, false, cond, List, [], ◌∷◌, ◌++◌, length, map, slice_set, slice_get, Some}
use Rattle.std.specs.List.{AllByRecursion, Contains}
use Rattle.cep_rule.specs.Patterns.{ClauseTree}
use Rattle.cep_modes.specs.declared.reach.Call.{Call}
use Rattle.cep_modes.specs.Places.{holds, callees}

-- the flags with those of these numbers set
abbrev pub seen_after : List ℕ → List Bool → List Bool
seen_after [] seen = seen
seen_after (n ∷ numbers) seen = seen_after numbers (slice_set seen n true)

-- the queue with those of these numbers at its end that are seen for the first time
abbrev pub queue_after : List ℕ → List Bool → List ℕ → List ℕ
queue_after [] seen queue = queue
queue_after (n ∷ numbers) seen queue = queue_after numbers (slice_set seen n true) (cond (holds seen n) queue (queue ++ n ∷ []))

-- how many flags are not set
abbrev pub unset : List Bool → ℕ
unset [] = 0
unset (true ∷ flags) = unset flags
unset (false ∷ flags) = suc (unset flags)

-- the call that the one number makes of the other
abbrev pub call_of : ℕ → ℕ → Call
call_of caller callee = record { caller = caller; callee = callee }

-- the calls of one number
abbrev pub calls_from : ℕ → List ℕ → List Call
calls_from n numbers = map (call_of n) numbers

-- The call is made by its caller, and both numbers are in range.
pub record IsCall (clauses : List ClauseTree) (size : ℕ) (call : Call) : Type 0 where
  pub made : Contains (callees clauses call.caller) call.callee
  pub caller : call.caller < size
  pub callee : call.callee < size

-- All that the number calls is recorded and seen.
abbrev pub IsDone : List ClauseTree → List Bool → List Call → ℕ → Type 0
IsDone clauses seen calls n = (m : ℕ) → Contains (callees clauses n) m → Contains calls (call_of n m) × (holds seen m ≡ true)

-- What was gathered when so many numbers of the queue were done.
pub record IsReachedSoFar (clauses : List ClauseTree) (size : ℕ) (seen : List Bool) (queue : List ℕ) (calls : List Call) (done : ℕ) : Type 0 where
  pub as_many : length seen ≡ size
  pub queued : (n : ℕ) → holds seen n ≡ true → Contains queue n
  pub within : AllByRecursion (λ n. n < size) queue
  pub called : AllByRecursion (IsCall clauses size) calls
  pub gone : (k n : ℕ) → k < done → slice_get queue k ≡ Some n → IsDone clauses seen calls n

-- All that is reached from the numbers by calls is seen, and these are the calls.
pub record IsClosed (clauses : List ClauseTree) (size : ℕ) (numbers : List ℕ) (calls : List Call) : Type 0 where
  pub seen : List Bool
  pub all_seen : (n : ℕ) → Contains numbers n → holds seen n ≡ true
  pub called : AllByRecursion (IsCall clauses size) calls
  pub gone : (n : ℕ) → holds seen n ≡ true → IsDone clauses seen calls n
