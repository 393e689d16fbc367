-- The order of faults, and the first of those of a text.
use Rattle.std.specs.Prelude.{◌≡◌, ◌⊎◌, ℕ, ◌<◌, Bool, List, Option}
use Rattle.cep_base.specs.Foremost.{StandsNoLater, IsForemost, IsForemostOrNone, stands_no_later, foremost_of, foremost_in}
use Rattle.cep_refusal.specs.declared.fault.Fault.{Fault}
use Rattle.cep_refusal.specs.declared.reason.Reason.{Reason}
use Rattle.cep_refusal.specs.Reasons.{number, phase}

-- this is wrong, at this place
abbrev pub wrong : Reason → ℕ → Fault
wrong reason at = record { reason = reason; at = at }

-- where a fault stands among others: at its place, and there by its number
abbrev pub standing : Fault → ℕ × ℕ
standing fault = (fault.at, number fault.reason)

-- The fault stands no later than the other: at an earlier place, or at the same one with no greater number.
abbrev pub IsNoLater : Fault → Fault → Type 0
IsNoLater fault other = StandsNoLater standing fault other

-- The first of some faults.
abbrev pub IsFirst : (Fault → Type 0) → Fault → Type 0
IsFirst IsWrong fault = IsForemost standing IsWrong fault

-- The first of some faults, or none where there are none.
abbrev pub IsFirstOrNone : (Fault → Type 0) → Option Fault → Type 0
IsFirstOrNone IsWrong first = IsForemostOrNone standing IsWrong first

-- whether the fault stands no later than the other
abbrev pub is_no_later : Fault → Fault → Bool
is_no_later fault other = stands_no_later standing fault other

-- the first of two
abbrev pub first_of : Option Fault → Option Fault → Option Fault
first_of one other = foremost_of standing one other

-- the first of all
abbrev pub first_in : List Fault → Option Fault
first_in faults = foremost_in standing faults

-- The fault is told no later than the other: it is of an earlier phase, or of the same one and stands no later.
abbrev pub IsToldFirst : Fault → Fault → Type 0
IsToldFirst fault other = (phase fault.reason < phase other.reason) ⊎ ((phase fault.reason ≡ phase other.reason) × IsNoLater fault other)
