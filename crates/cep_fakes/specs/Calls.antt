-- The calls of a fake of which chosen ones are to fail.
use Rattle.std.specs.Prelude.{ℕ, ◌+◌, ◌<◌, List, [], ◌∷◌, ◌++◌, Contains, refl}
use Rattle.std.specs.Coded.{Coded, code_by, coded×, coded_list, coded_ℕ}
use Rattle.cep_base.specs.Faults.{last_count, count_up}

-- the number of the last call that has one, from 0 before the first; the numbers of the calls that are to fail; and how many calls failed
pub record CallLog : Type 0 where
  pub last : ℕ
  pub listed : List ℕ
  pub faults : ℕ

-- a log is stored as its fields
abbrev pub call_log_code : Coded CallLog
call_log_code =
    code_by (ℕ × (List ℕ × ℕ)) (coded× coded_ℕ (coded× (coded_list coded_ℕ) coded_ℕ))
    (λ log. (log.last, (log.listed, log.faults))) (λ parts. record { last = parts.0; listed = parts.1.0; faults = parts.1.1 }) (λ _. refl)

-- no call yet, where these are to fail
abbrev pub no_calls : List ℕ → CallLog
no_calls listed = record { last = 0; listed = listed; faults = 0 }

-- the next call has a number, which is listed
abbrev pub FailsNext : CallLog → Type 0
FailsNext calls = (calls.last < last_count) × Contains calls.listed (calls.last + 1)

-- the log with one more number listed
abbrev pub after_listing : CallLog → ℕ → CallLog
after_listing calls call = record calls { listed = calls.listed ++ call ∷ [] }

-- the log after a call, which takes the next number if there is one
abbrev pub after_call : CallLog → CallLog
after_call calls = record calls { last = count_up calls.last }

-- the log after one more failure
abbrev pub after_fault : CallLog → CallLog
after_fault calls = record calls { faults = count_up calls.faults }
