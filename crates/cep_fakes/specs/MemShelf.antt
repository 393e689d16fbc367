use Rattle.std.specs.Prelude.{◌≡◌, ◌⊎◌, ℕ, List, map, Option, None, Result, Ok, Err, Vec, string_bytes, String, refl}
use Rattle.std.specs.Ordering.{nat_cmp}
use Rattle.std.specs.Cmp.Lexicographic.{slice_cmp}
use Rattle.std.specs.FinMap.{FinMap, from_entries, code}
use Rattle.std.specs.Coded.{Coded, code_by, coded×, coded_list, coded_ℕ}
use Rattle.std.specs.BTreeMap.{BTreeMap}
use Rattle.std.specs.declared.alloc.Global.{Global}
use Rattle.cep_base.specs.declared.shelf.ShelfFault.{ShelfFault}
use Rattle.cep_base.specs.declared.shelf.ShelfFault.TheVariants.{Memory, Failed, TooLong}
use Rattle.cep_fakes.specs.Calls.{CallLog, call_log_code, FailsNext, after_call, after_fault}

-- what a shelf in memory holds: its files by their names, the names of all loads so far that did not end by out of memory, and its calls
pub record Holdings : Type 0 where
  pub files : FinMap (slice_cmp nat_cmp) (List ℕ)
  pub asked : List (List ℕ)
  pub calls : CallLog

-- holdings are stored as their fields
abbrev pub holdings_code : Coded Holdings
holdings_code =
    let bytes_code : Coded (List ℕ) = coded_list coded_ℕ in
    code_by (FinMap (slice_cmp nat_cmp) (List ℕ) × (List (List ℕ) × CallLog)) (coded× (code bytes_code bytes_code) (coded× (coded_list bytes_code) call_log_code))
    (λ all. (all.files, (all.asked, all.calls))) (λ parts. record { files = parts.0; asked = parts.1.0; calls = parts.1.1 }) (λ _. refl)

-- the files of a map from texts to bytes
abbrev pub files_of : BTreeMap (String Global) (Vec ℕ Global) → FinMap (slice_cmp nat_cmp) (List ℕ)
files_of files = from_entries (map (λ entry. (string_bytes entry.0, entry.1.items)) files.entries)

-- Except for out of memory, `Failed` is answered exactly when the load is listed or the file is missing, and it is counted as a fault. Each load takes its number.
abbrev pub LoadCounts : {T : Type 0} → CallLog → CallLog → Option (List ℕ) → Result T ShelfFault → Type 0
LoadCounts before after file (Ok value) = (¬ FailsNext before) × (after ≡ after_call before)
LoadCounts before after file (Err (Memory error)) = after ≡ after_call before
LoadCounts before after file (Err Failed) = (FailsNext before ⊎ (file ≡ None)) × (after ≡ after_fault (after_call before))
LoadCounts before after file (Err TooLong) = (¬ FailsNext before) × (after ≡ after_call before)
