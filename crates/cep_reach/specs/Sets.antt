-- Sets of numbers, as words of bits.
use Rattle.std.specs.Prelude.{◌≡◌, ℕ, ◌/◌, ◌%◌, ◌^◌, ◌≢◌, ◌<◌, ◌==◌, Bool, true, false, List, slice_index}
use Rattle.std.specs.Int.{bit_at}

-- whether the number is in the set of these words
abbrev pub has_bit : List ℕ → ℕ → Bool
has_bit words n = bit_at (slice_index words (n / 64)) (n % 64) == 1

-- Some number is in the later set and not in the earlier one. (Each word that memory holds is at a place below 2^64.)
pub record HasNewBit (earlier later : List ℕ) : Type 0 where
  pub number : ℕ
  pub in_range : number < 2 ^ 70
  pub not_before : has_bit earlier number ≡ false
  pub now : has_bit later number ≡ true

-- A word has become another one.
pub record IsOtherWord (old new : ℕ) : Type 0 where
  pub old_fits : old < 2 ^ 64
  pub new_fits : new < 2 ^ 64
  pub differs : new ≢ old
