-- The words that a seed gives, and the places among offers that they stand for.
use Rattle.std.specs.Prelude.{ℕ, ◌+◌, ◌*◌, ◌/◌, ◌^◌}
use Rattle.rand_pcg.specs.Lcg.{Lcg, started, increment_of, state_after, advance}
use Rattle.rand_pcg.specs.Pcg.{multiplier_64, output_xsh_rr}

-- the generator of the seed after so many words: PCG's XSH RR of 64 bits, on stream 54
unfoldable pub generator_behind : ℕ → ℕ → Lcg
generator_behind seed drawn = advance 64 multiplier_64 drawn (started 64 multiplier_64 seed (increment_of 64 54))

-- the word of 32 bits that the generator of the seed gives after so many
unfoldable pub word_drawn : ℕ → ℕ → ℕ
word_drawn seed drawn =
    output_xsh_rr (state_after 64 multiplier_64 (increment_of 64 54) drawn (started 64 multiplier_64 seed (increment_of 64 54)).state)

-- the place among n, counted from 1, that this word stands for
unfoldable pub place_drawn : ℕ → ℕ → ℕ → ℕ
place_drawn seed drawn n = word_drawn seed drawn * n / 2 ^ 32 + 1
