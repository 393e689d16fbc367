-- Words of the generator, and the places that they stand for.
use Rattle.std.proofs.Common.{◌≡◌, ℕ, zero, suc, ◌+◌, ◌*◌, ◌/◌, ◌^◌, ◌<◌, ◌≤◌, refl, ap, ◌∙◌, arith, add-one, ◌%◌, lt_of_le_of_lt, div-le_self, mul-lt-mul_of_pos_right}
use Rattle.rand_pcg.specs.Lcg.{Lcg, next_state, state_after, started, increment_of}
use Rattle.rand_pcg.specs.Pcg.{multiplier_64, output_xsh_rr, pcg32}
use Rattle.cep_choice.specs.Draws.{generator_behind, word_drawn, place_drawn}
use Rattle.std.proofs.lemmas.Nat.{or_lt}
use Rattle.std.specs.Prelude.{bit_xor}
use Rattle.std.specs.Int.{w32, rotate_right}

-- Steps of the generator.

-- one step after so many is one more
step_behind : (w m p n s : ℕ) → next_state w m p (state_after w m p n s) ≡ state_after w m p (suc n) s
unfolding state_after
step_behind w m p zero s = refl
step_behind w m p (suc n) s = step_behind w m p n (next_state w m p s)

-- the word after so many, and the generator after it
pub draws : (seed drawn word n : ℕ) (old new : Lcg) → old ≡ generator_behind seed drawn → (word, new) ≡ pcg32 old
    → (word * n / 2 ^ 32 + 1 ≡ place_drawn seed drawn n) × (new ≡ generator_behind seed (drawn + 1))
unfolding generator_behind word_drawn place_drawn
draws seed drawn word n old new is step =
    let now : (word, new) ≡ pcg32 (generator_behind seed drawn) = rw is at step in
    let further = step_behind 64 multiplier_64 (increment_of 64 54) drawn (started 64 multiplier_64 seed (increment_of 64 54)).state in
    (ap (λ z. z.0 * n / 2 ^ 32 + 1) now, rw (add-one drawn) (ap (λ z. z.1) now ∙ ap (λ (k : ℕ). let g : Lcg = record { state = k; increment = increment_of 64 54 } in g) further))

-- A word of the seed has 32 bits, so the place that it stands for is one of those among which it is drawn.

rotated_small : (word by : ℕ) → word < 2 ^ 32 → rotate_right w32 word by < 2 ^ 32
rotated_small word by small = or_lt 32 _ _ (lt_of_le_of_lt (div-le_self word _) small) (omega arith)

output_small : (state : ℕ) → output_xsh_rr state < 2 ^ 32
output_small state = rotated_small (bit_xor (state / 2 ^ 18) state / 2 ^ 27 % 2 ^ 32) (state / 2 ^ 59) (omega arith)

word_small : (seed drawn : ℕ) → word_drawn seed drawn < 2 ^ 32
unfolding word_drawn
word_small seed drawn = output_small (state_after 64 multiplier_64 (increment_of 64 54) drawn (started 64 multiplier_64 seed (increment_of 64 54)).state)

pub drawn_within : (seed drawn n : ℕ) → 0 < n → (0 < place_drawn seed drawn n) × (place_drawn seed drawn n ≤ n)
unfolding place_drawn
drawn_within seed drawn n some =
    let less : word_drawn seed drawn * n < 2 ^ 32 * n = mul-lt-mul_of_pos_right (word_small seed drawn) some in
    ((omega arith), (omega arith))
