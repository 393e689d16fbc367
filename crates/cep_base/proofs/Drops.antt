-- Lists from a place on, and up to one.
use Rattle.std.proofs.Common.{◌≡◌, ℕ, zero, suc, ◌+◌, List, [], ◌∷◌, drop, Some, add-one, arith}
use Rattle.std.specs.Prelude.{slice_get}
pub use Rattle.cep_base.proofs.Lists.{take_next}

-- the items from a place on are the one there and those after it
pub drop_at-suc : {X : Type 0} (xs : List X) (n : ℕ) (x : X) → slice_get xs n ≡ Some x → drop n xs ≡ x ∷ drop (suc n) xs
drop_at-suc [] n x is = absurd cc
drop_at-suc (y ∷ xs) zero x is = grind arith
drop_at-suc (y ∷ xs) (suc n) x is = drop_at-suc xs n x is

pub drop_at : {X : Type 0} (xs : List X) (n : ℕ) (x : X) → slice_get xs n ≡ Some x → drop n xs ≡ x ∷ drop (n + 1) xs
drop_at xs n x is = rw (add-one n) (drop_at-suc xs n x is)
