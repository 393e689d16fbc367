-- Texts that are compared.
use Rattle.std.proofs.Common.{◌≡◌, ◌≢◌, ℕ, Bool, false, List, [], ◌∷◌, ◌++◌, map, refl, arith}
use Rattle.std.specs.List.{list_any}
use Rattle.std.specs.Str.{bytes_eq}
use Rattle.std.proofs.lemmas.Slice.Eq.{bytes_eq-Decides}
use Rattle.cep_base.specs.Spelling.{IsUnbroken}
use Rattle.cep_base.proofs.Lists.{all_pushed}

-- whichever way round
pub bytes_eq_sym : (a b : List ℕ) → bytes_eq a b ≡ bytes_eq b a
bytes_eq_sym a b = grind (arith, bytes_eq-Decides)

-- bytes that are compared and differ
pub bytes_apart : (a b : List ℕ) → bytes_eq a b ≡ false → a ≢ b
bytes_apart a b e same = grind (arith, bytes_eq-Decides)

pub bytes_differ : (a b : List ℕ) → a ≢ b → bytes_eq a b ≡ false
bytes_differ a b apart = grind (arith, bytes_eq-Decides)

-- one of some images passes a test, or one of what they are images of
pub any_map : {X Y : Type 0} (test : Y → Bool) (f : X → Y) (xs : List X) → list_any test (map f xs) ≡ list_any (λ x. test (f x)) xs
any_map test f [] = refl
any_map test f (x ∷ xs) = rw (any_map test f xs)

-- one more byte of a line
pub unbroken_push : (bytes : List ℕ) (byte : ℕ) → IsUnbroken bytes → byte ≢ 10 → IsUnbroken (bytes ++ byte ∷ [])
unbroken_push bytes byte unbroken other = all_pushed (λ b. b ≢ 10) bytes byte unbroken other
