-- The names of a program.
use Rattle.std.specs.Prelude.{◌≡◌, ◌≢◌, ◌⊎◌, ℕ, ◌≤◌, Bool, IsTrue, List, [], ◌∷◌, length, decimal}
use Rattle.std.specs.List.{AllByRecursion}
use Rattle.std.specs.Char.{is_ascii_lowercase, is_ascii_uppercase}
use Rattle.cep_base.specs.Spelling.{is_name_byte, reserved_words}
use Rattle.cep_base.specs.declared.limits.TheConstants.{MOST_NAME}

-- a byte that passes the test, and then bytes that go on with a name
abbrev pub IsWord : (ℕ → Bool) → List ℕ → Type 0
IsWord begins [] = ⊥
IsWord begins (byte ∷ bytes) = IsTrue (begins byte) × AllByRecursion (λ next. IsTrue (is_name_byte next)) bytes

-- A name: it begins with a small letter, is no reserved word, and is not too long.
pub record IsName (name : List ℕ) : Type 0 where
  pub word : IsWord is_ascii_lowercase name
  pub free : AllByRecursion (λ reserved. name ≢ reserved) reserved_words
  pub short : length name ≤ MOST_NAME

-- the name that a blank gets: `_` with a number
abbrev pub IsBlankName : List ℕ → Type 0
IsBlankName name = (number : ℕ) × (name ≡ 95 ∷ decimal number)

-- A name of a variable: it begins with a capital letter, or it is that of a blank; and it is not too long.
pub record IsVariableName (name : List ℕ) : Type 0 where
  pub word : IsWord is_ascii_uppercase name ⊎ IsBlankName name
  pub short : length name ≤ MOST_NAME

-- no two names are the same
abbrev pub AllDiffer : List (List ℕ) → Type 0
AllDiffer [] = Unit {0}
AllDiffer (name ∷ names) = AllByRecursion (λ other. name ≢ other) names × AllDiffer names

-- The names of one space: each is a name, and no two are the same.
pub record AreNames (names : List (List ℕ)) : Type 0 where
  pub each : AllByRecursion IsName names
  pub differ : AllDiffer names
