-- Bytes of names, the words that name nothing, and bytes of one line.
use Rattle.std.specs.Prelude.{ℕ, ◌==◌, ◌≢◌, Bool, ◌||◌, List, [], ◌∷◌, codes}
use Rattle.std.specs.Char.{is_ascii_alphanumeric}
use Rattle.std.specs.List.{AllByRecursion}

-- a byte that goes on with a name: an ASCII letter, a digit, `_`, `/` or `'`
abbrev pub is_name_byte : ℕ → Bool
is_name_byte byte = is_ascii_alphanumeric byte || byte == 95 || byte == 47 || byte == 39

-- the reserved words, which name nothing
abbrev pub reserved_words : List (List ℕ)
reserved_words = codes "type" ∷ codes "pred" ∷ codes "bwd" ∷ codes "fact" ∷ codes "stage" ∷ codes "context" ∷ codes "qui" ∷ []

-- no LF stands among the bytes
abbrev pub IsUnbroken : List ℕ → Type 0
IsUnbroken bytes = AllByRecursion (λ byte. byte ≢ 10) bytes
