-- The line and the column of a place in a text.
use Rattle.std.specs.Prelude.{◌≡◌, ◌⊎◌, ℕ, ◌+◌, ◌==◌, List, [], ◌∷◌, ◌++◌, length, count_by}
use Rattle.cep_base.specs.declared.place.Pos.{Pos}
use Rattle.cep_base.specs.Spelling.{IsUnbroken}

-- no bytes, or bytes that an LF ends
abbrev pub IsEnded : List ℕ → Type 0
IsEnded bytes = (bytes ≡ []) ⊎ ((front : List ℕ) × (bytes ≡ front ++ 10 ∷ []))

-- Before this place stand whole lines, and then the bytes of its own line. The LFs and these bytes are counted, from 1.
pub record IsPlaceAfter (before : List ℕ) (pos : Pos) : Type 0 where
  pub lines : List ℕ
  pub bytes : List ℕ
  pub cut : before ≡ lines ++ bytes
  pub ended : IsEnded lines
  pub unbroken : IsUnbroken bytes
  pub line : pos.line ≡ 1 + count_by (λ byte. byte == 10) before
  pub col : pos.col ≡ 1 + length bytes
