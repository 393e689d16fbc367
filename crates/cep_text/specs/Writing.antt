-- What a writer leaves where memory runs out.
use Rattle.std.specs.Prelude.{◌≡◌, ℕ, List, ◌++◌}

-- Of the text that was to be added, a front was.
pub record IsBegun (old text new : List ℕ) : Type 0 where
  pub front : List ℕ
  pub rest : List ℕ
  pub cut : text ≡ front ++ rest
  pub added : new ≡ old ++ front
