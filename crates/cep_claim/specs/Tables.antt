-- Tables of names that reading keeps.
use Rattle.std.specs.Prelude.{ℕ, ◌<◌, List, MatchOption}
use Rattle.cep_base.specs.FirstNames.{under_name}
use Rattle.cep_rule.specs.declared.signature.Signature.{Signature}
use Rattle.cep_claim.specs.Written.{IsLinearNamed}

-- The table has the linear predicates of the signature among the first so many, by their names.
abbrev pub NamesLinearBelow : Signature → ℕ → List (List ℕ × ℕ) → Type 0
NamesLinearBelow signature most table =
    (name : List ℕ) → MatchOption (under_name table name) ((pred : ℕ) → pred < most → ¬ IsLinearNamed signature pred name) (λ pred. IsLinearNamed signature pred name)

-- The table has all linear predicates of the signature, by their names.
abbrev pub NamesLinear : Signature → List (List ℕ × ℕ) → Type 0
NamesLinear signature table = (name : List ℕ) → MatchOption (under_name table name) ((pred : ℕ) → ¬ IsLinearNamed signature pred name) (λ pred. IsLinearNamed signature pred name)
