-- Private.
-- A table of names that reading keeps, and parts whose sums are small.
use Rattle.std.specs.Prelude.{◌↔◌, ℕ, List, IsTrue}
use Rattle.std.specs.List.{AllByRecursion}
use Rattle.cep_base.specs.FirstNames.{has_name}
use Rattle.cep_claim.specs.declared.weight.Part.{Part}
use Rattle.cep_claim.specs.declared.weight.Weight.{Weight}
use Rattle.cep_claim.specs.Factors.{IsFactor, HaveOwnPredicates}
use Rattle.cep_weigh.specs.Claims.{IsNamedBefore}

-- The table has the names of these claims.
abbrev pub NamesClaims : List Weight → List (List ℕ × ℕ) → Type 0
NamesClaims weights table = (name : List ℕ) → IsTrue (has_name table name) ↔ IsNamedBefore weights name

-- The parts are of different predicates, with factors that are such.
pub record AreFactors (parts : List Part) : Type 0 where
  pub apart : HaveOwnPredicates parts
  pub factors : AllByRecursion (λ part. IsFactor part.factor) parts
