-- Factors of a weight, and the parts that have them.
use Rattle.std.specs.Prelude.{◌≡◌, List, [], ◌∷◌, ℤ, pos, ◌≤ℤ◌, neg_ℤ}
use Rattle.std.specs.List.{AllByRecursion}
use Rattle.cep_claim.specs.declared.limits.TheConstants.{MOST_FACTOR}
use Rattle.cep_claim.specs.declared.weight.Part.{Part}

-- A factor: not 0, and not too far from it.
pub record IsFactor (factor : ℤ) : Type 0 where
  pub some : ¬ (factor ≡ pos 0)
  pub low : neg_ℤ MOST_FACTOR ≤ℤ factor
  pub high : factor ≤ℤ MOST_FACTOR

-- No two parts are of one predicate.
abbrev pub HaveOwnPredicates : List Part → Type 0
HaveOwnPredicates [] = Unit {0}
HaveOwnPredicates (part ∷ parts) = AllByRecursion (λ later. ¬ (later.pred ≡ part.pred)) parts × HaveOwnPredicates parts

-- No factor is negative.
abbrev pub AreNotNegative : List Part → Type 0
AreNotNegative parts = AllByRecursion (λ part. pos 0 ≤ℤ part.factor) parts
