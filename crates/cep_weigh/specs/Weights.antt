-- Weights: what the parts of a claim make of a state and of the two sides of a rule, and what the claim wants.
use Rattle.std.specs.Prelude.{◌≡◌, ℕ, ◌<◌, ◌==◌, ◌&&◌, if◌then◌else◌, not, List, [], ◌∷◌, sum_by, count_by, slice_get, Some, IsSomeAnd, ℤ, pos, ◌+ℤ◌, ◌*ℤ◌, ◌≤ℤ◌, ◌<ℤ◌}
use Rattle.std.specs.List.{AllByRecursion}
use Rattle.std.specs.FinMap as finite
use Rattle.cep_base.specs.declared.kind.PredKind.TheVariants.{Linear}
use Rattle.cep_term.specs.Multiset.{Multiset}
use Rattle.cep_rule.specs.declared.signature.Signature.{Signature}
use Rattle.cep_rule.specs.declared.rule.Rule.{Rule}
use Rattle.cep_rule.specs.declared.parts.Parts.{Parts}
use Rattle.cep_claim.specs.declared.weight.Claim.{Claim}
use Rattle.cep_claim.specs.declared.weight.Claim.TheVariants.{Keep, Most, Fall}
use Rattle.cep_claim.specs.declared.weight.Part.{Part}
use Rattle.cep_claim.specs.declared.weight.Weight.{Weight}
use Rattle.cep_weigh.specs.declared.against.Against.{Against}
use Rattle.cep_claim.specs.Factors.{IsFactor, HaveOwnPredicates, AreNotNegative}

-- the sum, over the parts, of the factor times the number that is counted of the part's predicate
abbrev pub weighed : List Part → (ℕ → ℕ) → ℤ
weighed [] count = pos 0
weighed (part ∷ parts) count = (part.factor *ℤ pos (count part.pred)) +ℤ weighed parts count

-- how many copies of atoms of the predicate there are
abbrev pub copies_of_pred : Multiset → ℕ → ℕ
copies_of_pred state pred = sum_by (λ e. if e.0.pred == pred then e.1 else 0) (finite.entries state)

-- how many premises of the predicate the rule has that are not kept
abbrev pub used_of : Rule → ℕ → ℕ
used_of rule pred = count_by (λ premise. not premise.kept && (premise.atom.pred == pred)) rule.premises

-- how many right atoms of the predicate the rule has
abbrev pub made_of : Rule → ℕ → ℕ
made_of rule pred = count_by (λ a. a.pred == pred) rule.right

-- the weight of a state
abbrev pub weight_of : List Part → Multiset → ℤ
weight_of parts state = weighed parts (copies_of_pred state)

-- the left sum of a rule
abbrev pub left_sum : List Part → Rule → ℤ
left_sum parts rule = weighed parts (used_of rule)

-- the right sum of a rule
abbrev pub right_sum : List Part → Rule → ℤ
right_sum parts rule = weighed parts (made_of rule)

-- What the claim wants where one number becomes another: the same, no greater one, or a lesser one.
abbrev pub Wants : Claim → ℤ → ℤ → Type 0
Wants Keep old new = new ≡ old
Wants Most old new = new ≤ℤ old
Wants Fall old new = new <ℤ old

-- The rule keeps to the claim: its right sum is what the claim wants after its left sum.
abbrev pub KeepsTo : Claim → List Part → Rule → Type 0
KeepsTo claim parts rule = Wants claim (left_sum parts rule) (right_sum parts rule)

-- Each rule keeps to the claim.
abbrev pub AllKeepTo : Parts → Claim → List Part → Type 0
AllKeepTo program claim parts = AllByRecursion (KeepsTo claim parts) program.rules

-- The rule with this number is the first that does not keep to the claim, and these are its sums.
pub record IsFirstAgainst (program : Parts) (claim : Claim) (parts : List Part) (against : Against) : Type 0 where
  pub rule : Rule
  pub numbered : slice_get program.rules against.rule ≡ Some rule
  pub left : against.left ≡ left_sum parts rule
  pub right : against.right ≡ right_sum parts rule
  pub breaks : ¬ KeepsTo claim parts rule
  pub first : (number : ℕ) (other : Rule) → number < against.rule → slice_get program.rules number ≡ Some other → KeepsTo claim parts other

-- Each part is of a predicate that is declared and linear.
abbrev pub AreOfLinear : Signature → List Part → Type 0
AreOfLinear signature parts = AllByRecursion (λ part. IsSomeAnd (slice_get signature.preds part.pred) (λ pred. pred.kind ≡ Linear)) parts

-- Each factor is positive.
abbrev pub ArePositive : List Part → Type 0
ArePositive parts = AllByRecursion (λ part. pos 0 <ℤ part.factor) parts

-- A weight of a program: each part is of a linear predicate, no two are of one, each factor is one, and none is negative where the weight is to fall.
pub record IsWeightOf (program : Parts) (weight : Weight) : Type 0 where
  pub linear : AreOfLinear program.signature weight.sum
  pub apart : HaveOwnPredicates weight.sum
  pub factors : AllByRecursion (λ part. IsFactor part.factor) weight.sum
  pub signs : weight.claim ≡ Fall → AreNotNegative weight.sum

-- the factor of a predicate: that of its part, and nothing where there is none (of several parts their sum)
abbrev pub factor_of : List Part → ℕ → ℤ
factor_of [] pred = pos 0
factor_of (part ∷ parts) pred = (if part.pred == pred then part.factor else pos 0) +ℤ factor_of parts pred

-- the factors of all predicates of a list, added
abbrev pub factors_of : List Part → List ℕ → ℤ
factors_of parts [] = pos 0
factors_of parts (pred ∷ preds) = factor_of parts pred +ℤ factors_of parts preds
