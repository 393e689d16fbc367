-- The dead rules of a program, each with its why, and that they never apply.
use Rattle.std.specs.Prelude.{◌≡◌, ℕ, ◌<◌, List, [], ◌∷◌, Some, slice_get, map, Contains}
use Rattle.std.specs.List.{AllByRecursion}
use Rattle.cep_rule.specs.declared.rule.Rule.{Rule}
use Rattle.cep_rule.specs.declared.parts.Parts.{Parts}
use Rattle.cep_rule.specs.declared.offer.Offer.{Offer}
use Rattle.cep_rule.specs.Offers.{Applies}
use Rattle.cep_rule.specs.Steps.{Spot}
use Rattle.cep_dead.specs.declared.dead_rule.DeadRule.{DeadRule}
use Rattle.cep_reach.specs.Rounds.{stage_of, IsDead, IsInSomeRound}
use Rattle.cep_reach.specs.Moves.{first_spot, AreMoves}
use Rattle.cep_dead.specs.Whys.{IsWhy}

-- The numbers are strictly increasing.
abbrev pub AreStrictlyIncreasing : List ℕ → Type 0
AreStrictlyIncreasing [] = Unit {0}
AreStrictlyIncreasing (number ∷ numbers) = AllByRecursion (λ later. number < later) numbers × AreStrictlyIncreasing numbers

-- No instance of the rule with this number applies in its stage, wherever moves from the start lead.
abbrev pub NeverApplies : Parts → ℕ → Type 0
NeverApplies program number =
    (height : ℕ) (moves : List Spot) (last : Spot) (rule : Rule) (offer : Offer) → AreMoves program height (first_spot program) moves last
    → slice_get program.rules number ≡ Some rule → offer.rule ≡ number → stage_of rule ≡ last.stage → ¬ Applies program height last.state offer

-- A rule is dead, and this is why: by all that is in some round.
pub record IsDeadFor (program : Parts) (dead : DeadRule) : Type 0 where
  pub rule : Rule
  pub numbered : slice_get program.rules dead.rule ≡ Some rule
  pub why : IsWhy program (IsInSomeRound program) rule dead.why

-- These are the dead rules of the program, in order, each with its why.
pub record AreDeads (program : Parts) (deads : List DeadRule) : Type 0 where
  pub in_order : AreStrictlyIncreasing (map (λ dead. dead.rule) deads)
  pub each : AllByRecursion (IsDeadFor program) deads
  pub all : (number : ℕ) (rule : Rule) → slice_get program.rules number ≡ Some rule → IsDead program rule → Contains (map (λ dead. dead.rule) deads) number
