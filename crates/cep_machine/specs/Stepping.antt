-- What a step of a configuration comes to.
use Rattle.std.specs.Prelude.{◌≡◌, ℕ, ◌+◌, List, Some, slice_get}
use Rattle.std.specs.List.{AllByRecursion}
use Rattle.cep_term.specs.Tree.{Tree}
use Rattle.cep_rule.specs.declared.rule.Rule.{Rule}
use Rattle.cep_rule.specs.declared.parts.Parts.{Parts}
use Rattle.cep_rule.specs.declared.offer.Offer.{Offer}
use Rattle.cep_rule.specs.Shapes.{IsSmallTerm}
use Rattle.cep_rule.specs.Steps.{Spot, StepsTo}
use Rattle.cep_rule.specs.Matching.{RoseBy}
use Rattle.cep_machine.specs.declared.stepped.Stepped.{Stepped}
use Rattle.cep_machine.specs.declared.stepped.Stepped.TheVariants as stepped
use Rattle.cep_machine.specs.Configuration.{Configuration, spot_of}
use Rattle.cep_machine.specs.Asking.{asked_offers}
use Rattle.cep_step.specs.declared.change.Change.{Change}
use Rattle.cep_step.specs.declared.weighing.Weighed.{Weighed}
use Rattle.cep_step.specs.Changes.{IsChangeOf, IsWeighed}
use Rattle.cep_step.specs.Passing.{Passes, IsExcess}

-- The offer at this place among those that a stage asks is of this rule, with these values for its
-- variables.
pub record IsAskedAt (program : Parts) (lists : List (List Offer)) (stage place : ℕ) (rule : Rule)
    (values : List Tree) : Type 0 where
  pub number : ℕ
  pub offered : slice_get (asked_offers lists stage) place
      ≡ Some (record { rule = number; values = values })
  pub numbered : slice_get program.rules number ≡ Some rule

-- The configuration after a step: the step leads to where it stands, and one more turn is done.
pub record IsNext {M : Type 0} (program : Parts) (rule : Rule) (values : List Tree)
    (old new : Configuration M) : Type 0 where
  pub steps : StepsTo program rule values (spot_of old) (spot_of new)
  pub turns : new.turns ≡ old.turns + 1

-- What a step comes to: the configuration after it, or the old one with the limit that the step
-- would pass, and the number that would pass it.
abbrev pub IsStepped : {M : Type 0} → Parts → Rule → List Tree → Configuration M → Stepped M
    → Type 0
IsStepped program rule values old (stepped.Done new) = IsNext program rule values old new
IsStepped program rule values old (stepped.Passes config limit number) =
    (config ≡ old) × Passes program.signature rule values old.state limit
    × IsExcess program.signature rule values old.state limit number

-- the configuration that is there after a step, whatever it came to
abbrev pub config_after : {M : Type 0} → Stepped M → Configuration M
config_after (stepped.Done config) = config
config_after (stepped.Passes config limit number) = config

-- What weighing the step by the offer at this place among those that a stage asks comes to: that of
-- its rule with its values, which are small.
pub record IsWeighedAt (program : Parts) (lists : List (List Offer)) (place : ℕ) (spot : Spot)
    (weighed : Weighed) : Type 0 where
  pub offer : Offer
  pub rule : Rule
  pub offered : slice_get (asked_offers lists spot.stage) place ≡ Some offer
  pub numbered : slice_get program.rules offer.rule ≡ Some rule
  pub small : AllByRecursion IsSmallTerm offer.values
  pub is : IsWeighed program rule offer.values spot weighed

-- The change is that of some step from the spot.
pub record IsStepChange (program : Parts) (spot : Spot) (change : Change) : Type 0 where
  pub rule : Rule
  pub values : List Tree
  pub is : IsChangeOf program rule values spot change

-- How the counter rises: as is allowed where the step is done, and else not.
abbrev pub RoseIfDone : {M : Type 0} → (ℕ → Type 0) → Stepped M → ℕ → ℕ → Type 0
RoseIfDone allowed (stepped.Done config) old new = RoseBy allowed old new
RoseIfDone allowed (stepped.Passes config limit number) old new = new ≡ old
