-- Moves: steps of a program from its start, stage by stage, whether or not a stage is quiescent where it is left.
use Rattle.std.specs.Prelude.{◌≡◌, ℕ, List, [], ◌∷◌}
use Rattle.cep_rule.specs.declared.parts.Parts.{Parts}
use Rattle.cep_rule.specs.declared.offer.Offer.{Offer}
use Rattle.cep_rule.specs.Offers.{Applies}
use Rattle.cep_rule.specs.Step.{Step}
use Rattle.cep_rule.specs.Steps.{Spot, stage_after}
use Rattle.cep_reach.specs.Rounds.{stage_of}

-- where a program begins
abbrev pub first_spot : Parts → Spot
first_spot program = record { stage = program.start_stage; state = program.start }

-- A move: an instance applies of a rule of the stage, or of one that leaves it, and its step leads to the new state, and the rule to the new stage.
pub record Moves (program : Parts) (height : ℕ) (old new : Spot) : Type 0 where
  pub offer : Offer
  pub applies : Applies program height old.state offer
  pub of_stage : stage_of applies.rule ≡ old.stage
  pub step : Step program.signature applies.rule offer.values old.state new.state
  pub stage : new.stage ≡ stage_after applies.rule old.stage

-- Moves lead from one spot through others to the last.
abbrev pub AreMoves : Parts → ℕ → Spot → List Spot → Spot → Type 0
AreMoves program height at [] last = last ≡ at
AreMoves program height at (next ∷ later) last = Moves program height at next × AreMoves program height next later last
