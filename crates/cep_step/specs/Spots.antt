-- Where the machine of a program stands.
use Rattle.std.specs.Prelude.{◌≡◌, ℕ, ◌<◌, length, refl}
use Rattle.std.specs.Coded.{Coded, code_by, coded×, coded_ℕ}
use Rattle.std.specs.FinMap as finite
use Rattle.cep_base.specs.declared.limits.TheConstants.{MOST_STAGES}
use Rattle.cep_term.specs.Codes.{atom_code}
use Rattle.cep_term.specs.Multiset.{Multiset, nodes_in_all}
use Rattle.cep_rule.specs.declared.parts.Parts.{Parts}
use Rattle.cep_rule.specs.State.{IsState, Fits}
use Rattle.cep_rule.specs.Steps.{Spot}

-- A spot is one of a program's: its stage is, and its state is a state of the program that fits.
pub record IsSpotOf (program : Parts) (spot : Spot) : Type 0 where
  pub stage : spot.stage < length program.stages
  pub is_state : IsState program.signature spot.state
  pub fits : Fits spot.state

-- What is kept wherever a machine stands: the nodes are those of the state, the state fits, and the
-- stage is low.
pub record IsKept (stage : ℕ) (state : Multiset) (nodes : ℕ) : Type 0 where
  pub counted : nodes ≡ nodes_in_all state
  pub fits : Fits state
  pub low : stage < MOST_STAGES

-- a spot is stored as its parts
abbrev pub spot_code : Coded Spot
spot_code =
    code_by (ℕ × Multiset) (coded× coded_ℕ (finite.code atom_code coded_ℕ))
    (λ spot. (spot.stage, spot.state))
    (λ parts. record { stage = parts.0; state = parts.1 }) (λ _. refl)
