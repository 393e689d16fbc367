-- Configurations of a program.
use Rattle.std.specs.Prelude.{◌≡◌, ℕ, ◌<◌, refl}
use Rattle.std.specs.Coded.{Coded, code_by, coded×, coded_ℕ}
use Rattle.std.specs.FinMap as finite
use Rattle.cep_term.specs.Codes.{atom_code}
use Rattle.cep_term.specs.Multiset.{Multiset}
use Rattle.cep_rule.specs.declared.parts.Parts.{Parts}
use Rattle.cep_rule.specs.Stages.{leaving_group}
use Rattle.cep_rule.specs.Steps.{Spot}
use Rattle.cep_step.specs.Spots.{IsSpotOf}

-- A configuration: the stage, the state, how many turns are done, and the matcher of the state.
pub record Configuration (M : Type 0) : Type 0 where
  pub stage : ℕ
  pub state : Multiset
  pub turns : ℕ
  pub matcher : M

-- where the configuration stands
abbrev pub spot_of : {M : Type 0} → Configuration M → Spot
spot_of config = record { stage = config.stage; state = config.state }

-- A configuration is of a program where its matcher is, and the spot where it stands.
pub record IsConfigurationOf {M : Type 0} (is_of : Parts → M → Type 0) (program : Parts)
    (config : Configuration M) : Type 0 where
  pub matcher : is_of program config.matcher
  pub spot : IsSpotOf program (spot_of config)

-- a configuration is stored as its parts
abbrev pub configuration_code : {M : Type 0} → Coded M → Coded (Configuration M)
configuration_code {M} code =
    code_by (ℕ × (Multiset × (ℕ × M)))
    (coded× coded_ℕ (coded× (finite.code atom_code coded_ℕ) (coded× coded_ℕ code)))
    (λ c. (c.stage, (c.state, (c.turns, c.matcher))))
    (λ parts. record { stage = parts.0; state = parts.1.0; turns = parts.1.1.0; matcher = parts.1.1.1 }) (λ _. refl)

-- What every configuration keeps: the matcher holds its state, and has a list for both groups of
-- its stage.
pub record HoldsSpot (spot : Spot) (held : Multiset) (lists : ℕ) : Type 0 where
  pub same_state : held ≡ spot.state
  pub listed : leaving_group spot.stage < lists
