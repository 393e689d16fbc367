-- Who decides among offers, and what a decision consumes.
use Rattle.std.specs.Prelude.{◌≡◌, ◌⊎◌, ℕ, ◌+◌, ◌<◌, true, List, IsSomeAnd, slice_get}
use Rattle.cep_base.specs.declared.console.Event.{Event}
use Rattle.cep_rule.specs.declared.parts.Parts.{Parts}
use Rattle.cep_rule.specs.Stages.{own_group}
use Rattle.cep_choice.specs.Draws.{place_drawn}
use Rattle.cep_run.specs.declared.choice.Choice.{Choice}
use Rattle.cep_run.specs.declared.choice.Choice.TheVariants.{Place}
use Rattle.cep_run.specs.Choice.{Hears}

-- What decisions consume: the bytes to come, with how many were taken, and the words of the seed,
-- by how many were drawn.
pub record Supply : Type 0 where
  pub come : List ℕ
  pub taken : ℕ
  pub drawn : ℕ

-- How a decision came about: the player was heard, the offer was alone, or a word of the seed was
-- drawn.
pub data How : Type 0 where
  Heard : (events : List Event) → How
  Lone : How
  Drawn : How

-- The player decides: in an interactive stage, among the offers of its own rules, even where there
-- is one, and among several that leave it.
abbrev pub IsPlayers : Parts → ℕ → ℕ → ℕ → Type 0
IsPlayers program stage group n =
    IsSomeAnd (slice_get program.stages stage) (λ it. it.interactive ≡ true)
    × ((group ≡ own_group stage) ⊎ (1 < n))

-- The choice among n offers of a group, from one supply to the other.
abbrev pub Decides : Parts → ℕ → ℕ → ℕ → ℕ → Supply → How → Choice → Supply → Type 0
Decides program seed stage group n from (Heard events) choice to =
    IsPlayers program stage group n × Hears n from.come from.taken events choice to.come to.taken
    × (to.drawn ≡ from.drawn)
Decides program seed stage group n from Lone choice to =
    ¬ IsPlayers program stage group n × (n ≡ 1) × (choice ≡ Place 1) × (to ≡ from)
Decides program seed stage group n from Drawn choice to =
    ¬ IsPlayers program stage group n × (1 < n) × (choice ≡ Place (place_drawn seed from.drawn n))
    × (to ≡ record from { drawn = from.drawn + 1 })
