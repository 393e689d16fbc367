-- What a number may be.
use Rattle.std.specs.Prelude.{ℕ, ◌≤◌}
use Rattle.cep_base.specs.declared.limits.TheConstants.{MOST_TURNS}

-- A number of turns that a program may ask for: at least one, and not too many.
pub record IsTurnLimit (turns : ℕ) : Type 0 where
  pub some : 1 ≤ turns
  pub few : turns ≤ MOST_TURNS
