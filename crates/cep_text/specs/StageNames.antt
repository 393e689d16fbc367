-- The names of the stages of a program.
use Rattle.std.specs.Prelude.{◌≡◌, ℕ, List, Some, slice_get}
use Rattle.cep_rule.specs.declared.parts.Stage.{Stage}

-- The stage of this number has this name.
abbrev pub IsStageNamed : List Stage → ℕ → List ℕ → Type 0
IsStageNamed stages number name = (stage : Stage) × (slice_get stages number ≡ Some stage) × (stage.name ≡ name)
