-- The graph of a log: on which earlier steps each step rests. Steps go by their places, from 0; the numbers in an entry count from 1.
use Rattle.std.specs.Prelude.{◌≡◌, ◌↔◌, ℕ, ◌+◌, ◌<◌, List, length, Some, slice_get, Contains}
use Rattle.std.specs.List.{AllByRecursion}
use Rattle.std.specs.List.Sorted.{IsStrictlyIncreasing}
use Rattle.cep_rule.specs.declared.parts.Parts.{Parts}
use Rattle.cep_log.specs.declared.log.Log.{Log}
use Rattle.cep_order.specs.declared.step_cause.StepCause.{StepCause}
use Rattle.cep_cause.specs.Touches.{Touch, AreTouchesOf}
use Rattle.cep_cause.specs.Reorderings.{RestsOn}

-- A step rests on the one at a place.
pub record RestsOnAt (touches : List Touch) (touch : Touch) (place : ℕ) : Type 0 where
  pub earlier : Touch
  pub at : slice_get touches place ≡ Some earlier
  pub rests : RestsOn touch earlier

-- An entry of the graph is that of the step at a place: it says whether the step is a barrier, and
-- has, strictly increasing, the numbers of the earlier steps on which it rests.
pub record IsCause (touches : List Touch) (place : ℕ) (touch : Touch) (cause : StepCause)
    : Type 0 where
  pub barrier : cause.barrier ≡ touch.barrier
  pub increasing : IsStrictlyIncreasing cause.after
  pub counted : AllByRecursion (λ number. 0 < number) cause.after
  pub after : (earlier : ℕ)
      → (Contains cause.after (earlier + 1)
      ↔ ((earlier < place) × RestsOnAt touches touch earlier))

-- The entries are those of the steps, one each in order.
pub record AreCauses (touches : List Touch) (causes : List StepCause) : Type 0 where
  pub many : length causes ≡ length touches
  pub each : (place : ℕ) (touch : Touch) (cause : StepCause)
      → slice_get touches place ≡ Some touch → slice_get causes place ≡ Some cause
      → IsCause touches place touch cause

-- The graph of a log.
pub record IsGraph (program : Parts) (log : Log) (causes : List StepCause) : Type 0 where
  pub touches : List Touch
  pub are : AreTouchesOf program log touches
  pub entries : AreCauses touches causes
