-- How a fault is told.
use Rattle.std.specs.Prelude.{◌≡◌, ℕ, List, take}
use Rattle.cep_lex.specs.Places.{IsPlaceAfter}
use Rattle.cep_refusal.specs.declared.fault.Fault.{Fault}
use Rattle.cep_refusal.specs.declared.refusal.Refusal.{Refusal}

-- The refusal tells of the fault, at the line and the column of its place.
pub record Tells (text : List ℕ) (fault : Fault) (refusal : Refusal) : Type 0 where
  pub reason : refusal.reason ≡ fault.reason
  pub pos : IsPlaceAfter (take fault.at text) refusal.pos
