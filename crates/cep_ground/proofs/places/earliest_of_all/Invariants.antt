use Rattle.std.proofs.Common.{take}
use Rattle.std.specs.List.{flat_map}
use Rattle.cep_ground.specs.Earliest.{IsEarliest}
use Rattle.cep_ground.proofs.places.earliest_of_all.Given as goal

abbrev pub invariant-loop-i : goal.invariant-loop-i
invariant-loop-i l = IsEarliest (flat_map (λ places. places) (take l.i l.lists)) l.first
