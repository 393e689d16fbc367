use Rattle.std.proofs.Common.{take}
use Rattle.cep_ground.specs.Earliest.{IsEarliest}
use Rattle.cep_ground.proofs.places.earliest.Given as goal

abbrev pub invariant-loop-i : goal.invariant-loop-i
invariant-loop-i l = IsEarliest (take l.i l.places) l.first
