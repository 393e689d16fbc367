use Rattle.std.proofs.Common.{take}
use Rattle.cep_ground.specs.Earliest.{IsEarliest, all_marked}
use Rattle.cep_ground.proofs.places.earliest_of_marked.Given as goal

abbrev pub invariant-loop-i : goal.invariant-loop-i
invariant-loop-i l = IsEarliest (all_marked (take l.i l.lists) (take l.i l.marks)) l.first
