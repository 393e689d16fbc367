use Rattle.std.proofs.Common.{take}
use Rattle.cep_infer.specs.Places.{IsReached, ArePlaces}
use Rattle.cep_infer.proofs.places.place_all.Given as goal

abbrev pub invariant-loop-at : goal.invariant-loop-at
invariant-loop-at l = record {
  reached : IsReached l.text l.reached;
  places : ArePlaces l.text (take l.at-index l.ats) l.places;
}
