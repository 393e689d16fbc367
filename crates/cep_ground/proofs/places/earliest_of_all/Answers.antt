use Rattle.std.proofs.Common.{take}
use Rattle.std.specs.List.{flat_map}
use Rattle.cep_ground.proofs.EarliestPlaces.{flat_next}
use Rattle.cep_ground.proofs.places.earliest_of_all.Goals as goal

pub loop-i-preserved : goal.loop-i-preserved
loop-i-preserved c =
    rw (flat_next c.args.lists.now c.loop-i.i c.get.result.now c.get.ensures)
    (c.earlier-first.ensures (flat_map (λ ps. ps) (take c.loop-i.i c.args.lists.now)) c.get.result.now c.loop-i.invariant c.earliest.ensures)
