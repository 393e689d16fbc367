use Rattle.std.proofs.Common.{take, ◌∷◌, []}
use Rattle.cep_ground.proofs.EarliestPlaces.{single, take_next}
use Rattle.cep_ground.proofs.places.earliest.Goals as goal

pub loop-i-preserved : goal.loop-i-preserved
loop-i-preserved c =
    rw (take_next c.args.places.now c.loop-i.i c.get.result.now c.get.ensures)
    (c.earlier-first.ensures (take c.loop-i.i c.args.places.now) (c.get.result.now ∷ []) c.loop-i.invariant (single c.get.result.now))
