use Rattle.std.proofs.Common.{append_assoc, refl}
use Rattle.cep_world.proofs.Separators.{flat_map-numbers}
use Rattle.cep_world.proofs.pieces.put_names.Goals as goal

pub loop-i-preserved : goal.loop-i-preserved
loop-i-preserved c = rw (c.in_ok-put_name.ensures, c.loop-i.invariant) (simp (append_assoc, flat_map-numbers) refl)
