use Rattle.std.proofs.Common.{append_assoc, append-nil, refl}
use Rattle.cep_world.proofs.Separators.{map-numbers, with_commas-append}
use Rattle.cep_world.proofs.pieces.put_goods.Goals as goal

pub loop-i-preserved : goal.loop-i-preserved
loop-i-preserved c = rw (c.in_ok-put_atom_before_others.ensures, c.loop-i.invariant) (simp (append_assoc, map-numbers, with_commas-append, append-nil) refl)
