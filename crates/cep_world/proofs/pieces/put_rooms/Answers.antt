use Rattle.cep_world.specs.World.{room_atoms}
use Rattle.cep_world.proofs.Separators.{atoms_next}
use Rattle.cep_world.proofs.pieces.put_rooms.Goals as goal

pub loop-i-preserved : goal.loop-i-preserved
loop-i-preserved c = atoms_next (room_atoms c.args.n) c.loop-i.i c.args.out.now c.loop-i.out c.put_room.new.out c.loop-i.invariant c.in_ok-put_room.ensures
