use Rattle.cep_world.specs.World.{walker_atoms}
use Rattle.cep_world.proofs.Separators.{atoms_next}
use Rattle.cep_world.proofs.pieces.put_walkers.Goals as goal

pub loop-i-preserved : goal.loop-i-preserved
loop-i-preserved c = atoms_next (walker_atoms c.args.n) c.loop-i.i c.args.out.now c.loop-i.out c.put_walker.new.out c.loop-i.invariant c.in_ok-put_walker.ensures
