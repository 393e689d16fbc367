use Rattle.std.proofs.Common.{◌≡◌, ◌++◌}
use Rattle.cep_world.specs.World.{numbered_names}
use Rattle.cep_world.proofs.pieces.put_names.Given as goal

abbrev pub invariant-loop-i : goal.invariant-loop-i
invariant-loop-i l = l.out ≡ l.fn.out ++ numbered_names l.letter l.sort l.i
