use Rattle.std.proofs.Common.{◌≡◌, ◌++◌}
use Rattle.std.specs.List.{flat_map}
use Rattle.cep_world.specs.World.{numbers_below, walker_atoms}
use Rattle.cep_world.specs.Pieces.{with_commas}
use Rattle.cep_world.proofs.pieces.put_walkers.Given as goal

abbrev pub invariant-loop-i : goal.invariant-loop-i
invariant-loop-i l = l.out ≡ l.fn.out ++ with_commas (flat_map (walker_atoms l.n) (numbers_below l.i))
