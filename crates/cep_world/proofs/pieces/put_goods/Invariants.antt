use Rattle.std.proofs.Common.{◌≡◌, ◌++◌, map}
use Rattle.cep_world.specs.World.{numbers_below, good_atom}
use Rattle.cep_world.specs.Pieces.{with_commas}
use Rattle.cep_world.proofs.pieces.put_goods.Given as goal

abbrev pub invariant-loop-i : goal.invariant-loop-i
invariant-loop-i l = l.out ≡ l.fn.out ++ with_commas (map (good_atom l.n) (numbers_below l.i))
