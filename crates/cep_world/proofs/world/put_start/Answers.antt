use Rattle.std.proofs.lemmas.Result.{on_ok_weaker}
use Rattle.cep_world.proofs.Separators.{start_added}
use Rattle.cep_world.proofs.world.put_start.Goals as goal

pub returns : goal.returns
returns c =
    on_ok_weaker c.put_atom.result
    (start_added c.args.n c.args.out.now c.put_rooms.new.out c.put_walkers.new.out c.put_goods.new.out c.put_atom.new.out c.requires.some c.in_ok-put_rooms.ensures c.in_ok-put_walkers.ensures c.in_ok-put_goods.ensures)
    c.put_atom.ensures
