use Rattle.std.proofs.Common.{append_assoc, refl}
use Rattle.cep_world.specs.World.{world}
use Rattle.cep_world.proofs.world.world_text.Goals as goal

pub returns : goal.returns
unfolding world
returns c =
    rw (c.in_ok-append-2.ensures.ok, c.in_ok-put_start.ensures, c.in_ok-put_rules.ensures, c.in_ok-put_all_names.ensures, c.in_ok-append.ensures.ok, c.new-out.ensures)
    (simp append_assoc refl)
