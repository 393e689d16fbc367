use Rattle.cep_parse.specs.Raw.{atoms_in}
use Rattle.cep_types.proofs.Meeting.{part_is_met}
use Rattle.cep_types.proofs.variables.meet_side.Goals as goal

pub loop-elem-preserved : goal.loop-elem-preserved
loop-elem-preserved c =
    part_is_met c.args.source.now atoms_in c.args.side.now c.loop-elem.elem-index c.elem-item.result c.args.variables.now c.loop-elem.variables c.meet_atom.new.variables c.loop-elem-test.true c.elem-item.is c.loop-elem.invariant
    (rw (c.of_raw.ensures, ← c.in-Some.ensures) at c.in_ok-meet_atom.ensures)
