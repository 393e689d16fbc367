use Rattle.std.proofs.lemmas.List.{take_all}
use Rattle.cep_parse.specs.Raw.{atoms_of}
use Rattle.cep_source.proofs.Meeting.{side_met, are_variables}
use Rattle.cep_source.proofs.variables.Variables.of_side.Goals as goal

pub loop-elem-preserved : goal.loop-elem-preserved
loop-elem-preserved c =
    side_met c.args.source.now c.args.side.now c.loop-elem.elem-index c.elem-item.result c.nodes.result.now c.loop-elem-test.true c.elem-item.is c.nodes.ensures
    c.loop-elem.variables c.meet_nodes.new.self c.in_ok-meet_nodes.ensures c.loop-elem.invariant

pub returns : goal.returns
returns c =
    are_variables c.args.source.now (atoms_of c.args.side.now) c.loop-elem.variables
    (rw (take_all c.loop-elem.elem-index c.args.side.now c.loop-elem-test.false) at c.loop-elem.invariant)
