use Rattle.std.proofs.Common.{[]}
use Rattle.cep_infer.proofs.RulesInTurn.{elem_built}
use Rattle.cep_infer.proofs.left.read_left.Goals as goal
use Rattle.cep_base.specs.FirstNames.{names_among}

pub loop-elem-preserved : goal.loop-elem-preserved
loop-elem-preserved c =
    elem_built c.args.source.now (names_among c.args.variables.now.firsts) c.args.side.now c.loop-elem.elem-index c.elem-item.result c.args.blanks.now c.loop-elem.blanks c.push_premise.new.blanks (record { premises = []; backs = [] }) c.loop-elem.left c.push_premise.new.left
    c.loop-elem-test.true c.elem-item.is c.loop-elem.invariant c.in_ok-push_premise.ensures
