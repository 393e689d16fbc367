use Rattle.std.proofs.Common.{[]}
use Rattle.cep_parse.specs.Raw.{atoms_in}
use Rattle.cep_base.specs.FirstNames.{names_among}
use Rattle.cep_infer.proofs.RulesInTurn.{none_built, part_built}
use Rattle.cep_infer.proofs.atoms.read_side.Goals as goal

pub loop-elem-preserved : goal.loop-elem-preserved
loop-elem-preserved c =
    part_built c.args.source.now (names_among c.args.variables.now.firsts) atoms_in c.args.side.now c.loop-elem.elem-index c.elem-item.result c.args.blanks c.loop-elem.behind c.push_atom.new.blanks [] c.loop-elem.atoms c.push_atom.new.atoms
    c.loop-elem-test.true c.elem-item.is c.loop-elem.invariant (rw c.in-Some.ensures c.in_ok-push_atom.ensures)

pub loop-elem-preserved-in_default : goal.loop-elem-preserved-in_default
loop-elem-preserved-in_default c =
    let vars = names_among c.args.variables.now.firsts in
    part_built c.args.source.now vars atoms_in c.args.side.now c.loop-elem.elem-index c.elem-item.result c.args.blanks c.loop-elem.behind c.loop-elem.behind [] c.loop-elem.atoms c.loop-elem.atoms
    c.loop-elem-test.true c.elem-item.is c.loop-elem.invariant (rw c.in_default.ensures (none_built c.args.source.now vars c.loop-elem.behind c.loop-elem.atoms))
