use Rattle.cep_infer.proofs.RulesInTurn.{atom_built}
use Rattle.cep_infer.proofs.atoms.push_atoms.Goals as goal
use Rattle.cep_base.specs.FirstNames.{names_among}

pub loop-raw-preserved : goal.loop-raw-preserved
loop-raw-preserved c =
    atom_built c.args.source.now (names_among c.args.variables.now.firsts) c.args.raws.now c.loop-raw.raw-index c.raw-item.result c.args.blanks.now c.loop-raw.blanks c.push_atom.new.blanks c.args.atoms.now c.loop-raw.atoms c.push_atom.new.atoms
    c.loop-raw-test.true c.raw-item.is c.loop-raw.invariant c.in_ok-push_atom.ensures
