use Rattle.cep_infer.proofs.RulesInTurn.{all_built}
use Rattle.cep_infer.proofs.atoms.read_atoms.Goals as goal
use Rattle.cep_base.specs.FirstNames.{names_among}

pub returns : goal.returns
returns c = all_built c.args.source.now (names_among c.args.variables.now.firsts) c.args.raws.now c.args.blanks c.push_atoms.new.blanks c.new-atoms.result c.push_atoms.new.atoms c.new-atoms.ensures c.in_ok-push_atoms.ensures
