use Rattle.cep_term.specs.Tree.{atom_of}
use Rattle.cep_source.specs.Kept.{clause_item}
use Rattle.cep_infer.proofs.RulesInTurn.{clause_built}
use Rattle.cep_infer.proofs.clauses.clause.Goals as goal

pub returns : goal.returns
returns c =
    let item = clause_item c.args.item.now in
    clause_built c.args.source.now item.head item.goals c.in_ok-variables.variables c.in_ok-names.field-0 c.in_ok-variable_kinds.field-0 c.read_atom.new.blanks (atom_of c.in_ok-read_atom.field-0) c.in_ok-read_atoms.field-0
    c.in_ok-variables.ensures c.requires.covered c.in_ok-names.ensures c.in_ok-variable_kinds.ensures c.in_ok-read_atom.ensures.atom c.in_ok-read_atom.ensures.blanks c.in_ok-read_atoms.ensures
