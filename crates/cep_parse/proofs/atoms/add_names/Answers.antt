use Rattle.std.proofs.Common.{◌∙◌, ap}
use Rattle.std.proofs.lemmas.List.{take_all}
use Rattle.cep_parse.specs.Machine.{atom_of_names}
use Rattle.cep_parse.proofs.BackAtoms.{names_next, still_going}
use Rattle.cep_parse.proofs.atoms.add_names.Goals as goal

pub loop-name-preserved : goal.loop-name-preserved
loop-name-preserved c = still_going c.in_ok-add_leaf.field-0 c.add_leaf.new.atom _ c.in_ok-add_leaf.ensures
    ∙ names_next c.loop-name.atom c.args.atom.now.name c.args.names.now c.loop-name.name-index _ c.loop-name-test.true c.loop-name.invariant

pub returns : goal.returns
returns c = c.loop-name.invariant ∙ ap (atom_of_names c.args.atom.now.name) (take_all c.loop-name.name-index c.args.names.now c.loop-name-test.false)
