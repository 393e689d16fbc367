use Rattle.cep_parse.specs.Raw.{atoms_of}
use Rattle.cep_types.proofs.Meeting.{two_found}
use Rattle.cep_types.proofs.clashes.rule_clash.Goals as goal

pub returns : goal.returns
returns c =
    two_found c.args.source.now (atoms_of c.args.rule.now.left) (atoms_of c.args.rule.now.right) c.in_ok-variables.variables c.in_ok-first.first c.in_ok-other.other c.first_of.result c.in_ok-variables.ensures
    (rw (← c.as_slice.ensures) c.in_ok-first.ensures) (rw (← c.as_slice-2.ensures) c.in_ok-other.ensures) c.first_of.ensures
