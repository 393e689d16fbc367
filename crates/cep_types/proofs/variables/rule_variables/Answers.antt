use Rattle.cep_parse.specs.Raw.{atoms_of}
use Rattle.cep_types.proofs.Meeting.{both_are_met}
use Rattle.cep_types.proofs.variables.rule_variables.Goals as goal

pub returns : goal.returns
returns c =
    rw (← c.unmet-variables.ensures) (both_are_met c.args.source.now (atoms_of c.args.rule.now.left) (atoms_of c.args.rule.now.right) c.unmet-variables.result c.meet_side.new.variables c.meet_side-2.new.variables
    (rw c.as_slice.ensures at c.in_ok-meet_side.ensures) (rw c.as_slice-2.ensures at c.in_ok-meet_side-2.ensures))
