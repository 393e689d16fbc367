use Rattle.std.proofs.Common.{arith}
use Rattle.cep_parse.specs.Raw.{atoms_of}
use Rattle.cep_faults.proofs.Firsts.{first_in_append, variable_at_most}
use Rattle.cep_faults.proofs.rules.rule_fault.Goals as goal

pub returns : goal.returns
returns c = grind (arith, first_in_append, variable_at_most c.args.source.now (atoms_of c.as_slice-left.result.now) c.in_ok-variables.variables _ c.in_ok-variables.ensures c.variable_past.ensures)
