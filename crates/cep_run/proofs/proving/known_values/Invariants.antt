use Rattle.std.proofs.Common.{◌≡◌, map, take}
use Rattle.cep_term.specs.Tree.{tree_of}
use Rattle.cep_term.specs.Values.{values_of}
use Rattle.cep_rule.specs.Instances.{given}
use Rattle.cep_run.proofs.proving.known_values.Given as goal

abbrev pub invariant-loop-value : goal.invariant-loop-value
invariant-loop-value l = values_of l.copies.items ≡ given (map tree_of (take l.value-index l.values))
