use Rattle.std.proofs.Common.{◌≡◌, take}
use Rattle.cep_term.specs.Values.{values_of}
use Rattle.cep_term.proofs.binding.copy_values.Given as goal

abbrev pub invariant-loop-value : goal.invariant-loop-value
invariant-loop-value l = values_of l.copies.items ≡ values_of (take l.value-index l.values)
