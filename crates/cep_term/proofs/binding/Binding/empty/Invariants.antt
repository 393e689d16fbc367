use Rattle.std.proofs.Common.{◌≡◌, None, replicate}
use Rattle.cep_term.specs.Values.{values_of}
use Rattle.cep_term.proofs.binding.Binding.empty.Given as goal

abbrev pub invariant-loop-made : goal.invariant-loop-made
invariant-loop-made l = values_of l.values.items ≡ replicate l.made None
