use Rattle.std.proofs.Common.{◌≡◌, map, take}
use Rattle.cep_step.specs.Sizes.{size_of}
use Rattle.cep_step.proofs.measured.sizes_of.Given as goal

abbrev pub invariant-loop-v : goal.invariant-loop-v
invariant-loop-v l = l.sizes.items ≡ map size_of (take l.v l.values)
