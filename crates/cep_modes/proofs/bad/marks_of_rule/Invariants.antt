use Rattle.std.proofs.Common.{◌≡◌, map, take}
use Rattle.cep_modes.specs.Places.{holds}
use Rattle.cep_modes.proofs.bad.marks_of_rule.Given as goal

abbrev pub invariant-loop-n : goal.invariant-loop-n
invariant-loop-n l = l.marks ≡ map (holds l.marked) (take l.n-index l.n-items)
