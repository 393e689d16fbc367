use Rattle.std.proofs.Common.{◌≡◌, map, take}
use Rattle.cep_rule.specs.Instances.{full_instances}
use Rattle.cep_check.proofs.needed.needed_atoms.Given as goal

abbrev pub invariant-loop-i : goal.invariant-loop-i
invariant-loop-i l = l.atoms ≡ full_instances l.values (map (λ premise. premise.atom) (take l.i l.rule.premises))
