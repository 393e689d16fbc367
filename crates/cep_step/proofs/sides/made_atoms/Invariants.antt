use Rattle.std.proofs.Common.{◌≡◌, take}
use Rattle.cep_rule.specs.Instances.{full_instances}
use Rattle.cep_step.proofs.sides.made_atoms.Given as goal

abbrev pub invariant-loop-i : goal.invariant-loop-i
invariant-loop-i l = l.atoms ≡ full_instances l.values (take l.i l.rule.right)
