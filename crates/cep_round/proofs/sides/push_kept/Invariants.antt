use Rattle.std.proofs.Common.{◌≡◌, ◌++◌, take}
use Rattle.cep_rule.specs.Instances.{full_instances}
use Rattle.cep_round.proofs.Rests.{stay_among}
use Rattle.cep_round.proofs.sides.push_kept.Given as goal

abbrev pub invariant-loop-i : goal.invariant-loop-i
invariant-loop-i l = l.atoms ≡ l.initial.atoms ++ full_instances l.values (stay_among l.signature (take l.i l.rule.premises))
