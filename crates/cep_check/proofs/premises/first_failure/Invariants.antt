use Rattle.std.proofs.Common.{take}
use Rattle.cep_rule.specs.Instances.{full_instances}
use Rattle.cep_rule.specs.Steps.{AreProofs}
use Rattle.cep_check.proofs.premises.first_failure.Given as goal

abbrev pub invariant-loop-i : goal.invariant-loop-i
invariant-loop-i l = AreProofs l.program l.most (take l.i l.proofs) (take l.i (full_instances l.values l.backs))
