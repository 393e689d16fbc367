use Rattle.std.proofs.Common.{◌≡◌, ◌+◌, take}
use Rattle.cep_rule.specs.Instances.{full_instances}
use Rattle.cep_rule.specs.Steps.{AreProofs}
use Rattle.cep_run.proofs.proving.prove_backs.Given as goal

abbrev pub invariant-loop-i : goal.invariant-loop-i
invariant-loop-i g l = record {
  proved : AreProofs l.program l.height l.proofs (full_instances l.offer.values (take l.i l.rule.backs));
  ticked : l.steps ≡ l.initial.steps + l.i;
}
