use Rattle.std.proofs.Common.{take}
use Rattle.std.specs.List.{AllByRecursion}
use Rattle.cep_term.specs.Tree.{IsFit}
use Rattle.cep_rule.specs.Instances.{full_instances}
use Rattle.cep_step.proofs.fitting.first_too_large.Given as goal

abbrev pub invariant-loop-i : goal.invariant-loop-i
invariant-loop-i l = AllByRecursion IsFit (take l.i (full_instances l.measured.values.now l.right))
