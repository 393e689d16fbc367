use Rattle.std.proofs.Common.{◌≡◌, ℕ, ◌<◌, slice_get, Some}
use Rattle.cep_rule.specs.declared.rule.Rule.{Rule}
use Rattle.cep_weigh.specs.Weights.{KeepsTo}
use Rattle.cep_weigh.proofs.judging.judge.Given as goal

abbrev pub invariant-loop-i : goal.invariant-loop-i
invariant-loop-i l = (number : ℕ) (rule : Rule) → number < l.i → slice_get l.rules number ≡ Some rule → KeepsTo l.weight.claim l.parts rule
