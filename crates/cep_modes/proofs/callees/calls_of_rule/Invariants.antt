use Rattle.std.proofs.Common.{◌≡◌, drop, length}
use Rattle.cep_rule.specs.Groundness.{nothing, known_after_all}
use Rattle.cep_rule.specs.Binding.{needed_of}
use Rattle.cep_modes.specs.Places.{holds}
use Rattle.cep_modes.proofs.callees.calls_of_rule.Given as goal

abbrev pub invariant-loop-i : goal.invariant-loop-i
invariant-loop-i l = record {
  as_many : length l.known ≡ 32;
  known : known_after_all (holds l.known) (drop l.i (needed_of l.rule)) ≡ known_after_all nothing (needed_of l.rule);
}
