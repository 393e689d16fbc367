use Rattle.std.proofs.Common.{◌≡◌, ◌++◌, drop}
use Rattle.cep_modes.specs.Places.{all_places}
use Rattle.cep_modes.proofs.callees.calls_of_rules.Given as goal

abbrev pub invariant-loop-i : goal.invariant-loop-i
invariant-loop-i l = l.found.items ++ all_places (drop l.i l.rules) ≡ all_places l.rules
