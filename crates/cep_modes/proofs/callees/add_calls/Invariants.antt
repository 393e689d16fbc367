use Rattle.std.proofs.Common.{◌≡◌, ◌++◌, drop}
use Rattle.cep_rule.specs.Groundness.{known_after_all}
use Rattle.cep_modes.specs.Places.{holds, places_of}
use Rattle.cep_modes.proofs.callees.add_calls.Given as goal

abbrev pub invariant-loop-i : goal.invariant-loop-i
invariant-loop-i l = record {
  found : l.found.items ++ places_of (holds l.known) (drop l.i l.goals) ≡ l.initial.found.items ++ places_of (holds l.initial.known) l.goals;
  known : known_after_all (holds l.known) (drop l.i l.goals) ≡ known_after_all (holds l.initial.known) l.goals;
}
