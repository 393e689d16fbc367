use Rattle.std.proofs.Common.{◌≡◌, ◌++◌, ◌-◌, ◌%◌, drop}
use Rattle.cep_modes.specs.Places.{positions_of, callees_by}
use Rattle.cep_modes.proofs.callees.callees_at.Given as goal

abbrev pub invariant-loop-i : goal.invariant-loop-i
invariant-loop-i l =
    l.found.items ++ callees_by (positions_of ((l.n - 1) % 256)) l.clauses (drop l.i-index l.i-items) ≡ callees_by (positions_of ((l.n - 1) % 256)) l.clauses l.i-items
