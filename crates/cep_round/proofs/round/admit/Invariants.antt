use Rattle.std.proofs.Common.{◌≡◌, take}
use Rattle.std.specs.FinMap as finite
use Rattle.cep_round.specs.Rounds.{AreAdmitted, used_after}
use Rattle.cep_round.proofs.round.admit.Given as goal

abbrev pub invariant-loop-i : goal.invariant-loop-i
invariant-loop-i l =
    AreAdmitted l.program l.state finite.empty (take l.i l.chosen) l.flags
    × (l.used ≡ used_after l.program finite.empty (take l.i l.chosen) l.flags)
