use Rattle.std.proofs.Common.{◌≡◌, ◌+◌, ◌++◌}
use Rattle.cep_players.proofs.BlockedLines.{drop, blocked_lines}
use Rattle.cep_players.proofs.blocked.put_blocked.Given as goal

abbrev pub invariant-loop-i : goal.invariant-loop-i
invariant-loop-i l =
    l.out ++ blocked_lines l.program (l.i + 1) (drop l.i l.chosen) (drop l.i l.flags)
    ≡ l.fn.out ++ blocked_lines l.program 1 l.chosen l.flags
