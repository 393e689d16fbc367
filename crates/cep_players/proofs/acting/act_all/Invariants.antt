use Rattle.std.proofs.Common.{◌≡◌, ◌≤◌}
use Rattle.cep_players.proofs.BlockedLines.{IsPlayed}
use Rattle.cep_players.proofs.Going.{GoneTo}
use Rattle.cep_players.proofs.acting.act_all.Given as goal

abbrev pub invariant-loop-i : goal.invariant-loop-i
invariant-loop-i g l = record {
  played : IsPlayed g.M.Matcher.is_of g.M.Matcher.height_held l.program l.settings l.config;
  gone : GoneTo g.C.Console.talk g.C.Console.left l.program l.settings l.chosen l.flags l.fn.start l.fn.console l.i l.config l.console;
  risen : l.fn.steps ≤ l.steps;
  calm : g.C.Console.faults l.console ≡ g.C.Console.faults l.fn.console;
}
