use Rattle.std.proofs.Common.{◌≡◌, ◌-◌, ◌≤◌}
use Rattle.cep_players.proofs.BlockedLines.{Did, position_of, HasSpent, IsPlayed, DoesParts}
use Rattle.cep_players.proofs.Going.{unspent}
use Rattle.cep_players.proofs.dialogue.all_parts.Given as goal

-- Turns and rounds are done from the start to here, and what was said is their events.
abbrev pub invariant-loop-next : goal.invariant-loop-next
invariant-loop-next g l = record {
  played : IsPlayed g.M.Matcher.is_of g.M.Matcher.height_held l.program l.settings l.config;
  few : l.config.turns ≤ l.settings.limit;
  spent : HasSpent l.settings.seed l.config.turns l.spent;
  counted : l.fn.steps ≤ l.steps;
  calm : g.C.Console.faults l.console ≡ g.C.Console.faults l.fn.console;
  so_far : Did g.C.Console.talk g.C.Console.left l.fn.console l.console (DoesParts l.program l.settings l.players (position_of l.fn.start) unspent (position_of l.config) l.spent);
}

abbrev pub decreases-loop-next : goal.decreases-loop-next
decreases-loop-next g l = l.settings.limit - l.config.turns
