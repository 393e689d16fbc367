use Rattle.std.proofs.Common.{◌≡◌, ◌≤◌, length}
use Rattle.cep_players.proofs.BlockedLines.{Contains, AllByRecursion, Did, offers_of, AllChoose}
use Rattle.cep_base.specs.declared.limits.TheConstants.{MOST_TYPED}
use Rattle.cep_players.proofs.choices.choices.Given as goal

abbrev pub invariant-loop-player : goal.invariant-loop-player
invariant-loop-player g l = record {
  within : l.spent.taken ≤ MOST_TYPED;
  same : l.spent ≡ record l.fn.spent { taken = l.spent.taken };
  many : length l.chosen ≡ l.player;
  among : AllByRecursion (Contains (offers_of (g.M.Matcher.offers_held l.matcher) l.group)) l.chosen;
  calm : g.C.Console.faults l.console ≡ g.C.Console.faults l.fn.console;
  so_far : Did g.C.Console.talk g.C.Console.left l.fn.console l.console (AllChoose l.player (offers_of (g.M.Matcher.offers_held l.matcher) l.group) l.chosen l.fn.spent l.spent);
}
