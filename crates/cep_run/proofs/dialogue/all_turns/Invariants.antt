use Rattle.std.proofs.Common.{◌≡◌, ◌-◌, ◌*◌, ◌≤◌}
use Rattle.cep_base.specs.declared.limits.TheConstants.{MOST_OFFERS}
use Rattle.cep_base.specs.Talk.{Did}
use Rattle.cep_rule.specs.Matching.{RoseBy}
use Rattle.cep_run.specs.Costs.{AreDeedCosts}
use Rattle.cep_run.specs.Turn.{position_of, HasSpent, IsPlayed, SoFar}
use Rattle.cep_run.proofs.dialogue.all_turns.Given as goal

-- Some turns are done from the start to here, in which so many offers were listed, and what was said is their events.
abbrev pub invariant-loop-group : goal.invariant-loop-group
invariant-loop-group g l =
    record {
      played : IsPlayed g.M.Matcher.is_of g.M.Matcher.height_held l.program l.settings l.config;
      turns : l.config.turns ≤ l.settings.limit;
      spent : HasSpent l.settings.seed l.config.turns l.spent;
      counted : l.fn.steps ≤ l.steps;
      cause : g.C.Console.faults l.console ≡ g.C.Console.faults l.fn.console;
      few : l.offers ≤ MOST_OFFERS * l.config.turns;
      so_far : Did g.C.Console.talk g.C.Console.left l.fn.console l.console (SoFar l.program l.settings (λ deeds. RoseBy (AreDeedCosts g.M.Matcher.may_edit l.program l.settings.height deeds) l.fn.steps l.steps) (position_of l.fn.start) (position_of l.config) l.spent l.offers);
    }

abbrev pub decreases-loop-group : goal.decreases-loop-group
decreases-loop-group g l = l.settings.limit - l.config.turns
