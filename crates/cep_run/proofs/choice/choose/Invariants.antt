use Rattle.std.proofs.Common.{◌≡◌, ◌≤◌, ◌-◌}
use Rattle.cep_base.specs.Talk.{Did}
use Rattle.cep_base.specs.declared.limits.TheConstants.{MOST_TYPED}
use Rattle.cep_run.proofs.Hearing.{Awaits}
use Rattle.cep_run.proofs.choice.choose.Given as goal

abbrev pub invariant-loop-heard : goal.invariant-loop-heard
invariant-loop-heard g l = record {
  within : l.taken ≤ MOST_TYPED;
  calm : g.C.Console.faults l.console ≡ g.C.Console.faults l.fn.console;
  so_far : Did g.C.Console.talk g.C.Console.left l.fn.console l.console (Awaits l.n l.fn.taken l.taken);
}

abbrev pub decreases-loop-heard : goal.decreases-loop-heard
decreases-loop-heard g l = MOST_TYPED - l.taken
