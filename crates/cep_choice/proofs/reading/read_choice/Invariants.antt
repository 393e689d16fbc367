use Rattle.std.proofs.Common.{◌≡◌}
use Rattle.cep_base.specs.Talk.{Did}
use Rattle.cep_choice.specs.Typed.{IsWithin}
use Rattle.cep_choice.proofs.LineRead.{HasRead}
use Rattle.cep_choice.proofs.reading.read_choice.Given as goal

abbrev pub invariant-loop-taken : goal.invariant-loop-taken
invariant-loop-taken g l = record {
  within : IsWithin l.n l.typed;
  calm : g.C.Console.faults l.console ≡ g.C.Console.faults l.fn.console;
  so_far : Did g.C.Console.talk g.C.Console.left l.fn.console l.console (HasRead l.n l.typed l.taken);
}
