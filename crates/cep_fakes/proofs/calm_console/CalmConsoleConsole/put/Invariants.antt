use Rattle.std.proofs.Common.{◌≡◌, ◌++◌, take, drop}
use Rattle.cep_base.specs.Talk.{outs}
use Rattle.cep_fakes.proofs.calm_console.CalmConsoleConsole.put.Given as goal

abbrev pub invariant-loop-byte : goal.invariant-loop-byte
invariant-loop-byte l = record {
  talk : l.self-inside.events.items ≡ l.fn.self.talk ++ outs (take l.byte-index l.bytes);
  left : drop l.self-inside.taken l.self-inside.input.items ≡ l.fn.self.left;
}
