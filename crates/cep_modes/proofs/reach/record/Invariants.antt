use Rattle.std.proofs.Common.{◌≡◌, ◌++◌, drop}
use Rattle.cep_modes.specs.Reaching.{calls_from}
use Rattle.cep_modes.proofs.reach.record.Given as goal

abbrev pub invariant-loop-callee : goal.invariant-loop-callee
invariant-loop-callee l = l.calls.items ++ calls_from l.caller (drop l.callee-index l.callees) ≡ l.initial.calls.items ++ calls_from l.caller l.callees
