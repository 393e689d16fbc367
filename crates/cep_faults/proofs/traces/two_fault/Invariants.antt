use Rattle.std.proofs.Common.{◌≡◌, map, take}
use Rattle.cep_refusal.specs.First.{first_in}
use Rattle.cep_faults.proofs.Firsts.{two}
use Rattle.cep_faults.proofs.traces.two_fault.Given as goal

abbrev pub invariant-loop-trace : goal.invariant-loop-trace
invariant-loop-trace l = l.first ≡ first_in (map two (take l.trace-index l.traces))
