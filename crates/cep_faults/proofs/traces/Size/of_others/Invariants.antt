use Rattle.std.proofs.Common.{◌≡◌, take}
use Rattle.cep_faults.specs.Counted.{cut, written_size, others}
use Rattle.cep_faults.proofs.traces.Size.of_others.Given as goal

abbrev pub invariant-loop-atom : goal.invariant-loop-atom
invariant-loop-atom l = l.size ≡ cut (written_size (others l.source (take l.atom-index l.atoms)))
