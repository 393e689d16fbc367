use Rattle.std.proofs.Common.{◌≡◌, ◌≤◌, take, length}
use Rattle.cep_base.specs.declared.limits.TheConstants.{MOST_RIGHT}
use Rattle.cep_parse.specs.Raw.{atoms_of}
use Rattle.cep_faults.proofs.limits.right_past.Given as goal

abbrev pub invariant-loop-elem : goal.invariant-loop-elem
invariant-loop-elem l = record { counted : l.before ≡ length (atoms_of (take l.elem-index l.right)); few : l.before ≤ MOST_RIGHT }
