use Rattle.std.proofs.Common.{◌≡◌, ◌≤◌, take, length, filter}
use Rattle.cep_parse.specs.Raw.{atoms_of}
use Rattle.cep_faults.specs.Faults.{is_premise}
use Rattle.cep_faults.proofs.limits.premise_past.Given as goal

abbrev pub invariant-loop-elem : goal.invariant-loop-elem
invariant-loop-elem l = record { counted : l.before ≡ length (filter (is_premise l.source l.back) (atoms_of (take l.elem-index l.left))); few : l.before ≤ l.most }
