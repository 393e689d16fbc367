use Rattle.std.proofs.Common.{◌≡◌, [], ◌∷◌, drop}
use Rattle.std.specs.List.{repeat}
use Rattle.cep_faults.specs.Levels.{pending, is_shallow}
use Rattle.cep_faults.proofs.limits.is_shallow.Given as goal

abbrev pub invariant-loop-node : goal.invariant-loop-node
invariant-loop-node l = is_shallow (repeat l.args (2 ∷ [])) l.nodes ≡ is_shallow (pending l.runs.items) (drop l.node-index l.nodes)
