use Rattle.std.proofs.Common.{◌≡◌, ◌<◌, length, vec_len}
use Rattle.std.specs.Prelude.{All}
use Rattle.cep_term.specs.Values.{values_of}
use Rattle.cep_term.specs.Undoing.{undone}
use Rattle.cep_term.proofs.matching.undo.Given as goal

abbrev pub invariant-loop-v : goal.invariant-loop-v
invariant-loop-v l = record {
  same : undone l.trail.items (values_of l.values.items) ≡ undone l.initial.trail.items (values_of l.initial.values.items);
  in_range : All (λ v. v < length l.values.items) l.trail.items;
}

abbrev pub decreases-loop-v : goal.decreases-loop-v
decreases-loop-v l = vec_len l.trail
