use Rattle.std.proofs.Common.{◌≤◌, take}
use Rattle.std.specs.List.{AllByRecursion}
use Rattle.std.specs.FinMap as finite
use Rattle.cep_term.specs.Multiset.{count_of}
use Rattle.cep_term.proofs.bag.Bag.contains.Given as goal

abbrev pub invariant-loop-i : goal.invariant-loop-i
invariant-loop-i l = AllByRecursion (λ e. e.1 ≤ count_of l.self e.0) (take l.i (finite.entries l.other))
