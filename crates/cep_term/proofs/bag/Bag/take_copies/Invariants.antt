use Rattle.std.proofs.Common.{◌≡◌, ◌-◌}
use Rattle.cep_term.specs.Tree.{atom_of}
use Rattle.cep_term.specs.Multiset.{count_of, with_count}
use Rattle.cep_term.proofs.bag.Bag.take_copies.Given as goal

abbrev pub invariant-loop-taken : goal.invariant-loop-taken
invariant-loop-taken l = l.self ≡ with_count l.initial.self (atom_of l.atom) (count_of l.initial.self (atom_of l.atom) - l._taken)
