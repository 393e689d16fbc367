use Rattle.std.proofs.Common.{◌≡◌, ◌+◌, take}
use Rattle.cep_term.specs.Multiset.{gathered, sum_of, copies_in, IsBag}
use Rattle.cep_term.proofs.bag.Bag.add_all.Given as goal

abbrev pub invariant-loop-i : goal.invariant-loop-i
invariant-loop-i l = record {
  sum : l.self ≡ sum_of l.initial.self (gathered (take l.i l.atoms));
  kept : IsBag l.self;
  copies : copies_in l.self ≡ copies_in l.initial.self + l.i;
}
