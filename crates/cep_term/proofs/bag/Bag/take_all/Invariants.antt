use Rattle.std.proofs.Common.{◌≡◌}
use Rattle.cep_term.specs.Multiset.{IsBag}
use Rattle.cep_term.proofs.Multisets.{without_first}
use Rattle.cep_term.proofs.bag.Bag.take_all.Given as goal

abbrev pub invariant-loop-i : goal.invariant-loop-i
invariant-loop-i l = record {
  taken : l.self ≡ without_first l.initial.self l.other l.i;
  kept : IsBag l.self;
}
