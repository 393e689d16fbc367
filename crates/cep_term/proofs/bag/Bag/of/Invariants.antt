use Rattle.std.proofs.Common.{◌≡◌, ◌+◌, ◌^◌, ◌<◌, length, map}
use Rattle.std.specs.List.{AllByRecursion}
use Rattle.cep_term.specs.Tree.{atom_of, IsGroundAtom}
use Rattle.cep_term.specs.Multiset.{gathered, sum_of, copies_in, IsBag}
use Rattle.cep_term.proofs.bag.Bag.of.Given as goal

abbrev pub invariant-loop-atom : goal.invariant-loop-atom
invariant-loop-atom l = record {
  sum : sum_of l.bag (gathered (map atom_of l.atom-iterator.rest.items)) ≡ gathered l.fn.atoms;
  known : AllByRecursion IsGroundAtom (map atom_of l.atom-iterator.rest.items);
  kept : IsBag l.bag;
  few : copies_in l.bag + length l.atom-iterator.rest.items < 2 ^ 32;
  counted : l.atom-iterator.rest.len ≡ length l.atom-iterator.rest.items;
}
