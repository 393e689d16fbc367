use Rattle.std.proofs.Common.{◌≡◌, ◌++◌, ◌≤◌, drop}
use Rattle.cep_term.specs.Multiset.{sum_of, copies_in, gained}
use Rattle.cep_rule.specs.Typing.{is_fact}
use Rattle.cep_offer.proofs.gaining.gained.Given as goal

abbrev pub invariant-loop-i : goal.invariant-loop-i
invariant-loop-i l = record {
  so_far : gained (is_fact l.signature) l.state l.atoms ≡ l.list ++ gained (is_fact l.signature) (sum_of l.state l.fresh) (drop l.i l.atoms);
  copies : copies_in l.fresh ≤ l.i;
}
