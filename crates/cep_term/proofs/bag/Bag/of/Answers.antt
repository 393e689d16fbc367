use Rattle.std.proofs.Common.{◌∙◌, sym, ap, arith, map}
use Rattle.std.proofs.lemmas.List.{length-map}
use Rattle.cep_term.specs.Tree.{atom_of}
use Rattle.cep_term.specs.Multiset.{Multiset, gathered, sum_of}
use Rattle.cep_term.proofs.Multisets.{copies_empty, count_le_copies, copies_with_one, bag_gathered, sum_alone, sum_onward, sum_ended, bag_with_one}
use Rattle.cep_term.proofs.bag.Bag.of.Goals as goal

pub loop-atom-init : goal.loop-atom-init
loop-atom-init c =
    let gives = c.into_iter-atom-iterator.ensures.into_iter_gives in
    let atoms = c.into_atoms-atom-items in
    let few = rw (sym atoms.ensures) at c.requires.few in
    record {
      sum = rw (gives.0, atoms.ensures, c.new-bag.ensures) (sum_alone (gathered c.args.atoms) (bag_gathered c.args.atoms c.requires.known));
      known = rw (gives.0, atoms.ensures) c.requires.known;
      kept = c.each_is_kept.ensures;
      few = rw (gives.0, c.new-bag.ensures) (omega (arith, copies_empty, length-map atoms.result.items atom_of, few));
      counted = rw gives.0 (omega (arith, gives.1, atoms.result.ok.0));
    }

pub put-requires : goal.put-requires
put-requires c =
    let next = c.in-Some.ensures.steps in
    let inv = rw next.0 at c.loop-atom.invariant in
    record {
      known = inv.known.0;
      few = omega (arith, inv.few, count_le_copies c.loop-atom.bag (atom_of c.in-Some.atom));
      few_in_all = omega (arith, inv.few);
    }

pub loop-atom-preserved : goal.loop-atom-preserved
loop-atom-preserved c =
    let next = c.in-Some.ensures.steps in
    let inv = rw next.0 at c.loop-atom.invariant in
    let rest = map atom_of c.next.new.self.rest.items in
    let added = c.in_ok-put.ensures.ok in
    record {
      sum = ap (λ (bag : Multiset). sum_of bag (gathered rest)) added ∙ sum_onward c.loop-atom.bag (atom_of c.in-Some.atom) rest inv.kept inv.known ∙ inv.sum;
      known = inv.known.1;
      kept = bag_with_one c.loop-atom.bag c.put.new.self (atom_of c.in-Some.atom) inv.known.0 inv.kept added;
      few = rw added (omega (arith, inv.few, copies_with_one c.loop-atom.bag (atom_of c.in-Some.atom)));
      counted = omega (arith, inv.counted, next.1);
    }

pub returns : goal.returns
returns c = sym (sum_ended atom_of c.loop-atom.bag c.loop-atom.atom-iterator.rest.items (omega (arith, c.loop-atom.invariant.counted, c.in-None.ensures.steps.0))) ∙ c.loop-atom.invariant.sum
