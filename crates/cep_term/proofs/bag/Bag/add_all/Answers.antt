use Rattle.std.proofs.Common.{arith, rules}
use Rattle.cep_base.proofs.Lists.{holds_at}
use Rattle.cep_term.specs.Tree.{IsGroundAtom, atom_of}
use Rattle.cep_term.proofs.Multisets.{copies_with_one, sum_more, bag_with_one, added}
use Rattle.cep_term.proofs.bag.Bag.add_all.Goals as goal

pub loop-i-preserved : goal.loop-i-preserved
loop-i-preserved c = record {
  sum = grind (arith, sum_more c.args.self.now c.args.atoms.now c.loop-i.i);
  kept = bag_with_one c.loop-i.self c.add.new.self (atom_of c.get.result.now) (holds_at IsGroundAtom c.args.atoms.now c.loop-i.i _ c.requires.known c.get.ensures) c.loop-i.invariant.kept c.in_ok-add.ensures.ok;
  copies = grind (arith, copies_with_one);
}

pub loop-i-init : goal.loop-i-init
loop-i-init c = search (rules, added)
