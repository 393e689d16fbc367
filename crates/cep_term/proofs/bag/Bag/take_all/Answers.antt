use Rattle.std.proofs.Common.{◌∙◌, sym, ap}
use Rattle.cep_term.specs.Tree.{atom_of}
use Rattle.cep_term.specs.Multiset.{Multiset}
use Rattle.cep_term.proofs.Multisets.{without_entry, taken_next, ground_entry, kept_along}
use Rattle.cep_term.proofs.bag.Bag.take_all.Goals as goal

pub loop-i-preserved : goal.loop-i-preserved
loop-i-preserved c =
    let a = atom_of c.entry-copies.result.0.now in
    let copies = c.entry-copies.result.1 in
    record {
      taken = c.take_copies.ensures
          ∙ ap (λ (bag : Multiset). without_entry bag (a, copies)) c.loop-i.invariant.taken
          ∙ sym (taken_next c.args.self.now c.args.other.now c.loop-i.i a copies c.entry-copies.ensures);
      kept = kept_along c.loop-i.self c.take_copies.new.self a _ (ground_entry c.args.other.now c.loop-i.i a copies c.len-i-end.ensures.kept c.entry-copies.ensures) c.loop-i.invariant.kept c.take_copies.ensures;
    }
