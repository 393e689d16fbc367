use Rattle.std.proofs.Common.{[], ◌∷◌, ◌++◌, sym, ap, ◌∙◌, arith}
use Rattle.cep_base.proofs.Lists.{holds_at}
use Rattle.cep_term.specs.Multiset.{Multiset, copies_in}
use Rattle.cep_term.specs.Tree.{IsGroundAtom, atom_of}
use Rattle.cep_rule.specs.Typing.{is_fact}
use Rattle.cep_offer.proofs.Gains.{none_yet, skipped, taken}
use Rattle.cep_offer.proofs.gaining.gained.Goals.{then-not-is_held+in_ok-hold+in_ok-copy+in_ok-push, else-not-is_held}
use Rattle.cep_offer.proofs.gaining.gained.Goals as goal

pub loop-i-init : goal.loop-i-init
loop-i-init c = record {
  so_far = none_yet c.bags_are_lawful.ensures (is_fact c.args.signature.now) c.args.state.now c.new-fresh.result c.args.atoms.now c.new-list.result c.args.atoms.now c.new-list.ensures c.new-fresh.ensures;
  copies = omega (arith, ap (λ (bag : Multiset). copies_in bag) c.new-fresh.ensures, c.bags_are_lawful.ensures.empty_copies);
}

pub hold-requires-clause-known : goal.hold-requires-clause-known
hold-requires-clause-known c = holds_at IsGroundAtom c.args.atoms.now c.loop-i.i _ c.requires c.get-a.ensures

pub loop-i-preserved : goal.loop-i-preserved
loop-i-preserved c =
    let a = atom_of c.get-a.result.now in
    elim c.if-not-is_held.branch [
      | then-not-is_held+in_ok-hold+in_ok-copy+in_ok-push w ↦ record {
        so_far =
            rw (w.fresh-is, w.list-is) (taken c.bags_are_lawful.ensures (is_fact c.args.signature.now) c.args.state.now c.loop-i.fresh c.args.atoms.now c.loop-i.list _ c.loop-i.i a w.hold.new.fresh _
            c.loop-i.invariant.so_far c.get-a.ensures (sym c.is_held.ensures ∙ w.if-not-is_held.true) w.in_ok-hold.ensures.held (w.in_ok-push.ensures.ok ∙ ap (λ b. c.loop-i.list ++ b ∷ []) w.in_ok-copy.ensures));
        copies = omega (arith, w.in_ok-hold.ensures.few, ap (λ (bag : Multiset). copies_in bag) w.fresh-is, c.loop-i.invariant.copies);
      }
      | else-not-is_held w ↦ record {
        so_far =
            rw (w.fresh-is, w.list-is) (skipped c.bags_are_lawful.ensures (is_fact c.args.signature.now) c.args.state.now c.loop-i.fresh c.args.atoms.now c.loop-i.list _ c.loop-i.i a
            c.loop-i.invariant.so_far c.get-a.ensures (sym c.is_held.ensures ∙ w.if-not-is_held.false));
        copies = omega (arith, ap (λ (bag : Multiset). copies_in bag) w.fresh-is, c.loop-i.invariant.copies);
      }
    ]
