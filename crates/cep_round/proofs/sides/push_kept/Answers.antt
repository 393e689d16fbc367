use Rattle.std.proofs.Common.{true, false, ◌∷◌, [], ◌++◌, length, sym, ap, ◌∙◌}
use Rattle.cep_base.proofs.Lists.{holds_at_mapped}
use Rattle.cep_term.specs.Tree.{AtomTree, IsAtomInRange}
use Rattle.cep_rule.specs.Patterns.{PremiseTree, premise_of}
use Rattle.cep_round.proofs.Rests.{next_staying, added_next, added_same}
use Rattle.cep_round.proofs.sides.push_kept.Goals as goal
use Rattle.cep_round.proofs.sides.push_kept.Goals.{then-stays+in_ok-instance+in_ok-push, else-stays}

pub instance-requires : goal.instance-requires
instance-requires c = holds_at_mapped (IsAtomInRange (length c.args.values.now)) (λ (p : PremiseTree). p.atom) c.args.rule.now.premises c.loop-i.i (premise_of c.get-premise.result.now) c.requires c.get-premise.ensures

pub loop-i-preserved : goal.loop-i-preserved
loop-i-preserved c =
    let premise = premise_of c.get-premise.result.now in
    elim c.if-stays.branch [
      | then-stays+in_ok-instance+in_ok-push w ↦
          added_next c.args.atoms.now _ _ _ c.loop-i.atoms _
          (next_staying c.args.signature.now c.args.values.now c.args.rule.now.premises c.loop-i.i premise true c.get-premise.ensures (sym c.stays.ensures ∙ w.if-stays.true)) c.loop-i.invariant
          (w.atoms-is ∙ w.in_ok-push.ensures.ok ∙ ap (λ (a : AtomTree). c.loop-i.atoms ++ a ∷ []) w.in_ok-instance.ensures)
      | else-stays w ↦
          w.atoms-is ∙ added_same c.args.atoms.now _ _ c.loop-i.atoms
          (next_staying c.args.signature.now c.args.values.now c.args.rule.now.premises c.loop-i.i premise false c.get-premise.ensures (sym c.stays.ensures ∙ w.if-stays.false)) c.loop-i.invariant
    ]
