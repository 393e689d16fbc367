use Rattle.std.proofs.Common.{◌∷◌, [], ◌++◌, length, ap, ◌∙◌}
use Rattle.cep_base.proofs.Lists.{holds_at_mapped}
use Rattle.cep_term.specs.Tree.{AtomTree, IsAtomInRange}
use Rattle.cep_rule.specs.Patterns.{PremiseTree, premise_of}
use Rattle.cep_round.proofs.Rests.{next_premise, added_next}
use Rattle.cep_round.proofs.sides.push_premises.Goals as goal

pub instance-requires : goal.instance-requires
instance-requires c = holds_at_mapped (IsAtomInRange (length c.args.values.now)) (λ (p : PremiseTree). p.atom) c.args.rule.now.premises c.loop-i.i (premise_of c.get.result.now) c.requires c.get.ensures

pub loop-i-preserved : goal.loop-i-preserved
loop-i-preserved c =
    added_next c.args.atoms.now _ _ _ c.loop-i.atoms _
    (next_premise c.args.values.now c.args.rule.now.premises c.loop-i.i (premise_of c.get.result.now) c.get.ensures) c.loop-i.invariant
    (c.in_ok-push.ensures.ok ∙ ap (λ (a : AtomTree). c.loop-i.atoms ++ a ∷ []) c.in_ok-instance.ensures)
