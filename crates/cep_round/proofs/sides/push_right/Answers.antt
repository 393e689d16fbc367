use Rattle.std.proofs.Common.{◌∷◌, [], ◌++◌, ap, ◌∙◌, rules}
use Rattle.cep_term.specs.Tree.{AtomTree, atom_of}
use Rattle.cep_round.proofs.Rests.{next_right, added_next}
use Rattle.cep_round.proofs.sides.push_right.Goals as goal

pub loop-i-init : goal.loop-i-init
loop-i-init c = search rules

pub loop-i-preserved : goal.loop-i-preserved
loop-i-preserved c =
    added_next c.args.atoms.now _ _ _ c.loop-i.atoms _
    (next_right c.args.values.now c.args.rule.now.right c.loop-i.i (atom_of c.get.result.now) c.get.ensures) c.loop-i.invariant
    (c.in_ok-push.ensures.ok ∙ ap (λ (a : AtomTree). c.loop-i.atoms ++ a ∷ []) c.in_ok-instance.ensures)
