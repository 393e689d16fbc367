use Rattle.std.proofs.Common.{refl, ap}
use Rattle.cep_term.specs.Tree.{tree_of, trees_of}
use Rattle.cep_modes.specs.Places.{holds}
use Rattle.cep_modes.proofs.Numbering.{learnt_node, learnt_args}
use Rattle.cep_modes.proofs.known.+learning.Goals as goal

pub learn-returns-in-App : goal.learn-returns-in-App
learn-returns-in-App t c =
    learnt_node (holds c.args.known.now) (holds c.learn_all.new.known) (tree_of c.args.t.now) c.in-App.field-0 (trees_of c.in-App.args) (ap tree_of c.in-App.is) c.learn_all.ensures

pub learn_all-returns-in-Cons : goal.learn_all-returns-in-Cons
learn_all-returns-in-Cons t c =
    learnt_args (holds c.args.known.now) (holds c.learn.new.known) (holds c.learn_all.new.known) (trees_of c.args.args.now) (tree_of c.deref.result.now.first) (trees_of c.deref-in-Cons.result.now.rest)
    (rw (c.in-Cons.is, c.deref.ensures, c.deref-in-Cons.ensures) refl)
    c.learn.ensures
    c.learn_all.ensures
