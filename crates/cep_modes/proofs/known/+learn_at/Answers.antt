use Rattle.std.proofs.Common.{refl}
use Rattle.cep_term.specs.Tree.{tree_of, trees_of}
use Rattle.cep_modes.specs.Places.{holds}
use Rattle.cep_modes.proofs.Numbering.{learnt_at}
use Rattle.cep_modes.proofs.known.+learn_at.Goals as goal

pub returns-in-Cons : goal.returns-in-Cons
returns-in-Cons t c =
    learnt_at (holds c.args.known.now) (holds c.learn_where.new.known) (holds c.learn_at.new.known) c.args.positions (trees_of c.args.args.now) (tree_of c.deref.result.now.first) (trees_of c.deref-in-Cons.result.now.rest)
    (rw (c.in-Cons.is, c.deref.ensures, c.deref-in-Cons.ensures) refl)
    c.learn_where.ensures
    c.learn_at.ensures
