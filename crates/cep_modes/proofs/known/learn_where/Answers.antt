use Rattle.cep_term.specs.Tree.{tree_of}
use Rattle.cep_modes.specs.Places.{holds}
use Rattle.cep_modes.proofs.Numbering.{learnt_where}
use Rattle.cep_modes.proofs.known.learn_where.Goals as goal

pub returns-then-is_so : goal.returns-then-is_so
returns-then-is_so c = learnt_where (holds c.args.known.now) (holds c.learn.new.known) c.args.is_so (tree_of c.args.t.now) c.if-is_so.true c.learn.ensures
