use Rattle.cep_term.specs.Tree.{atom_of}
use Rattle.cep_term.proofs.BlockEdits.{kept_taken}
use Rattle.cep_term.proofs.bag.Bag.take.Goals as goal

pub invariant_of-self : goal.invariant_of-self
invariant_of-self c = record { filled = c.in-Ok.ensures.filled; kept = kept_taken _ _ (atom_of c.args.a.now) c.self.inside.copies c.self.invariant.kept c.in-Ok.ensures.missing c.in-Ok.ensures.ok }
