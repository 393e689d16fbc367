use Rattle.std.proofs.Common.{arith}
use Rattle.cep_term.specs.Tree.{atom_of}
use Rattle.cep_term.proofs.BlockEdits.{kept_set}
use Rattle.cep_term.proofs.bag.Bag.put.Goals as goal

pub invariant_of-self-2 : goal.invariant_of-self-2
invariant_of-self-2 c = record { filled = c.in_ok-put.ensures.filled; kept = kept_set _ _ (atom_of c.args.a) _ c.self.inside.copies _ c.self.invariant.kept c.requires.known c.in_ok-put.ensures.ok (omega arith) }
