use Rattle.std.proofs.Common.{arith}
use Rattle.cep_term.proofs.BlockEdits.{copies_seen, few_entries}
use Rattle.cep_term.proofs.bag.Bag.len.Goals as goal

pub len-requires : goal.len-requires
len-requires c = let kept = c.self.invariant.kept in omega (arith, few_entries _ _ kept, kept.counted, copies_seen _ _ kept.rising c.self.view_is, c.copies.ensures.value)
