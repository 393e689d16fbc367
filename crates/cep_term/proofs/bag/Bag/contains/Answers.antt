use Rattle.std.proofs.Common.{refl, arith}
use Rattle.cep_term.specs.Tree.{atom_of}
use Rattle.cep_term.proofs.BlockEdits.{contained_all}
use Rattle.cep_term.proofs.Multisets.{entry_counted}
use Rattle.cep_term.proofs.bag.Bag.contains.Goals as goal

pub returns-then-count-copies : goal.returns-then-count-copies
returns-then-count-copies c = (
  λ h. cc,
  λ contained. absurd (omega (arith, contained (atom_of c.entry-copies.result.0.now), entry_counted c.args.other.now c.loop-i.i _ _ c.entry-copies.ensures, c.count.ensures, c.if-count-copies.true)),
)

pub returns : goal.returns
returns c = (λ _. contained_all c.args.self.now c.args.other.now c.loop-i.i (omega (arith, c.loop-i-test.false, c.len-i-end.ensures.value)) c.loop-i.invariant, λ _. refl)
