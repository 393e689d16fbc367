use Rattle.std.proofs.Common.{◌≡◌, Bool, false, List, [], ◌∷◌, refl, sym, arith}
use Rattle.std.specs.List.{AllByRecursion}
use Rattle.cep_term.specs.Tree.{AtomTree}
use Rattle.cep_term.specs.Multiset.{Multiset, with_one, gained}
use Rattle.cep_rule.specs.Typing.{is_fact}
use Rattle.cep_offer.proofs.gaining.gained_unless_all.Goals as goal

-- without a fact all are gained
all_gained : (test : AtomTree → Bool) (state : Multiset) (atoms : List AtomTree) → AllByRecursion (λ a. test a ≡ false) atoms → atoms ≡ gained test state atoms
all_gained test state [] none = refl
all_gained test state (a ∷ atoms) none = grind (arith, all_gained test (with_one state a) atoms none.1, none.0)

pub returns-then-not-has_fact : goal.returns-then-not-has_fact
returns-then-not-has_fact c =
    all_gained (is_fact c.args.signature.now) c.args.state.now c.args.atoms.now (rw (sym c.as_slice.ensures) (c.has_fact.ensures (grind (arith, c.if-not-has_fact.true))))
