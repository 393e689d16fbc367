-- Edits that leave alone what others take and add again.
use Rattle.std.specs.Prelude.{◌≡◌, ◌+◌, ◌++◌, true, List}
use Rattle.std.specs.List.{AllByRecursion}
use Rattle.cep_term.specs.Tree.{AtomTree, IsGroundAtom}
use Rattle.cep_term.specs.Multiset.{Multiset, count_of, gathered, IsContained, IsBag}
use Rattle.cep_rule.specs.declared.signature.Signature.{Signature}
use Rattle.cep_rule.specs.Typing.{is_fact}

-- An edit of a state, by what is used and what is made, leaves atoms alone that another takes too and
-- adds again, behind all else: they are there, and none is a fact.
pub record LeavesAlone (signature : Signature) (state used : Multiset) (made : List AtomTree)
    (taken : Multiset) (added : List AtomTree) : Type 0 where
  pub kept : List AtomTree
  pub taken_too : (a : AtomTree) → count_of taken a ≡ count_of used a + count_of (gathered kept) a
  pub added_again : added ≡ made ++ kept
  pub no_facts : (a : AtomTree) → is_fact signature a ≡ true → count_of taken a ≡ 0
  pub contained : IsContained taken state
  pub state_bag : IsBag state
  pub used_bag : IsBag used
  pub taken_bag : IsBag taken
  pub ground : AllByRecursion IsGroundAtom added
