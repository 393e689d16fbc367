-- Private.
-- The laws of rules that the proofs of this crate rest on.
use Rattle.std.specs.Prelude.{◌≡◌, ◌<◌, true, List, Contains}
use Rattle.std.specs.List.{AllByRecursion}
use Rattle.cep_term.specs.Tree.{Tree, AtomTree, IsGroundAtom}
use Rattle.cep_term.specs.Multiset.{Multiset, count_of, gathered, sum_of, difference_of, IsContained, IsBag, IsOnce, gained}
use Rattle.cep_rule.specs.declared.signature.Signature.{Signature}
use Rattle.cep_rule.specs.declared.rule.Rule.{Rule}
use Rattle.cep_rule.specs.Typing.{AreValues, is_fact}
use Rattle.cep_rule.specs.Binding.{needed_of}
use Rattle.cep_rule.specs.Instances.{full_instances, left_of, taken_by, added_by, used_by}
use Rattle.cep_rule.specs.State.{IsState}
use Rattle.cep_rule.specs.Program.{IsTypedRule, IsDividedRule}
use Rattle.cep_rule.specs.TypeLaws.{TypeLaws}
use Rattle.cep_rule.specs.Step.{Step}
use Rattle.cep_rule.specs.Steps.{MakesFit}
use Rattle.cep_term.specs.BagLaws.{BagLaws}
use Rattle.cep_rule.specs.Matching.{state_after}

-- What instances of rules are, that edits are steps and what they gain, and that steps lead to
-- states.
pub record StepLaws : Type 0 where
  pub bags : BagLaws
  pub types : TypeLaws
  pub taken_ground : (signature : Signature) (rule : Rule) (values : List Tree)
      → IsTypedRule signature rule → AreValues signature.cons rule.kinds values
      → AllByRecursion IsGroundAtom (taken_by signature rule values)
  pub added_ground : (signature : Signature) (rule : Rule) (values : List Tree)
      → IsTypedRule signature rule → AreValues signature.cons rule.kinds values
      → AllByRecursion IsGroundAtom (added_by signature rule values)
  pub used_ground : (signature : Signature) (rule : Rule) (values : List Tree)
      → IsTypedRule signature rule → AreValues signature.cons rule.kinds values
      → AllByRecursion IsGroundAtom (used_by signature rule values)
  pub made_ground : (signature : Signature) (rule : Rule) (values : List Tree)
      → IsTypedRule signature rule → AreValues signature.cons rule.kinds values
      → AllByRecursion IsGroundAtom (full_instances values rule.right)
  pub there : (signature : Signature) (rule : Rule) (values : List Tree) (state : Multiset)
      (a : AtomTree)
      → IsContained (left_of signature rule values) state
      → Contains (full_instances values (needed_of rule)) a → 0 < count_of state a
  pub taken : (signature : Signature) (rule : Rule) (values : List Tree) (state : Multiset)
      → IsContained (left_of signature rule values) state
      → IsContained (gathered (taken_by signature rule values)) state
  pub no_facts : (signature : Signature) (rule : Rule) (values : List Tree) (a : AtomTree)
      → is_fact signature a ≡ true → count_of (gathered (taken_by signature rule values)) a ≡ 0
  pub used : (signature : Signature) (rule : Rule) (values : List Tree) (state : Multiset)
      → IsContained (left_of signature rule values) state
      → IsContained (gathered (used_by signature rule values)) state
  pub no_facts_used : (signature : Signature) (rule : Rule) (values : List Tree) (a : AtomTree)
      → is_fact signature a ≡ true → count_of (gathered (used_by signature rule values)) a ≡ 0
  pub edit : (signature : Signature) (rule : Rule) (values : List Tree) (state : Multiset)
      → IsTypedRule signature rule → AreValues signature.cons rule.kinds values
      → IsState signature state → IsContained (left_of signature rule values) state
      → Step signature rule values state
      (state_after signature state (gathered (used_by signature rule values))
      (full_instances values rule.right))
  pub gain : (signature : Signature) (state taken : Multiset) (added : List AtomTree) → IsBag state
      → IsOnce (is_fact signature) state → IsBag taken → AllByRecursion IsGroundAtom added
      → state_after signature state taken added
      ≡ sum_of (difference_of state taken)
      (gathered (gained (is_fact signature) (difference_of state taken) added))
  pub lead : (signature : Signature) (rule : Rule) (values : List Tree) (old new : Multiset)
      → IsTypedRule signature rule → IsDividedRule signature rule
      → AreValues signature.cons rule.kinds values → IsState signature old → MakesFit rule values
      → Step signature rule values old new → IsState signature new
