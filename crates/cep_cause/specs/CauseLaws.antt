-- Private.
-- The laws that reorderings rest on.
use Rattle.std.specs.Prelude.{◌≡◌, true, List}
use Rattle.std.specs.List.{AllByRecursion}
use Rattle.std.specs.FinMap as finite
use Rattle.cep_term.specs.Tree.{Tree, AtomTree, IsGroundAtom}
use Rattle.cep_term.specs.BagLaws.{BagLaws}
use Rattle.cep_term.specs.Multiset.{Multiset, count_of, gathered, sum_of, difference_of, IsContained, IsBag, IsOnce, gained}
use Rattle.cep_rule.specs.declared.signature.Signature.{Signature}
use Rattle.cep_rule.specs.declared.rule.Rule.{Rule}
use Rattle.cep_rule.specs.Typing.{AreValues, is_fact}
use Rattle.cep_rule.specs.declared.parts.Parts.{Parts}
use Rattle.cep_rule.specs.Derivations.{ProofTree, Proves}
use Rattle.cep_rule.specs.Shapes.{IsProofOf}
use Rattle.cep_rule.specs.Instances.{full_instances, left_of, used_by}
use Rattle.cep_rule.specs.Matching.{state_after}
use Rattle.cep_rule.specs.State.{IsState, Fits}
use Rattle.cep_rule.specs.Step.{Step}
use Rattle.cep_rule.specs.Steps.{MakesFit}
use Rattle.cep_rule.specs.Program.{IsTypedRule, IsDividedRule}
use Rattle.cep_log.specs.Legal.{IsListing}

-- What multisets do; what a step needs and uses up is there; a step leads to one state, which is a
-- state; using up and adding is a step, which gains what it makes; a state that fits can be listed;
-- and derivations have the program's shape.
pub record CauseLaws : Type 0 where
  pub bags : BagLaws
  pub contained : (signature : Signature) (rule : Rule) (values : List Tree) (old new : Multiset)
      → Step signature rule values old new → IsContained (left_of signature rule values) old
  pub used : (signature : Signature) (rule : Rule) (values : List Tree) (state : Multiset)
      → IsContained (left_of signature rule values) state
      → IsContained (gathered (used_by signature rule values)) state
  pub no_facts : (signature : Signature) (rule : Rule) (values : List Tree) (a : AtomTree)
      → is_fact signature a ≡ true → count_of (gathered (used_by signature rule values)) a ≡ 0
  pub one_state : (signature : Signature) (rule : Rule) (values : List Tree)
      (old one other : Multiset)
      → Step signature rule values old one → Step signature rule values old other → one ≡ other
  pub lean : (signature : Signature) (rule : Rule) (values : List Tree) (state : Multiset)
      → IsTypedRule signature rule → AreValues signature.cons rule.kinds values
      → IsState signature state → IsContained (left_of signature rule values) state
      → Step signature rule values state
      (state_after signature state (gathered (used_by signature rule values))
      (full_instances values rule.right))
  pub lead : (signature : Signature) (rule : Rule) (values : List Tree) (old new : Multiset)
      → IsTypedRule signature rule → IsDividedRule signature rule
      → AreValues signature.cons rule.kinds values → IsState signature old → MakesFit rule values
      → Step signature rule values old new → IsState signature new
  pub ground_used : (signature : Signature) (rule : Rule) (values : List Tree)
      → IsTypedRule signature rule → AreValues signature.cons rule.kinds values
      → AllByRecursion IsGroundAtom (used_by signature rule values)
  pub ground_made : (signature : Signature) (rule : Rule) (values : List Tree)
      → IsTypedRule signature rule → AreValues signature.cons rule.kinds values
      → AllByRecursion IsGroundAtom (full_instances values rule.right)
  pub gain : (signature : Signature) (state taken : Multiset) (added : List AtomTree) → IsBag state
      → IsOnce (is_fact signature) state → IsBag taken → AllByRecursion IsGroundAtom added
      → state_after signature state taken added
      ≡ sum_of (difference_of state taken)
      (gathered (gained (is_fact signature) (difference_of state taken) added))
  pub listing : (signature : Signature) (state : Multiset) → IsState signature state → Fits state
      → IsListing signature (finite.entries state)
  pub shapes : (program : Parts) (proof : ProofTree) (a : AtomTree) → Proves program proof a
      → IsProofOf program proof
