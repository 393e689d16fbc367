-- What a step does.
use Rattle.std.specs.Prelude.{◌≡◌, List}
use Rattle.cep_term.specs.Tree.{Tree}
use Rattle.cep_term.specs.Multiset.{Multiset, IsBag, IsOnce}
use Rattle.cep_rule.specs.declared.signature.Signature.{Signature}
use Rattle.cep_rule.specs.declared.rule.Rule.{Rule}
use Rattle.cep_rule.specs.Typing.{is_fact}
use Rattle.cep_rule.specs.State.{joined}
use Rattle.cep_rule.specs.Instances.{left_of, right_of}

-- A step by a rule with values for its variables: some rest is left alone, and beside it the left side goes and the right side comes.
pub record Step (signature : Signature) (rule : Rule) (values : List Tree) (old new : Multiset) : Type 0 where
  pub rest : Multiset
  pub bag : IsBag rest
  pub once : IsOnce (is_fact signature) rest
  pub before : old ≡ joined signature (left_of signature rule values) rest
  pub after : new ≡ joined signature (right_of signature rule values) rest
