-- Private.
-- The atoms of both sides of offers, one after the other.
use Rattle.std.specs.Prelude.{◌≡◌, ◌++◌, List, [], slice_get, option_map, unwrap_or, Some}
use Rattle.cep_term.specs.Tree.{AtomTree}
use Rattle.cep_rule.specs.declared.rule.Rule.{Rule}
use Rattle.cep_rule.specs.declared.parts.Parts.{Parts}
use Rattle.cep_rule.specs.declared.offer.Offer.{Offer}
use Rattle.cep_rule.specs.Typing.{AreValues}
use Rattle.cep_rule.specs.Binding.{needed_of}
use Rattle.cep_rule.specs.Instances.{full_instances, kept_of}

-- the atoms that an offer needs, in written order
abbrev pub needed_by : Parts → Offer → List AtomTree
needed_by program offer =
    unwrap_or
    (option_map (λ rule. full_instances offer.values (needed_of rule))
    (slice_get program.rules offer.rule))
    []

-- the atoms that it gives: those that it makes, and then those that stay
abbrev pub given_by : Parts → Offer → List AtomTree
given_by program offer =
    unwrap_or
    (option_map (λ rule. full_instances offer.values (rule.right ++ kept_of program.signature rule))
    (slice_get program.rules offer.rule))
    []

-- An offer is of the program: it has a rule of its own, and its values are of the types of that
-- rule's variables.
pub record IsOfProgram (program : Parts) (offer : Offer) : Type 0 where
  pub rule : Rule
  pub numbered : slice_get program.rules offer.rule ≡ Some rule
  pub values : AreValues program.signature.cons rule.kinds offer.values
