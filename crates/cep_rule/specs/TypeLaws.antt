-- The laws of types on which proofs of other crates rest.
use Rattle.std.specs.Prelude.{◌≡◌, ℕ, ◌<◌, List, [], length, IsSome}
use Rattle.cep_term.specs.Tree.{Tree, Trees, AtomTree, IsGround, AreGround, IsGroundAtom, Occurs, OccursAmong, IsAtomInRange}
use Rattle.cep_term.specs.Values.{Values, value_of, term_instance, argument_instances}
use Rattle.cep_rule.specs.declared.signature.Signature.{Signature}
use Rattle.cep_rule.specs.declared.signature.Con.{Con}
use Rattle.cep_rule.specs.Typing.{HasSort, HaveSorts, IsTyped, IsTypedAt, IsValue, AreValues}
use Rattle.cep_rule.specs.Instances.{given, full_instance}

-- The variables of a well-typed atom have types, values of the right types are as many as these, and they make it a ground atom that is well typed.
pub record TypeLaws : Type 0 where
  pub in_range : (signature : Signature) (kinds : List ℕ) (a : AtomTree) → IsTyped signature kinds a → IsAtomInRange (length kinds) a
  pub as_many : (cons : List Con) (kinds : List ℕ) (values : List Tree) → AreValues cons kinds values → length values ≡ length kinds
  pub ground : (signature : Signature) (kinds : List ℕ) (values : List Tree) (a : AtomTree) → AreValues signature.cons kinds values → IsTyped signature kinds a → IsGroundAtom (full_instance values a)
  pub typed : (signature : Signature) (kinds : List ℕ) (values : List Tree) (a : AtomTree) → AreValues signature.cons kinds values → IsTyped signature kinds a → IsTyped signature [] (full_instance values a)
  -- variables have values of their types if and only if the instances are of theirs
  pub typed_at : (cons : List Con) (kinds : List ℕ) (values : Values) (sort : ℕ) (t : Tree) → HasSort cons kinds sort t → HasSort cons [] sort (term_instance values t) → IsGround (term_instance values t) → (v : ℕ) → Occurs v t → IsTypedAt cons kinds values v
  pub all_typed_at : (cons : List Con) (kinds : List ℕ) (values : Values) (sorts : List ℕ) (args : Trees) → HaveSorts cons kinds sorts args → HaveSorts cons [] sorts (argument_instances values args) → AreGround (argument_instances values args) → (v : ℕ) → OccursAmong v args → IsTypedAt cons kinds values v
  pub typed_by : (cons : List Con) (kinds : List ℕ) (values : Values) (sort : ℕ) (t : Tree) → HasSort cons kinds sort t → ((v : ℕ) → Occurs v t → IsTypedAt cons kinds values v × IsSome (value_of values v)) → IsValue cons sort (term_instance values t)
  pub all_typed_by : (cons : List Con) (kinds : List ℕ) (values : Values) (sorts : List ℕ) (args : Trees) → HaveSorts cons kinds sorts args → ((v : ℕ) → OccursAmong v args → IsTypedAt cons kinds values v × IsSome (value_of values v)) → AreGround (argument_instances values args) × HaveSorts cons [] sorts (argument_instances values args)
  -- each variable has a value of its type if and only if all values are of the right types
  pub from_each : (cons : List Con) (kinds : List ℕ) (values : List Tree) → length values ≡ length kinds → ((v : ℕ) → v < length values → IsTypedAt cons kinds (given values) v) → AreValues cons kinds values
  pub to_each : (cons : List Con) (kinds : List ℕ) (values : List Tree) → AreValues cons kinds values → (v : ℕ) → v < length values → IsTypedAt cons kinds (given values) v
