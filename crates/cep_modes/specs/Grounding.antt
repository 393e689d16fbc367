-- Which backward premises of rules call bad pairs.
use Rattle.std.specs.Prelude.{◌≡◌, ◌↔◌, ℕ, ◌<◌, Bool, true, List, [], ◌∷◌, length, Some, slice_get}
use Rattle.std.specs.List.{AllByRecursion}
use Rattle.cep_rule.specs.declared.rule.Rule.{Rule}
use Rattle.cep_rule.specs.declared.parts.Parts.{Parts}
use Rattle.cep_rule.specs.Patterns.{ClauseTree}
use Rattle.cep_rule.specs.Groundness.{IsUngroundedAt}
use Rattle.cep_rule.specs.Limits.{IsSmall}
use Rattle.cep_rule.specs.Program.{IsTypedRule, IsTypedClause}

-- Parts whose modes can be decided: they are within the limits, and all atoms are well typed.
pub record AreInOrder (parts : Parts) : Type 0 where
  pub small : IsSmall parts
  pub typed_rules : AllByRecursion (IsTypedRule parts.signature) parts.rules
  pub typed_clauses : AllByRecursion (IsTypedClause parts.signature) parts.clauses

-- The marks of a rule say of each of its backward premises whether it calls a bad pair.
pub record AreMarks (clauses : List ClauseTree) (rule : Rule) (marks : List Bool) : Type 0 where
  pub as_many : length marks ≡ length rule.backs
  pub each : (i : ℕ) → i < length rule.backs → (slice_get marks i ≡ Some true) ↔ IsUngroundedAt clauses rule i

-- There are marks for each rule, in order.
abbrev pub AreAllMarks : List ClauseTree → List Rule → List (List Bool) → Type 0
AreAllMarks clauses [] [] = Unit {0}
AreAllMarks clauses [] (marks ∷ lists) = ⊥
AreAllMarks clauses (rule ∷ rules) [] = ⊥
AreAllMarks clauses (rule ∷ rules) (marks ∷ lists) = AreMarks clauses rule marks × AreAllMarks clauses rules lists
