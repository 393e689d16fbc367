-- What the parts of every program keep.
use Rattle.std.specs.Prelude.{◌≡◌, ◌↔◌, ℕ, ◌*◌, ◌%◌, ◌<◌, true, List, length, map, IsSome, IfSome}
use Rattle.std.specs.List.{AllByRecursion}
use Rattle.cep_rule.specs.declared.signature.Signature.{Signature}
use Rattle.cep_rule.specs.declared.rule.Rule.{Rule}
use Rattle.cep_rule.specs.declared.parts.Parts.{Parts}
use Rattle.cep_rule.specs.Patterns.{ClauseTree}
use Rattle.cep_rule.specs.Names.{AreNames, IsVariableName}
use Rattle.cep_rule.specs.Typing.{IsTyped, HasStatePredicate, IsBackward, is_fact}
use Rattle.cep_rule.specs.Limits.{IsSmall}
use Rattle.cep_rule.specs.Binding.{needed_of, IsBoundRule, IsBoundClause}
use Rattle.cep_rule.specs.Groundness.{IsGrounded}
use Rattle.cep_rule.specs.State.{IsState, Fits}

-- Each type, constructor, predicate, stage and rule has a name that no other of its kind has, and each variable has a name of a variable.
pub record AreNamed (parts : Parts) : Type 0 where
  pub sorts : AreNames parts.signature.sorts
  pub cons : AreNames (map (λ con. con.name) parts.signature.cons)
  pub preds : AreNames (map (λ pred. pred.name) parts.signature.preds)
  pub stages : AreNames (map (λ stage. stage.name) parts.stages)
  pub rules : AreNames (map (λ rule. rule.name) parts.rules)
  pub rule_vars : AllByRecursion (λ rule. AllByRecursion IsVariableName rule.vars) parts.rules
  pub clause_vars : AllByRecursion (λ clause. AllByRecursion IsVariableName clause.vars) parts.clauses

-- Each number is that of a type of the signature.
abbrev pub AreSorts : Signature → List ℕ → Type 0
AreSorts signature kinds = AllByRecursion (λ sort. sort < length signature.sorts) kinds

-- Each number of a type or a stage is that of one. (Those of constructors, predicates and variables are where atoms are well typed.)
pub record AreNumbersDeclared (parts : Parts) : Type 0 where
  pub con_sorts : AllByRecursion (λ con. con.sort < length parts.signature.sorts) parts.signature.cons
  pub con_args : AllByRecursion (λ con. AreSorts parts.signature con.args) parts.signature.cons
  pub pred_args : AllByRecursion (λ pred. AreSorts parts.signature pred.args) parts.signature.preds
  pub rule_kinds : AllByRecursion (λ rule. AreSorts parts.signature rule.kinds) parts.rules
  pub clause_kinds : AllByRecursion (λ clause. AreSorts parts.signature clause.kinds) parts.clauses
  pub next_stages : AllByRecursion (λ rule. IfSome rule.next (λ stage. stage < length parts.stages)) parts.rules
  pub start_stage : parts.start_stage < length parts.stages

-- A rule has a type for each variable, and all its atoms are well typed by these.
pub record IsTypedRule (signature : Signature) (rule : Rule) : Type 0 where
  pub kinds : length rule.kinds ≡ length rule.vars
  pub premises : AllByRecursion (IsTyped signature rule.kinds) (needed_of rule)
  pub backs : AllByRecursion (IsTyped signature rule.kinds) rule.backs
  pub right : AllByRecursion (IsTyped signature rule.kinds) rule.right

-- A clause has a type for each variable, and all its atoms are well typed by these.
pub record IsTypedClause (signature : Signature) (clause : ClauseTree) : Type 0 where
  pub kinds : length clause.kinds ≡ length clause.vars
  pub head : IsTyped signature clause.kinds clause.head
  pub goals : AllByRecursion (IsTyped signature clause.kinds) clause.goals

-- A rule needs and makes atoms that states may have, it keeps each fact that it needs, and its backward premises are of backward predicates.
pub record IsDividedRule (signature : Signature) (rule : Rule) : Type 0 where
  pub premises : AllByRecursion (HasStatePredicate signature) (needed_of rule)
  pub facts : AllByRecursion (λ premise. is_fact signature premise.atom ≡ true → premise.kept ≡ true) rule.premises
  pub right : AllByRecursion (HasStatePredicate signature) rule.right
  pub backs : AllByRecursion (IsBackward signature) rule.backs

-- The head and the goals of a clause are of backward predicates.
pub record IsDividedClause (signature : Signature) (clause : ClauseTree) : Type 0 where
  pub head : IsBackward signature clause.head
  pub goals : AllByRecursion (IsBackward signature) clause.goals

-- A rule is in a group of some stage, and it names a next stage if and only if it leaves its own.
pub record IsGroupedRule (stages : ℕ) (rule : Rule) : Type 0 where
  pub in_range : rule.group < 2 * stages
  pub leaves : IsSome rule.next ↔ (rule.group % 2 ≡ 1)

-- What the parts of a program keep.
pub record IsProgram (parts : Parts) : Type 0 where
  -- the parts are within the limits
  pub small : IsSmall parts
  -- the names are names, and differ in each space
  pub named : AreNamed parts
  -- the numbers of types and stages are in range
  pub in_range : AreNumbersDeclared parts
  -- all atoms are well typed
  pub typed_rules : AllByRecursion (IsTypedRule parts.signature) parts.rules
  pub typed_clauses : AllByRecursion (IsTypedClause parts.signature) parts.clauses
  -- each variable occurs where it can get its value
  pub bound_rules : AllByRecursion IsBoundRule parts.rules
  pub bound_clauses : AllByRecursion IsBoundClause parts.clauses
  -- predicates stand where those of their kind may
  pub divided_rules : AllByRecursion (IsDividedRule parts.signature) parts.rules
  pub divided_clauses : AllByRecursion (IsDividedClause parts.signature) parts.clauses
  -- each rule is in a group of a stage
  pub grouped : AllByRecursion (IsGroupedRule (length parts.stages)) parts.rules
  -- no backward premise calls a pair that may leave a variable unknown
  pub grounded : AllByRecursion (IsGrounded parts.clauses) parts.rules
  -- the start is a state that fits
  pub start : IsState parts.signature parts.start
  pub start_fits : Fits parts.start
