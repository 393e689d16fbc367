-- The limits of a program.
use Rattle.std.specs.Prelude.{ℕ, ◌≤◌, length, IfSome}
use Rattle.std.specs.List.{AllByRecursion}
use Rattle.cep_term.specs.Tree.{AtomTree, atom_nodes}
use Rattle.cep_base.specs.declared.limits.TheConstants.{MOST_ARGUMENTS, MOST_BACKS, MOST_CLAUSES, MOST_CONS, MOST_GOALS, MOST_HEIGHT, MOST_PATTERN_NODES, MOST_PREDS, MOST_PREMISES, MOST_RIGHT, MOST_RULES, MOST_SORTS, MOST_STAGES, MOST_VARIABLES}
use Rattle.cep_base.specs.Bounds.{IsTurnLimit}
use Rattle.cep_rule.specs.declared.signature.Signature.{Signature}
use Rattle.cep_rule.specs.declared.rule.Rule.{Rule}
use Rattle.cep_rule.specs.declared.parts.Parts.{Parts}
use Rattle.cep_rule.specs.Patterns.{ClauseTree}

-- A height within which backward premises may be derived.
pub record IsHeight (height : ℕ) : Type 0 where
  pub some : 1 ≤ height
  pub low : height ≤ MOST_HEIGHT

-- An atom of a rule or a clause has not too many nodes.
abbrev pub IsSmallPattern : AtomTree → Type 0
IsSmallPattern a = atom_nodes a ≤ MOST_PATTERN_NODES

-- There are not too many types, constructors and predicates, and none has too many arguments.
pub record IsSmallSignature (signature : Signature) : Type 0 where
  pub sorts : length signature.sorts ≤ MOST_SORTS
  pub cons : length signature.cons ≤ MOST_CONS
  pub preds : length signature.preds ≤ MOST_PREDS
  pub con_args : AllByRecursion (λ con. length con.args ≤ MOST_ARGUMENTS) signature.cons
  pub pred_args : AllByRecursion (λ pred. length pred.args ≤ MOST_ARGUMENTS) signature.preds

-- A rule has not too many variables, premises and right atoms, and its atoms are not too large.
pub record IsSmallRule (rule : Rule) : Type 0 where
  pub vars : length rule.vars ≤ MOST_VARIABLES
  pub premises : length rule.premises ≤ MOST_PREMISES
  pub backs : length rule.backs ≤ MOST_BACKS
  pub right : length rule.right ≤ MOST_RIGHT
  pub premise_nodes : AllByRecursion (λ premise. IsSmallPattern premise.atom) rule.premises
  pub back_nodes : AllByRecursion IsSmallPattern rule.backs
  pub right_nodes : AllByRecursion IsSmallPattern rule.right

-- A clause has not too many variables and goals, and its atoms are not too large.
pub record IsSmallClause (clause : ClauseTree) : Type 0 where
  pub vars : length clause.vars ≤ MOST_VARIABLES
  pub goals : length clause.goals ≤ MOST_GOALS
  pub head_nodes : IsSmallPattern clause.head
  pub goal_nodes : AllByRecursion IsSmallPattern clause.goals

-- All parts are within the limits.
pub record IsSmall (parts : Parts) : Type 0 where
  pub signature : IsSmallSignature parts.signature
  pub stages : length parts.stages ≤ MOST_STAGES
  pub rules : length parts.rules ≤ MOST_RULES
  pub clauses : length parts.clauses ≤ MOST_CLAUSES
  pub each_rule : AllByRecursion IsSmallRule parts.rules
  pub each_clause : AllByRecursion IsSmallClause parts.clauses
  pub turns : IfSome parts.turns IsTurnLimit
